use Rattle.std.proofs.Common.{rules}
use Rattle.model.specs.Sheets.{step_of}
use Rattle.sheets.specs.Marks.{row_light}
use Rattle.sheets.proofs.ListSums.{by_places}
use Rattle.sheets.proofs.slot_light.Goals as goal

pub returns : goal.returns
unfolding row_light
returns c = by_places step_of c.args.row.now 0 (search rules)
