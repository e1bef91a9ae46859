use Rattle.std.proofs.Common.{rules}
use Rattle.model.specs.Sheets.{active_of}
use Rattle.sheets.proofs.ListSums.{by_places}
use Rattle.explanation.specs.Exchanges.{row_active}
use Rattle.explanation.proofs.row_active.Goals as goal

pub returns : goal.returns
unfolding row_active
returns c = by_places active_of c.args.row.now 0 (search rules)
