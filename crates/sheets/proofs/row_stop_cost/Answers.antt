use Rattle.std.proofs.Common.{rules}
use Rattle.sheets.specs.Marks.{stop_cost, row_stop_cost}
use Rattle.sheets.proofs.ListSums.{by_places}
use Rattle.sheets.proofs.row_stop_cost.Goals as goal

pub returns : goal.returns
unfolding row_stop_cost
returns c = by_places (stop_cost c.args.down) c.args.row.now 0 (search rules)
