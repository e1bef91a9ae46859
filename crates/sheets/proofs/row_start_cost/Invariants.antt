use Rattle.std.specs.Prelude.{length, get_or}
use Rattle.basics.specs.Summing.{Summed}
use Rattle.card.specs.Shows.{show_of}
use Rattle.sheets.specs.Marks.{byte_cost, all_off}
use Rattle.sheets.proofs.row_start_cost.Given as goal

abbrev pub invariant-loop-b : goal.invariant-loop-b
invariant-loop-b l = Summed (length l.row) (λ j. byte_cost (show_of l.card) (all_off j) (get_or l.row j 0)) l.b-index l.cost
