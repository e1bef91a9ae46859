use Rattle.std.specs.Prelude.{length, get_or}
use Rattle.basics.specs.Summing.{Summed}
use Rattle.card.specs.Shows.{show_of}
use Rattle.sheets.specs.Marks.{byte_cost, byte_at}
use Rattle.sheets.proofs.rows_cost.Given as goal

abbrev pub invariant-loop-x : goal.invariant-loop-x
invariant-loop-x l = Summed (length l.later) (λ y. byte_cost (show_of l.card) (byte_at l.earlier y) (get_or l.later y 0)) l.x l.cost
