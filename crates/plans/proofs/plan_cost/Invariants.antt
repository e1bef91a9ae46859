use Rattle.std.specs.Prelude.{◌≡◌}
use Rattle.basics.specs.Summing.{Summed}
use Rattle.card.specs.Shows.{show_of}
use Rattle.model.specs.Thesis.{count_at}
use Rattle.plans.proofs.Loads.{slot_at}
use Rattle.plans.proofs.plan_cost.Given as goal

abbrev pub invariant-loop-t : goal.invariant-loop-t
invariant-loop-t l = Summed (show_of l.card).slots (slot_at (show_of l.card) l.plan) l.t l.cost × (l.prev ≡ count_at 0 l.plan l.t)
