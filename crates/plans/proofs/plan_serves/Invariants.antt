use Rattle.std.specs.Prelude.{get_or}
use Rattle.basics.specs.Tests.{Passed}
use Rattle.card.specs.Shows.{show_of}
use Rattle.model.specs.Counts.{can_serve}
use Rattle.plans.proofs.plan_serves.Given as goal

abbrev pub invariant-loop-t : goal.invariant-loop-t
invariant-loop-t l = Passed (show_of l.card).slots (λ u. can_serve (show_of l.card) (get_or l.plan u 0) ((show_of l.card).load u)) l.t
