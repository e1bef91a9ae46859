use Rattle.std.specs.Prelude.{◌-◌}
use Rattle.basics.specs.Tests.{Passed}
use Rattle.model.specs.Instance.{instance_of, convex_at}
use Rattle.card.proofs.WholeCard.is_convex.Given as goal

abbrev pub invariant-loop-k : goal.invariant-loop-k
invariant-loop-k l = Passed (l.self.header.top_step - 1) (convex_at (instance_of l.self.bytes.now).table) l.k
