use Rattle.basics.specs.Core.{arith}
use Rattle.basics.specs.Tests.{passed_none, passed_more, passed_all, passed_not, test_failed, test_passed}
use Rattle.model.specs.Instance.{convex}
use Rattle.card.proofs.WholeCard.is_convex.Goals as goal

pub loop-k-init : goal.loop-k-init
loop-k-init c = passed_none _ _

pub returns-then-not-convex_at : goal.returns-then-not-convex_at
unfolding convex
returns-then-not-convex_at c =
    passed_not c.loop-k.invariant (omega arith) (search test_failed)

pub loop-k-preserved : goal.loop-k-preserved
loop-k-preserved c =
    passed_more c.loop-k.invariant (omega arith) (search test_passed)

pub returns : goal.returns
unfolding convex
returns c = passed_all c.loop-k.invariant (omega arith)
