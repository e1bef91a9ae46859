use Rattle.basics.specs.Core.{arith, le-leb, lt-leb}
use Rattle.basics.specs.Tests.{passed_none, passed_more, passed_all, passed_not}
use Rattle.model.specs.Instance.{table_in_range}
use Rattle.card.proofs.WholeCard.table_in_range.Goals as goal

pub loop-k-init : goal.loop-k-init
loop-k-init c = passed_none _ _

pub returns-then-entry-gt1000000 : goal.returns-then-entry-gt1000000
unfolding table_in_range
returns-then-entry-gt1000000 c =
    passed_not c.loop-k.invariant (omega arith)
    (rw (← c.entry.ensures.is) (lt-leb _ _ c.if-entry-gt1000000.true))

pub loop-k-preserved : goal.loop-k-preserved
loop-k-preserved c =
    passed_more c.loop-k.invariant (omega arith)
    (rw (← c.entry.ensures.is) (le-leb _ _ c.if-entry-gt1000000.false))

pub returns : goal.returns
unfolding table_in_range
returns c = passed_all c.loop-k.invariant (omega arith)
