use Rattle.std.specs.Prelude.{refl}
use Rattle.basics.specs.Core.{arith}
use Rattle.search.proofs.BackwardWalk.{backward_starts, backward_turns, backward_ends, byte_raised}
use Rattle.search.proofs.backward.Goals as goal

pub loop-t-init : goal.loop-t-init
loop-t-init c = backward_starts _ _ _

pub overflow_cast-plan : goal.overflow_cast-plan
overflow_cast-plan c =
    record {
      fits =
          byte_raised c.loop-t.invariant c.loop-t-test.true c.from.ensures refl c.raise-next.ensures
          c.requires (omega arith);
    }

pub loop-t-preserved : goal.loop-t-preserved
loop-t-preserved c =
    backward_turns c.loop-t.invariant c.loop-t-test.true c.from.ensures refl c.raise-next.ensures

pub returns : goal.returns
returns c = backward_ends c.loop-t.invariant c.loop-t-test.false
