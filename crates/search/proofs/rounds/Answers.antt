use Rattle.search.proofs.RoundsWalk.{backward_ready, rounds_turn, rounds_end}
use Rattle.search.proofs.rounds.Goals as goal

pub backward-requires : goal.backward-requires
backward-requires c =
    backward_ready c.requires c.loop-e.invariant c.loop-e-test.true c.power-width.ensures c.forward.ensures
    c.forward.auto.sides

pub loop-e-preserved : goal.loop-e-preserved
loop-e-preserved c =
    rounds_turn c.requires c.loop-e.invariant c.loop-e-test.true c.power-width.ensures c.forward.ensures
    c.backward.ensures c.backward.auto.plan c.forward.auto.sides

pub returns : goal.returns
returns c = rounds_end c.loop-e.invariant c.loop-e-test.false
