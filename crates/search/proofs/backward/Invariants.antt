use Rattle.search.proofs.BackwardWalk.{BackwardLoop}
use Rattle.search.proofs.backward.Given as goal

abbrev pub invariant-loop-t : goal.invariant-loop-t
invariant-loop-t l = BackwardLoop l.width l.initial.plan l.sides l.plan l.next l.t
