use Rattle.practice.proofs.LoadsLoop.{LoadsSoFar}
use Rattle.practice.proofs.put_loads.Given as goal

abbrev pub invariant-loop : goal.invariant-loop
invariant-loop l = LoadsSoFar l.fn.first l.bound l.initial.writer l.counter l.writer l.state
