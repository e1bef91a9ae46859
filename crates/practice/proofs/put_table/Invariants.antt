use Rattle.practice.proofs.TableLoop.{TableSoFar}
use Rattle.practice.proofs.put_table.Given as goal

abbrev pub invariant-loop-k : goal.invariant-loop-k
invariant-loop-k l = TableSoFar l.fn.first l.initial.writer l.k l.writer l.state l.difference l.entry
