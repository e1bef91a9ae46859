use Rattle.card.proofs.FieldsRead.{Taken}
use Rattle.card.proofs.Cursor.take.Given as goal

abbrev pub invariant-loop-k : goal.invariant-loop-k
invariant-loop-k g l = Taken l.bytes l.self.at g.row.W l.k l.value
