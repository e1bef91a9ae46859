use Rattle.std.specs.Prelude.{leb}
use Rattle.basics.specs.Tests.{Passed}
use Rattle.model.specs.Instance.{instance_of}
use Rattle.card.proofs.WholeCard.table_in_range.Given as goal

abbrev pub invariant-loop-k : goal.invariant-loop-k
invariant-loop-k l = Passed l.entries (λ j. leb ((instance_of l.self.bytes.now).table j) 1000000) l.k
