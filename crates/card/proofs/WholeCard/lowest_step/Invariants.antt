use Rattle.model.specs.Instance.{instance_of}
use Rattle.card.proofs.Lowest.{Fallen}
use Rattle.card.proofs.WholeCard.lowest_step.Given as goal

abbrev pub invariant-loop-k : goal.invariant-loop-k
invariant-loop-k l = Fallen (instance_of l.self.bytes.now).table l.top_step l.k
