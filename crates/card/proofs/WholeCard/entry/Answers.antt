use Rattle.model.specs.Instance.{instance_of}
use Rattle.card.proofs.WholeCard.entry.Goals as goal

pub returns : goal.returns
unfolding instance_of
returns c = record { is = c.take.ensures.number; bound = c.take.ensures.bound }
