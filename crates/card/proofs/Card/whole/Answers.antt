use Rattle.card.proofs.FieldsThere.{sized}
use Rattle.card.proofs.Card.whole.Goals as goal

pub invariant_of-result : goal.invariant_of-result
invariant_of-result c = record { sized = sized c.args.self.now.accepted c.args.self.now.header_is }
