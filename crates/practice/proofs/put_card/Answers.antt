use Rattle.encoder.proofs.CardParts.{card_written}
use Rattle.practice.proofs.put_card.Goals as goal

pub returns : goal.returns
returns c = search card_written
