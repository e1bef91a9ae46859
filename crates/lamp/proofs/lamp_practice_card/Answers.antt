use Rattle.lamp.proofs.Promised.{practises}
use Rattle.lamp.proofs.lamp_practice_card.Goals as goal

pub returns : goal.returns
returns c =
    let (outcome, (card_bytes, (accepted, enough))) = practises _ _ (c.practice_card.ensures.value, c.practice_card.ensures.card_after)
    c.from.ensures in
    record { outcome = outcome; card_bytes = card_bytes; accepted = accepted; enough = enough }
