-- An accepted card is as long as its header says, so it has each load.
use Rattle.std.specs.Prelude.{ℕ, ◌≤◌, ◌<◌, List}
use Rattle.basics.specs.Core.{arith}
use Rattle.model.specs.Calls.{Accepted}
use Rattle.laws.specs.Acceptance.{card_size}
use Rattle.card.specs.declared.Header.{Header}
use Rattle.card.specs.declared.Card.{Card}
use Rattle.card.specs.Fields.{HeaderOf, Sized}
use Rattle.card.specs.Shows.{show_of}

pub sized : {s : List ℕ} {h : Header} → Accepted s → HeaderOf s h → Sized s h
sized {s} accepted header_is = record { header = header_is; size = omega (arith, card_size s accepted, header_is.top_is, header_is.slots_is) }

module _ (card : Card) where
  module _ {t : ℕ} where
    pub in_header : t < card.header.slots → t < (show_of card).slots
    in_header below = omega (arith, card.header_is.slots_is)

    pub past_header : card.header.slots ≤ t → (show_of card).slots ≤ t
    past_header past = omega (arith, card.header_is.slots_is)

    pub in_show : t < (show_of card).slots → t < card.header.slots
    in_show below = omega (arith, card.header_is.slots_is)
