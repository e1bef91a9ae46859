-- The show of an accepted card, `show_of`.
use Rattle.model.specs.Instance.{Instance, instance_of}
use Rattle.card.specs.declared.Card.{Card}

-- The show of an accepted card.
abbrev pub show_of : Card → Instance
show_of card = instance_of card.bytes.now
