-- What serving a load with a count asks for.
use Rattle.std.specs.Prelude.{ℕ, ◌*◌, ◌≤◌}
use Rattle.card.specs.declared.Card.{Card}
use Rattle.card.specs.Shows.{show_of}

-- On an accepted card a count n of its rack that can serve the load l.
pub record Served (card : Card) (n l : ℕ) : Type 0 where
  pub in_rack : n ≤ (show_of card).modules
  pub serves : l ≤ n * (show_of card).top_step
