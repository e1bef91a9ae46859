-- What the functions of this crate ask for.
use Rattle.std.specs.Prelude.{ℕ, ◌≤◌, ◌<◌, ◌≡◌, true, List, length, get_or}
use Rattle.model.specs.Plans.{plan_serves}
use Rattle.card.specs.declared.Card.{Card}
use Rattle.card.specs.Shows.{show_of}

-- On an accepted card a plan with one count for each slot.
pub record PlanSized (card : Card) (p : List ℕ) : Type 0 where
  pub slotwise : length p ≡ (show_of card).slots

-- On an accepted card a plan with one count for each slot, which is in the rack and serves the slot's load.
pub record PlanReady (card : Card) (p : List ℕ) : Type 0 where
  pub sized : PlanSized card p
  pub in_rack : (t : ℕ) → t < (show_of card).slots → get_or p t 0 ≤ (show_of card).modules
  pub served : plan_serves (show_of card) p ≡ true
