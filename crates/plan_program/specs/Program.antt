-- What the parts of the program ask for.
use Rattle.std.specs.Prelude.{ℕ, ◌≤◌, ◌≡◌, List, length, take}
use Rattle.model.specs.Planners.{exact, work_bytes, planned_by}
use Rattle.card.specs.declared.Card.{Card}
use Rattle.card.specs.Shows.{show_of}

-- The area for the text is long enough for every listing.
pub record TextArea (out : List ℕ) : Type 0 where
  pub area : 300000 ≤ length out

-- An accepted card that the work area was long enough for, with its exact plan and the area for the text.
pub record PlannedText (card : Card) (plan out : List ℕ) : Type 0 where
  pub work : work_bytes exact (show_of card) ≤ 65536
  pub slots : (show_of card).slots ≤ length plan
  pub is : take (show_of card).slots plan ≡ planned_by exact (show_of card)
  pub text : TextArea out
