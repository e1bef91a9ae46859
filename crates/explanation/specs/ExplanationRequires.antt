-- What the functions of this crate ask for.
use Rattle.std.specs.Prelude.{ℕ, ◌≤◌, ◌≡◌, true, List, length}
use Rattle.model.specs.Sheets.{serves, sheet_cost, counts_of}
use Rattle.model.specs.Planners.{exact, work_bytes}
use Rattle.card.specs.declared.Card.{Card}
use Rattle.card.specs.Shows.{show_of}
use Rattle.sheets.specs.SheetRequires.{SheetSized}

-- On an accepted card a sheet of m × T bytes, and room for one count for each slot.
pub record CountsRoom (card : Card) (sheet counts : List ℕ) : Type 0 where
  pub sized : SheetSized card sheet
  pub slotwise : length counts ≡ (show_of card).slots

-- On an accepted card a sheet of m × T bytes, and the sheet's counts.
pub record CountsKnown (card : Card) (sheet counts : List ℕ) : Type 0 where
  pub sized : SheetSized card sheet
  pub counts_are : counts ≡ counts_of (show_of card) sheet

-- On an accepted card a sheet that serves its show, and the sheet's cost.
pub record Marked (card : Card) (sheet : List ℕ) (cost : ℕ) : Type 0 where
  pub served : serves (show_of card) sheet ≡ true
  pub cost_is : cost ≡ sheet_cost (show_of card) sheet

-- On an accepted card the exact planner's work bytes.
pub record WorkRoom (card : Card) (work : List ℕ) : Type 0 where
  pub work_room : work_bytes exact (show_of card) ≤ length work

-- The same, and room for one count for each slot.
pub record PointsRoom (card : Card) (counts work : List ℕ) : Type 0 where
  pub slotwise : length counts ≡ (show_of card).slots
  pub work_room : WorkRoom card work
