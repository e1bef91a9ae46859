-- What the planners' functions ask for.
use Rattle.std.specs.Prelude.{ℕ, ◌≤◌, Bool, ◌||◌, List, length, ltb}
use Rattle.model.specs.Instance.{Instance}
use Rattle.model.specs.Planners.{Planner, work_bytes}
use Rattle.model.specs.Promises.{KeepsRules}
use Rattle.thresholds.specs.Places.{Ascending}
use Rattle.card.specs.declared.Card.{Card}
use Rattle.card.specs.Shows.{show_of}

-- On an accepted card a plan buffer with a byte for each slot, and a work buffer with the bytes asked for.
pub record Buffers (card : Card) (asked : ℕ) (plan work : List ℕ) : Type 0 where
  pub plan_room : (show_of card).slots ≤ length plan
  pub work_room : asked ≤ length work

-- The same, with the work bytes that a planner asks for.
abbrev pub BuffersFor : Planner → Card → (plan work : List ℕ) → Type 0
BuffersFor k card = Buffers card (work_bytes k (show_of card))

-- The planner's list of counts and its ratio, if it has them, keep the rules on the card.
pub record RulesKept (k : Planner) (card : Card) : Type 0 where
  pub keeps : KeepsRules k (show_of card)

-- The two buffers, for a planner whose list keeps the rules.
pub record PlannerReady (k : Planner) (card : Card) (plan work : List ℕ) : Type 0 where
  pub keeps : KeepsRules k (show_of card)
  pub buffers : BuffersFor k card plan work

-- Room for the counts of the largest rack, for a planner whose list keeps the rules.
pub record CountsRoom (k : Planner) (card : Card) (counts : List ℕ) : Type 0 where
  pub keeps : KeepsRules k (show_of card)
  pub room : 201 ≤ length counts

-- The two buffers, with a list of allowed counts, and at least a work byte for each slot asked for.
pub record CountsReady (card : Card) (counts : List ℕ) (asked : ℕ) (plan work : List ℕ) : Type 0 where
  pub buffers : Buffers card asked plan work
  pub allowed : Ascending counts (show_of card).modules
  pub enough : (show_of card).slots ≤ asked

-- One of two buffers of these lengths is too short: the plan's for a byte for each slot, or the work's for the bytes asked for.
unfoldable pub either_short : (asked : ℕ) → Instance → (plan work : ℕ) → Bool
either_short n i p w = ltb p i.slots || ltb w n

-- The same, with the work bytes that a planner asks for.
abbrev pub short_for : Planner → Instance → (plan work : ℕ) → Bool
short_for k i = either_short (work_bytes k i) i
