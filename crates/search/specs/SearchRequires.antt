-- What the functions of the search ask for.
use Rattle.std.specs.Prelude.{ℕ, ◌+◌, ◌≤◌, ◌<◌, ◌≡◌, List, length, get_or}
use Rattle.card.specs.Shows.{show_of}
use Rattle.thresholds.specs.Places.{count_at_place}
use Rattle.thresholds.specs.Thresholds.{level_price}
use Rattle.search.specs.declared.allowed.Allowed.{Allowed}

-- The largest lead of a level: the price of switching on the largest rack at the highest prices.
abbrev pub most_lead : ℕ
most_lead = 200000000000

-- A level's price and what the place below it costs, each within its bound.
pub record Weighable (price lower : ℕ) : Type 0 where
  pub priced : price ≤ most_lead
  pub served : lower ≤ 200000000

-- An accepted card with its counts, a level with its price, and a lead that it may have.
pub record LevelReady (allowed : Allowed) (level price lead : ℕ) : Type 0 where
  pub price_is : price ≡ level_price (show_of allowed.card.now) allowed.counts.now level
  pub small : lead ≤ most_lead

-- The width of a round, from 1 to 128.
pub record Width (b : ℕ) : Type 0 where
  pub some : 1 ≤ b
  pub most : b ≤ 128

-- A place in a byte, the width of a round, and a side.
pub record Raisable (b place side : ℕ) : Type 0 where
  pub width : Width b
  pub byte : place ≤ 255
  pub side_most : side ≤ 2

-- An accepted card with its counts, a plan so far, and room for a side for each slot.
pub record SlotsReady (allowed : Allowed) (plan sides : List ℕ) : Type 0 where
  pub plan_size : length plan ≡ (show_of allowed.card.now).slots
  pub sides_size : length sides ≡ (show_of allowed.card.now).slots

-- The same, with the width of a round.
pub record RoundReady (allowed : Allowed) (b : ℕ) (plan sides : List ℕ) : Type 0 where
  pub slots : SlotsReady allowed plan sides
  pub width : Width b

-- The same, with the number of rounds, which is at most eight.
pub record RoundsReady (allowed : Allowed) (e : ℕ) (plan sides : List ℕ) : Type 0 where
  pub slots : SlotsReady allowed plan sides
  pub few : e ≤ 8

-- The width of a round, a plan so far, and its sides. A place that may be raised stays in a byte.
pub record BackReady (b : ℕ) (plan sides : List ℕ) : Type 0 where
  pub width : Width b
  pub size : length sides ≡ length plan
  pub inside : (t : ℕ) → t < length plan → 1 ≤ get_or sides t 0 → get_or plan t 0 + b ≤ 255
  pub sides_most : (t : ℕ) → t < length plan → get_or sides t 0 ≤ 2

-- A plan of places: each is a place of the list, whose counts fit in a byte.
pub record Placed (counts plan : List ℕ) : Type 0 where
  pub inside : (t : ℕ) → t < length plan → get_or plan t 0 < length counts
  pub bytes : (j : ℕ) → count_at_place counts j ≤ 255

-- What the search asks for: an accepted card with its counts, a plan with a byte for each slot, and a work byte for each slot.
pub record Searchable (allowed : Allowed) (plan work : List ℕ) : Type 0 where
  pub plan_size : length plan ≡ (show_of allowed.card.now).slots
  pub work_room : (show_of allowed.card.now).slots ≤ length work
