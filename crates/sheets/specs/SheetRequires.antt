-- What the functions of this crate ask for.
use Rattle.std.specs.Prelude.{ℕ, ◌≤◌, ◌<◌, ◌≡◌, true, List, length, get_or}
use Rattle.model.specs.Sheets.{is_entry, sheet_entries}
use Rattle.model.specs.Specs.{sheet_bytes}
use Rattle.card.specs.declared.Card.{Card}
use Rattle.card.specs.Shows.{show_of}
use Rattle.counts.specs.Serving.{Served}
use Rattle.plans.specs.PlanRequires.{PlanReady}

-- On an accepted card a count n of its rack that can serve the load l, and a row with room for n active modules.
pub record RowFits (card : Card) (n l : ℕ) (row : List ℕ) : Type 0 where
  pub served : Served card n l
  pub in_row : n ≤ length row

-- A plan that is ready, and a sheet buffer of at least m × T bytes.
pub record SheetRoom (card : Card) (p sheet : List ℕ) : Type 0 where
  pub plan : PlanReady card p
  pub room : sheet_bytes (show_of card) ≤ length sheet

-- A byte of an accepted card that is 0 to Q or 255.
pub record ByteReady (card : Card) (byte : ℕ) : Type 0 where
  pub in_range : is_entry (show_of card).top_step byte ≡ true

-- On an accepted card at most 200 × 1,024 bytes, each of which is 0 to Q or 255.
pub record BytesReady (card : Card) (bytes : List ℕ) : Type 0 where
  pub few : length bytes ≤ 204800
  pub in_range : (x : ℕ) → x < length bytes → is_entry (show_of card).top_step (get_or bytes x 0) ≡ true

-- The row has at most 200 bytes.
pub record RowShort (row : List ℕ) : Type 0 where
  pub short : length row ≤ 200

-- The row has at most 200 bytes, and the price is in range.
pub record RowPriced (price : ℕ) (row : List ℕ) : Type 0 where
  pub short : length row ≤ 200
  pub priced : price ≤ 500000000

-- On an accepted card a sheet of m × T bytes.
pub record SheetSized (card : Card) (sheet : List ℕ) : Type 0 where
  pub size : length sheet ≡ sheet_bytes (show_of card)

-- On an accepted card a sheet of m × T bytes, each of which is 0 to Q or 255.
pub record SheetReady (card : Card) (sheet : List ℕ) : Type 0 where
  pub sized : SheetSized card sheet
  pub entries : sheet_entries (show_of card) sheet ≡ true
