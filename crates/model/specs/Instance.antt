-- A show, `Instance`, and its card (document 01, 'The show card'): the places of the fields, how they are read, `instance_of`, and written,
-- `card_bytes`, the bounds of the numbers, and when a table is convex and when it never falls ('Running cost of a count').
use Rattle.std.specs.Prelude.{ℕ, ◌+◌, ◌-◌, ◌*◌, Bool, ◌&&◌, List, [], ◌∷◌, ◌++◌, take, drop, leb}
use Rattle.basics.specs.Tests.{every}
use Rattle.basics.specs.Lists.{rows}
use Rattle.basics.specs.Bytes.{little_endian, bytes_of}

-- A show: the rack (m modules, top step Q), T slots, the warm-up and cool-down price, the table F(0) to F(Q) and the loads.
-- Slots are counted from 0 here, and table and loads are functions of an index; beyond Q and T their values mean nothing.
pub record Instance : Type 0 where
  pub modules : ℕ
  pub top_step : ℕ
  pub slots : ℕ
  pub power_up : ℕ
  pub power_down : ℕ
  pub table : ℕ → ℕ
  pub load : ℕ → ℕ

-- The places of a card's fields: the column 'at' of the card's table. The mark begins at 0, and the head ends where the table begins.
abbrev pub version_place : ℕ
version_place = 3

abbrev pub modules_place : ℕ
modules_place = 5

abbrev pub top_step_place : ℕ
top_step_place = 6

abbrev pub slots_place : ℕ
slots_place = 7

abbrev pub power_up_place : ℕ
power_up_place = 9

abbrev pub power_down_place : ℕ
power_down_place = 13

abbrev pub head_length : ℕ
head_length = 17

-- The place of F(k).
abbrev pub entry_place : ℕ → ℕ
entry_place k = head_length + 4 * k

-- How many bytes the table has, where the top step is q: '4 each', 'F(0) to F(Q)'.
abbrev pub table_size : ℕ → ℕ
table_size q = 4 * (q + 1)

-- The place of the load of slot t (from 0), where the top step is q.
abbrev pub load_place : ℕ → ℕ → ℕ
load_place q t = head_length + table_size q + 2 * t

-- The fields of a card. Total: a missing byte reads as 0, so of a card that is refused by 1 to 5 the result means nothing.
unfoldable pub instance_of : List ℕ → Instance
instance_of card =
    record {
      modules = little_endian 1 card modules_place;
      top_step = little_endian 1 card top_step_place;
      slots = little_endian 2 card slots_place;
      power_up = little_endian 4 card power_up_place;
      power_down = little_endian 4 card power_down_place;
      table = λ k. little_endian 4 card (entry_place k);
      load = λ t. little_endian 2 card (load_place (little_endian 1 card top_step_place) t);
    }

-- The mark that a card begins with: 'hex 44 4C 53 ("DLS")'.
abbrev pub card_mark : List ℕ
card_mark = 0x44 ∷ 0x4C ∷ 0x53 ∷ []

-- The bytes of a card where the mark stands.
abbrev pub mark_of : List ℕ → List ℕ
mark_of card = take version_place card

-- The version that is read: 'version, 1'.
abbrev pub card_version : ℕ
card_version = 1

-- The version that a card says it has.
abbrev pub version_of : List ℕ → ℕ
version_of card = little_endian 2 card version_place

-- 'The length is 17 + 4(Q + 1) + 2T, no byte more.' It is where the load of one slot more would begin.
unfoldable pub card_length : Instance → ℕ
card_length i = load_place i.top_step i.slots

-- The entries of a table up to a top step as a card's fields.
abbrev pub table_fields : (top : ℕ) → (ℕ → ℕ) → List ℕ
table_fields q f = rows (q + 1) (λ k. bytes_of 4 (f k))

-- The bytes of a card where its table stands.
abbrev pub table_of : List ℕ → List ℕ
table_of card = take (table_size (instance_of card).top_step) (drop head_length card)

-- The bytes of a show's fields, as the card's table has them. A field too large for its bytes loses its high part.
abbrev pub front_bytes : List ℕ
front_bytes = card_mark ++ bytes_of 2 card_version

abbrev pub size_bytes : Instance → List ℕ
size_bytes i = bytes_of 1 i.modules ++ (bytes_of 1 i.top_step ++ bytes_of 2 i.slots)

abbrev pub price_bytes : Instance → List ℕ
price_bytes i = bytes_of 4 i.power_up ++ bytes_of 4 i.power_down

abbrev pub table_bytes : Instance → List ℕ
table_bytes i = table_fields i.top_step i.table

abbrev pub load_bytes : Instance → List ℕ
load_bytes i = rows i.slots (λ t. bytes_of 2 (i.load t))

-- The card of a show: its fields one after the other.
unfoldable pub card_bytes : Instance → List ℕ
card_bytes i = front_bytes ++ (size_bytes i ++ (price_bytes i ++ (table_bytes i ++ load_bytes i)))

-- A number that the rack may have: 'modules m, 1 to 200', 'Q, 1 to 200'.
abbrev pub rack_number : ℕ → Bool
rack_number n = leb 1 n && leb n 200

-- A table is convex at an entry: 'F(k−1) + F(k+1) ≥ 2F(k)', where k counts from 0 here.
unfoldable pub convex_at : (ℕ → ℕ) → ℕ → Bool
convex_at f k = leb (2 * f (k + 1)) (f k + f (k + 2))

-- 'The table is convex: F(k−1) + F(k+1) ≥ 2F(k) for 1 ≤ k < Q.'
unfoldable pub convex : ℕ → (ℕ → ℕ) → Bool
convex q f = every (q - 1) (convex_at f)

-- A table never falls: 'F(k) ≤ F(k+1) for 0 ≤ k < Q'.
unfoldable pub never_falls : ℕ → (ℕ → ℕ) → Bool
never_falls q f = every q (λ k. leb (f k) (f (k + 1)))

-- The entries of a table keep their bound: 'F(0) to F(Q), each at most 1,000,000'.
unfoldable pub table_in_range : ℕ → (ℕ → ℕ) → Bool
table_in_range q f = every (q + 1) (λ k. leb (f k) 1000000)

-- The highest price: 'warm-up price, at most 500,000,000', the cool-down price likewise.
abbrev pub price_bound : ℕ
price_bound = 500000000

-- The prices and the table keep their bounds.
unfoldable pub prices_in_range : Instance → Bool
prices_in_range i = leb i.power_up price_bound && (leb i.power_down price_bound && table_in_range i.top_step i.table)

-- The loads keep their bound: 'T loads, each at most m × Q'.
unfoldable pub loads_in_range : Instance → Bool
loads_in_range i = every i.slots (λ t. leb (i.load t) (i.modules * i.top_step))
