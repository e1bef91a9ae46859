-- A sheet's byte: whether it is an entry, its step and its cost.
use Rattle.std.specs.Prelude.{ℕ, ◌+◌, ◌*◌, ◌≤◌, ◌<◌, ◌≡◌, Bool, true, false, cond, not, List, length, get_or, leb}
use Rattle.basics.specs.Core.{◌∙◌, or-false, ⊎_elim, mul-le-mul, arith}
use Rattle.basics.specs.Core.{leb-true, eq-eqb, ne_eqb, eqb-false}
use Rattle.basics.specs.Numbers.{true_or_false}
use Rattle.basics.specs.Tests.{every_at, test_failed, test_passed}
use Rattle.basics.specs.Sums.{sum_at_most}
use Rattle.basics.specs.Parts.{get_or_within}
use Rattle.model.specs.Instance.{Instance}
use Rattle.model.specs.Sheets.{is_entry, off, is_off, sheet_entries, step_cost, change_cost}
use Rattle.model.specs.Specs.{sheet_bytes}
use Rattle.card.specs.declared.Card.{Card}
use Rattle.card.specs.Shows.{show_of}
use Rattle.laws.specs.Acceptance.{accepted_bounds}
use Rattle.sheets.specs.Marks.{byte_cost, bytes_cost, stop_cost}
use Rattle.sheets.specs.SheetRequires.{ByteReady, BytesReady, SheetReady}

-- The step of an active module is at most the top step.
active_step_lem : {b : ℕ} → (b ≡ off → ⊥) → (top : ℕ) → is_entry top b ≡ true → b ≤ top
active_step_lem {b} active top e = leb-true b top (rw (ne_eqb b off active, or-false (leb b top)) at e)

-- The test of a byte against the card's top step.
module _ (card : Card) (sheet : List ℕ) {x : ℕ} (inside : x < length sheet) {flag : Bool}
    (flag_is : flag ≡ is_entry card.header.top_step (get_or sheet x 0)) where
  entry_is : is_entry (show_of card).top_step (get_or sheet x off) ≡ is_entry card.header.top_step (get_or sheet x 0)
  entry_is = rw (get_or_within sheet x off 0 inside, card.header_is.top_is)

  pub entry_failed : not flag ≡ true → is_entry (show_of card).top_step (get_or sheet x off) ≡ false
  entry_failed f = entry_is ∙ test_failed flag_is f

  pub entry_passed : not flag ≡ false → is_entry (show_of card).top_step (get_or sheet x off) ≡ true
  entry_passed f = entry_is ∙ test_passed flag_is f

-- Each of some bytes that are ready is ready alone.
byte_ready :
    {card : Card} {bytes : List ℕ} (x : ℕ) → BytesReady card bytes → x < length bytes → ByteReady card (get_or bytes x 0)
byte_ready x given below = record { in_range = given.in_range x below }

-- A sheet has at most 200 × 1,024 bytes.
pub area_small : (card : Card) → sheet_bytes (show_of card) ≤ 204800
area_small card = mul-le-mul (accepted_bounds _ card.accepted).modules.1 (accepted_bounds _ card.accepted).slots

-- The part of a sheet from place a on is ready as the sheet is.
pub part_ready :
    {card : Card} {sheet : List ℕ} → SheetReady card sheet → (a : ℕ) (part : List ℕ) → a + length part ≤ length sheet →
    ((x : ℕ) → x < length part → get_or part x 0 ≡ get_or sheet (a + x) 0) → BytesReady card part
unfolding sheet_entries
part_ready {card} {sheet} given a part inside same =
    record {
      few = omega (arith, area_small card);
      in_range = λ x below.
          let place : a + x < length sheet = omega arith in
          rw (same x below, get_or_within sheet (a + x) 0 off place) (every_at (length sheet) _ given.entries (a + x) place);
    }

-- The three ways through a byte's cost.
module _ (i : Instance) (prev b : ℕ) where
  pub cost_stopped : b ≡ off → {down r : ℕ} → down ≡ i.power_down → r ≡ stop_cost down prev → r ≡ byte_cost i prev b
  unfolding byte_cost step_cost change_cost
  cost_stopped is-off p e = rw (eq-eqb b off is-off, e, p) (omega arith)

  module _ (active : b ≡ off → ⊥) {x operating : ℕ} (x-is : x ≡ b) (is : operating ≡ i.table x) where
    pub cost_started : prev ≡ off → {up : ℕ} → up ≡ i.power_up → operating + up ≡ byte_cost i prev b
    unfolding byte_cost step_cost change_cost
    cost_started e p = rw (eq-eqb prev off e, ne_eqb b off active, is, x-is, p)

    pub cost_kept : (prev ≡ off → ⊥) → operating ≡ byte_cost i prev b
    unfolding byte_cost step_cost change_cost
    cost_kept n = rw (ne_eqb prev off n, ne_eqb b off active, is, x-is) (omega arith)

-- What only active modules have is at most what an active module has.
at_most : (b : ℕ) {x y : ℕ} → x ≤ y → cond (is_off b) 0 x ≤ y
at_most b {x} {y} h = go (is_off b)
  where
    go : (t : Bool) → cond t 0 x ≤ y
    go true = omega arith
    go false = h

-- The change of any byte to off costs at most the price.
pub stop_each : (row : List ℕ) {down most : ℕ} → down ≤ most → (k : ℕ) → k < length row → stop_cost down (get_or row k 0) ≤ most
stop_each row below k h = at_most (get_or row k 0) below

-- A byte costs at most 501,000,000.
module _ (card : Card) (prev b : ℕ) (given : ByteReady card b) where
  step_most : step_cost (show_of card) b ≤ 1000000
  unfolding step_cost
  step_most =
      ⊎_elim
      (λ (t : is_off b ≡ true). rw t (omega arith))
      (λ (t : is_off b ≡ false). rw t ((accepted_bounds _ card.accepted).table b (active_step_lem (eqb-false b off t) _ given.in_range)))
      (true_or_false (is_off b))

  change_most : change_cost (show_of card) prev b ≤ 500000000
  unfolding change_cost
  change_most = go (is_off prev) (is_off b)
    where
      go : (x y : Bool) → cond x (cond y 0 (show_of card).power_up) (cond y (show_of card).power_down 0) ≤ 500000000
      go true true = omega arith
      go true false = (accepted_bounds _ card.accepted).power_up
      go false true = (accepted_bounds _ card.accepted).power_down
      go false false = omega arith

  byte_most : byte_cost (show_of card) prev b ≤ 501000000
  unfolding byte_cost
  byte_most = omega (arith, step_most, change_most)

module _ {card : Card} {bytes : List ℕ} (given : BytesReady card bytes) (before : ℕ → ℕ) where
  pub bytes_each : (x : ℕ) → x < length bytes → byte_cost (show_of card) (before x) (get_or bytes x 0) ≤ 501000000
  bytes_each x below = byte_most card (before x) (get_or bytes x 0) (byte_ready x given below)

  pub bytes_most : {cost : ℕ} → cost ≡ bytes_cost (show_of card) before bytes → cost ≤ 204800 * 501000000
  unfolding bytes_cost
  bytes_most e = omega (arith, sum_at_most (length bytes) bytes_each)
