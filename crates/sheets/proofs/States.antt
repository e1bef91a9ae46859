-- The bytes of a sheet of m × T bytes are its states, slot by slot and module by module.
use Rattle.std.specs.Prelude.{ℕ, zero, suc, ◌+◌, ◌-◌, ◌*◌, ◌≤◌, ◌<◌, ◌≡◌, true, false, cond, List, length, get_or, leb, ltb}
use Rattle.basics.specs.Core.{ap, sym, ◌∙◌, arith}
use Rattle.basics.specs.Core.{lt-ltb, le-ltb, le-leb, lt-leb}
use lib.Arith.{digits_lt}
use borrow.Rule.Slice.PartMut.{mid_of}
use Rattle.basics.specs.Sums.{sum_ext}
use Rattle.basics.specs.Parts.{get_or_within, part_length, part_at}
use Rattle.basics.specs.Rows.{row_within}
use Rattle.model.specs.Instance.{Instance}
use Rattle.model.specs.Sheets.{off, step_of, state_at, light_at}
use Rattle.card.specs.declared.Card.{Card}
use Rattle.card.specs.Shows.{show_of}
use Rattle.sheets.specs.Marks.{row_light}
use Rattle.sheets.specs.SheetRequires.{SheetSized}

-- The byte of the same module in the slot before byte x, where a row has m bytes.
unfoldable pub state_before : ℕ → List ℕ → ℕ → ℕ
state_before m s x = cond (ltb x m) off (get_or s (x - m) 0)

module _ (i : Instance) (s : List ℕ) (size : length s ≡ i.modules * i.slots) where
  place_within : (t k : ℕ) → t < i.slots → k < i.modules → t * i.modules + k < length s
  place_within t k h g = omega (arith, size, digits_lt h g)

  pub state_is : (t k : ℕ) → t < i.slots → k < i.modules → state_at i s (suc t) k ≡ get_or s (t * i.modules + k) 0
  unfolding state_at
  state_is t k h g = rw (lt-ltb t i.slots h) (get_or_within s (t * i.modules + k) _ 0 (place_within t k h g))

  pub before_is : (t k : ℕ) → t < i.slots → k < i.modules → state_before i.modules s (t * i.modules + k) ≡ state_at i s t k
  unfolding state_before state_at
  before_is zero k h g =
      let first : zero * i.modules + k < i.modules = omega arith in
      rw (lt-ltb (zero * i.modules + k) i.modules first)
  before_is (suc t) k h g =
      let later : i.modules ≤ suc t * i.modules + k = omega arith in
      let place : suc t * i.modules + k - i.modules ≡ t * i.modules + k = omega arith in
      rw (le-ltb (suc t * i.modules + k) i.modules later, place) (sym (state_is t k (omega arith) g))

  -- The m bytes from the place of slot t on are the states of that slot.
  module _ {a m t : ℕ} (m-is : m ≡ i.modules) (a-is : a ≡ t * i.modules) (h : t < i.slots) where
    pub row_length : length (mid_of a (a + m - a) s) ≡ i.modules
    row_length = part_length a m s (rw (m-is, a-is) (row_within i.modules h (omega (arith, size)))) ∙ m-is

    pub row_at : (k : ℕ) → k < i.modules → get_or (mid_of a (a + m - a) s) k 0 ≡ state_at i s (suc t) k
    row_at k g = part_at a (a + m) s k 0 (omega arith) ∙ rw a-is (sym (state_is t k h g))

    -- A row's light is that of its slot.
    row_light_is : row_light (mid_of a (a + m - a) s) ≡ light_at i s (suc t)
    unfolding row_light light_at
    row_light_is = rw row_length (sum_ext i.modules (λ k g. ap step_of (row_at k g)))

-- The test of a slot's light against its load.
module _
    {card : Card} {sheet : List ℕ} (given : SheetSized card sheet) {t : ℕ} (below : t < card.header.slots) {x y : ℕ}
    (x-is : x ≡ row_light (mid_of (t * card.header.modules) (t * card.header.modules + card.header.modules - t * card.header.modules) sheet))
    (y-is : y ≡ (show_of card).load t) where
  light_is : x ≡ light_at (show_of card) sheet (suc t)
  light_is =
      let m = card.header_is.modules_is in
      x-is ∙ row_light_is (show_of card) sheet given.size m (ap (λ (n : ℕ). t * n) m) (omega arith)

  pub light_failed : x < y → leb ((show_of card).load t) (light_at (show_of card) sheet (suc t)) ≡ false
  light_failed less = rw (← light_is, ← y-is) (lt-leb y x less)

  pub light_passed : y ≤ x → leb ((show_of card).load t) (light_at (show_of card) sheet (suc t)) ≡ true
  light_passed enough = rw (← light_is, ← y-is) (le-leb y x enough)
