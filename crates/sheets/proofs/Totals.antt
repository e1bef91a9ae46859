-- The cost of a sheet is that of its bytes and of the changes to off after its last slot.
use Rattle.std.specs.Prelude.{ℕ, suc, ◌+◌, ◌-◌, ◌*◌, ◌≤◌, ◌<◌, ◌≡◌, refl, List, length, get_or, take}
use Rattle.basics.specs.Core.{ap, ap₂, sym, ◌∙◌, le_refl, zero-add, mul_comm, mul-zero, add-one}
use Rattle.basics.specs.Core.{arith, get_or-take, le-ltb}
use mir.Syntax.{w64}
use mir.Val.{Fits}
use Rattle.basics.specs.Sums.{sum, sum_ext, sum_add, sum_const, sum_at_most, sum_blocks}
use Rattle.model.specs.Instance.{Instance}
use Rattle.model.specs.Sheets.{state_at, step_cost, change_cost, sheet_operating_cost, sheet_switching_cost, sheet_cost}
use Rattle.card.specs.declared.Card.{Card}
use Rattle.card.specs.Shows.{show_of}
use Rattle.laws.specs.Acceptance.{accepted_bounds}
use Rattle.sheets.specs.Marks.{byte_cost, bytes_cost, all_off, byte_at, stop_cost, row_stop_cost}
use Rattle.sheets.specs.SheetRequires.{BytesReady, RowPriced, SheetReady}
use Rattle.sheets.proofs.SheetBytes.{part_ready, stop_each, bytes_most}
use Rattle.sheets.proofs.States.{state_before, state_is, before_is}
use Rattle.sheets.proofs.Split.{from, first_length, earlier_length, later_length, later_at, last_length, last_at, rows_cost}

module _ (i : Instance) (s : List ℕ) (size : length s ≡ i.modules * i.slots) where
  abbrev before_at : ℕ → ℕ
  before_at x = state_before i.modules s x

  -- Bytes are counted by slots and modules.
  by_slots : (f : ℕ → ℕ) → sum (length s) f ≡ sum i.slots (λ t. sum i.modules (λ k. f (t * i.modules + k)))
  by_slots f = rw (size, mul_comm i.modules i.slots) (sym (sum_blocks i.slots i.modules f))

  steps_are :
      sum (length s) (λ x. step_cost i (get_or s x 0)) ≡ sum i.slots (λ t. sum i.modules (λ k. step_cost i (state_at i s (suc t) k)))
  steps_are =
      by_slots _ ∙ sum_ext i.slots (λ t h. sum_ext i.modules (λ k g. ap (step_cost i) (sym (state_is i s size t k h g))))

  changes_are :
      sum (length s) (λ x. change_cost i (before_at x) (get_or s x 0)) ≡
      sum i.slots (λ t. sum i.modules (λ k. change_cost i (state_at i s t k) (state_at i s (suc t) k)))
  changes_are =
      by_slots _ ∙
      sum_ext i.slots
      (λ t h. sum_ext i.modules (λ k g. ap₂ (change_cost i) (before_is i s size t k h g) (sym (state_is i s size t k h g))))

  -- The price of a module's change to off after the last slot.
  abbrev last_change : ℕ → ℕ
  last_change k = stop_cost i.power_down (state_at i s i.slots k)

  last_is : (k : ℕ) → change_cost i (state_at i s i.slots k) (state_at i s (suc i.slots) k) ≡ last_change k
  unfolding state_at change_cost
  last_is k = rw (le-ltb i.slots i.slots (le_refl i.slots))

  total : sheet_cost i s ≡ bytes_cost i before_at s + sum i.modules last_change
  unfolding sheet_cost sheet_operating_cost sheet_switching_cost bytes_cost byte_cost sum
  total =
      let apart = sum_add (length s) (λ x. step_cost i (get_or s x 0)) (λ x. change_cost i (before_at x) (get_or s x 0)) in
      let last = sum_ext i.modules (λ k g. last_is k) in
      rw (add-one i.slots) (omega (arith, apart, steps_are, changes_are, last))

  -- A sheet without slots costs nothing.
  cost_empty : i.slots ≡ 0 → 0 ≡ sheet_cost i s
  unfolding bytes_cost sum state_at
  cost_empty e =
      let none : length s ≡ 0 = rw (size, e) (mul-zero i.modules) in
      let bytes : bytes_cost i before_at s ≡ 0 = rw none in
      let last = sum_const i.modules {f = last_change} {c = 0} (λ k g. rw e) in
      omega (arith, total)

  -- The rows of a sheet with slots, where the last begins at place last.
  module _ {last t : ℕ} (slots-are : suc t ≡ i.slots) (last_is : last ≡ t * i.modules) where
    rows_all : i.modules + last ≡ length s
    rows_all = omega (arith, size, ap (λ (n : ℕ). i.modules * n) slots-are)

    stop_row : row_stop_cost i.power_down (from last s) ≡ sum i.modules last_change
    unfolding row_stop_cost
    stop_row =
        rw (last_length s i.modules last rows_all)
        (sum_ext i.modules (λ k g. ap (stop_cost i.power_down) (last_at s i.modules last rows_all k g ∙ state k g)))
      where
        state : (k : ℕ) → k < i.modules → get_or s (last + k) 0 ≡ state_at i s i.slots k
        state k g = rw last_is (sym (state_is i s size t k (omega arith) g)) ∙ ap (λ (n : ℕ). state_at i s n k) slots-are

    cost_whole :
        {start rest stop : ℕ} → start ≡ bytes_cost i all_off (take i.modules s) →
        rest ≡ bytes_cost i (byte_at (take last s)) (from i.modules s) → stop ≡ row_stop_cost i.power_down (from last s) →
        start + rest + stop ≡ sheet_cost i s
    cost_whole e f g = omega (arith, total, rows_cost s i.modules last rows_all i, stop_row)

-- The changes to off after a row cost at most 200 times the highest price.
row_stop_most : {down stop : ℕ} {row : List ℕ} → RowPriced down row → stop ≡ row_stop_cost down row → stop ≤ 200 * 500000000
unfolding row_stop_cost
row_stop_most {down} {stop} {row} given e =
    let each = sum_at_most (length row) (stop_each row given.priced) in
    omega (arith, each)

-- The place where the last row begins.
abbrev last_place : Card → ℕ
last_place card = (card.header.slots - 1) * card.header.modules

-- A sheet's rows and their costs by its card's header.
module _ {card : Card} {sheet : List ℕ} (given : SheetReady card sheet) where
  pub sheet_empty : card.header.slots ≡ 0 → 0 ≡ sheet_cost (show_of card) sheet
  sheet_empty e = cost_empty (show_of card) sheet given.sized.size (sym card.header_is.slots_is ∙ e)

  module _ (some : card.header.slots ≡ 0 → ⊥) where
    slots_before : suc (card.header.slots - 1) ≡ (show_of card).slots
    slots_before = omega arith

    -- The first row and as many bytes as stand before the last row are the whole.
    header_rows : card.header.modules + last_place card ≡ length sheet
    header_rows = rw card.header_is.modules_is (rows_all (show_of card) sheet given.sized.size slots_before refl)

    first_inside : card.header.modules ≤ length sheet
    first_inside = omega (arith, header_rows)

    first_counted : card.header.modules ≡ length (take card.header.modules sheet)
    first_counted = sym (first_length sheet _ _ header_rows)

    earlier_counted : last_place card ≡ length (take (last_place card) sheet)
    earlier_counted = sym (earlier_length sheet _ _ header_rows)

    pub first_ready : BytesReady card (take card.header.modules sheet)
    first_ready =
        part_ready given 0 _ (omega (arith, first_counted, first_inside))
        (λ x below. rw (zero-add x) (get_or-take card.header.modules sheet x 0 (omega (arith, first_counted))))

    pub later_ready : BytesReady card (from card.header.modules sheet)
    later_ready =
        part_ready given card.header.modules _ (omega (arith, later_length sheet _ _ header_rows, header_rows))
        (λ x below. later_at sheet _ _ header_rows x (omega (arith, later_length sheet _ _ header_rows)))

    pub rows_paired : length (take (last_place card) sheet) ≡ length (from card.header.modules sheet)
    rows_paired = omega (arith, earlier_counted, later_length sheet _ _ header_rows)

    pub last_priced : RowPriced card.header.power_down (from (last_place card) sheet)
    last_priced =
        record {
          short = omega (arith, last_length sheet _ _ header_rows, (accepted_bounds _ card.accepted).modules.1);
          priced = omega (arith, (accepted_bounds _ card.accepted).power_down);
        }

    module _
        {start rest : ℕ} (start_is : start ≡ bytes_cost (show_of card) all_off (take card.header.modules sheet))
        (rest-is : rest ≡ bytes_cost (show_of card) (byte_at (take (last_place card) sheet)) (from card.header.modules sheet)) where
      rows_small : start + rest ≤ 2 * 204800 * 501000000
      rows_small = omega (arith, bytes_most first_ready _ start_is, bytes_most later_ready _ rest-is)

      pub rows_fit : Fits w64 (start + rest)
      rows_fit = record { fits = omega (arith, rows_small) }

      module _ {stop : ℕ} (stop_is : stop ≡ row_stop_cost card.header.power_down (from (last_place card) sheet)) where
        pub total_small : start + rest + stop ≤ 3 * 204800 * 501000000
        total_small = omega (arith, rows_small, row_stop_most last_priced stop_is)

        pub sheet_whole : start + rest + stop ≡ sheet_cost (show_of card) sheet
        sheet_whole =
            let m = card.header_is.modules_is in
            let d = card.header_is.down_is in
            cost_whole (show_of card) sheet given.sized.size slots_before refl (rw m at start_is) (rw m at rest-is)
            (rw (m, d) at stop_is)
