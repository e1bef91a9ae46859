-- The loop that counts the modules which go on beyond the rises of the counts.
use Rattle.std.specs.Prelude.{ℕ, suc, ◌+◌, ◌-◌, ◌*◌, ◌≤◌, ◌<◌, ◌≡◌, List, length, get_or}
use Rattle.basics.specs.Core.{ap, ◌∙◌, mul-le-mul, mul-le-mul_right, sub-le, add-one, arith}
use mir.Syntax.{w64}
use mir.Val.{Fits}
use borrow.Rule.Slice.PartMut.{mid_of}
use Rattle.basics.specs.Summing.{Summed, summed_more, summed_all, summed_room}
use Rattle.card.specs.Shows.{show_of}
use Rattle.model.specs.Sheets.{active_at}
use Rattle.laws.specs.Acceptance.{accepted_bounds}
use Rattle.theory.specs.SheetLaws.{counts_length}
use Rattle.card.specs.declared.Card.{Card}
use Rattle.card.proofs.FieldsThere.{in_show}
use Rattle.sheets.specs.SheetRequires.{RowShort}
use Rattle.sheets.proofs.RowPlaces.{row_there, row_short}
use Rattle.explanation.specs.Exchanges.{row_starts, starts_after, exchanged_after, exchanged}
use Rattle.explanation.specs.ExplanationRequires.{CountsKnown}
use Rattle.explanation.proofs.SheetRows.{row_starts_is, rise_below, exchanged_most, count_is}

-- After t turns the total is that of the first t changes from a slot to the next.
abbrev pub Counted : Card → (sheet : List ℕ) → (t total : ℕ) → Type 0
Counted card sheet = Summed ((show_of card).slots - 1) (exchanged_after (show_of card) sheet)

module _ {card : Card} {sheet counts : List ℕ} {t total : ℕ} (known : CountsKnown card sheet counts) (inv : Counted card sheet t total) where
  slotwise : length counts ≡ (show_of card).slots
  slotwise = ap length known.counts_are ∙ counts_length (show_of card) sheet

  -- Another turn.
  module _ {n : ℕ} (n-is : n ≡ length counts - 1) (below : t < n) where
    next_slot : suc t < (show_of card).slots
    next_slot = omega (arith, slotwise)

    slot_here : t < (show_of card).slots
    slot_here = omega (arith, slotwise)

    turn_below : t < (show_of card).slots - 1
    turn_below = omega (arith, slotwise)

    -- The place of the next row.
    place_next : t * card.header.modules + card.header.modules ≡ suc t * (show_of card).modules
    place_next = omega (arith, ap (λ (x : ℕ). t * x) card.header_is.modules_is, card.header_is.modules_is)

    pub row_end : t * card.header.modules + card.header.modules ≤ length sheet
    row_end = row_there card (in_show card slot_here) (omega (arith, known.sized.size))

    pub next_end : t * card.header.modules + card.header.modules + card.header.modules ≤ length sheet
    next_end =
        omega (arith, row_there card {t = suc t} {size = length sheet} (in_show card next_slot) (omega (arith, known.sized.size)))

    -- A row and the next one, as they are lent.
    abbrev row : List ℕ
    row = mid_of (t * card.header.modules) (t * card.header.modules + card.header.modules - t * card.header.modules) sheet

    abbrev next_row : List ℕ
    next_row =
        mid_of (t * card.header.modules + card.header.modules) (t * card.header.modules + card.header.modules + card.header.modules - (t * card.header.modules + card.header.modules)) sheet

    pub next_short : RowShort next_row
    next_short = row_short card sheet _ next_end

    starts_are : {x : ℕ} → x ≡ row_starts row next_row → x ≡ starts_after (show_of card) sheet (suc t)
    starts_are e =
        let m = card.header_is.modules_is in
        e ∙ row_starts_is (show_of card) sheet known.sized.size m (ap (λ (x : ℕ). t * x) m) place_next next_slot

    was_is : get_or counts t 0 ≡ active_at (show_of card) sheet (suc t)
    was_is = count_is (show_of card) sheet t known.counts_are slot_here

    now_is : get_or counts (t + 1) 0 ≡ active_at (show_of card) sheet (suc (suc t))
    now_is = rw add-one (count_is (show_of card) sheet (suc t) known.counts_are next_slot)

    pub rise_there : {x : ℕ} → x ≡ row_starts row next_row → get_or counts (t + 1) 0 - get_or counts t 0 ≤ x
    rise_there e = rw (starts_are e, was_is, now_is) (rise_below (show_of card) sheet (suc t))

    module _ {x y : ℕ} (x-is : x ≡ row_starts row next_row) (y-is : y ≡ x - (get_or counts (t + 1) 0 - get_or counts t 0)) where
      change_is : y ≡ exchanged_after (show_of card) sheet t
      unfolding exchanged_after
      change_is = y-is ∙ rw (starts_are x-is, was_is, now_is)

      pub total_fits : Fits w64 (total + y)
      total_fits =
          let room = summed_room inv turn_below change_is (λ j _. exchanged_most (show_of card) sheet j) in
          let bounds = accepted_bounds _ card.accepted in
          let most = mul-le-mul bounds.slots bounds.modules.1 in
          record { fits = omega (arith, room, mul-le-mul_right (show_of card).modules (sub-le (show_of card).slots 1)) }

      pub change_counted : Counted card sheet (t + 1) (total + y)
      change_counted = summed_more inv turn_below change_is

  -- After the last turn the total is the whole.
  pub all_counted : {n : ℕ} → n ≡ length counts - 1 → n ≤ t → total ≡ exchanged (show_of card) sheet
  unfolding exchanged
  all_counted n-is done = summed_all inv (omega (arith, slotwise))
