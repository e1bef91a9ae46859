-- The loop that writes the counts of a sheet.
use Rattle.std.specs.Prelude.{ℕ, suc, ◌+◌, ◌*◌, ◌≤◌, ◌<◌, ◌≡◌, List, length, set}
use Rattle.basics.specs.Core.{ap, ◌∙◌, arith}
use Rattle.basics.specs.Lists.{tabulate}
use Rattle.basics.specs.Filling.{Upto, upto_more, upto_all}
use Rattle.card.specs.Shows.{show_of}
use Rattle.model.specs.Sheets.{active_at, counts_of}
use Rattle.card.specs.declared.Card.{Card}
use Rattle.card.proofs.FieldsThere.{in_header}
use Rattle.sheets.proofs.RowCuts.{RowCut}
use Rattle.explanation.specs.Exchanges.{row_active}
use Rattle.explanation.specs.ExplanationRequires.{CountsRoom}
use Rattle.explanation.proofs.SheetRows.{row_active_is}

-- After t turns the first t counts are written.
abbrev pub Written : Card → (sheet : List ℕ) → (t : ℕ) → (counts₀ counts : List ℕ) → Type 0
Written card sheet = Upto (λ u. active_at (show_of card) sheet (suc u))

module _
    {card : Card} {sheet counts₀ counts : List ℕ} {t : ℕ} (room : CountsRoom card sheet counts₀)
    (inv : Written card sheet t counts₀ counts) where
  -- Another turn.
  module _ {row after : List ℕ} {size : ℕ} (cut : RowCut card size t sheet row after) where
    place_there : t < length counts
    place_there = omega (arith, cut.below, card.header_is.slots_is, room.slotwise, inv.size)

    pub count_written : {n : ℕ} → n ≡ row_active row → Written card sheet (t + 1) counts₀ (set counts t n)
    count_written e =
        let m = card.header_is.modules_is in
        let is = row_active_is (show_of card) sheet room.sized.size m (ap (λ (x : ℕ). t * x) m) (in_header card cut.below) in
        upto_more inv (omega (arith, place_there, inv.size)) (e ∙ (ap row_active cut.row_is ∙ is))

  -- After the last turn all counts are written.
  pub counts_written : card.header.slots ≤ t → counts ≡ counts_of (show_of card) sheet
  unfolding counts_of
  counts_written done =
      upto_all inv (omega (arith, inv.size, room.slotwise, card.header_is.slots_is)) ∙
      ap (λ (n : ℕ). tabulate n (λ u. active_at (show_of card) sheet (suc u))) room.slotwise
