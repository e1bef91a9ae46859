-- The answer of marking, by its tests.
use Rattle.std.specs.Prelude.{ℕ, ◌*◌, ◌≡◌, true, false, List, length}
use Rattle.basics.specs.Core.{sym, ap, ◌∙◌, eq-eqb, ne_eqb}
use Rattle.model.specs.declared.Refusal.{Refusal}
use Rattle.model.specs.declared.Refusal.TheVariants.{WrongLength, EntryRange, LoadNotServed}
use Rattle.std.specs.Prelude.{Ok, Err}
use Rattle.card.specs.Shows.{show_of}
use Rattle.model.specs.Sheets.{sheet_length, sheet_entries, sheet_light, sheet_cost}
use Rattle.model.specs.Specs.{first_of, sheet_bytes}
use Rattle.model.specs.Calls.{mark_sheet, check_card, spec_of, answer}
use Rattle.laws.specs.OnCard.{on_card_refused, on_card_passed}
use Rattle.card.specs.declared.Card.{Card}
use Rattle.sheets.specs.SheetRequires.{SheetSized, SheetReady}
use Rattle.card.proofs.Sizes.{sheet_size}

pub mark_refused : (s x : List ℕ) {y : Refusal} → answer (check_card s) ≡ Err y → Err y ≡ answer (mark_sheet s x)
unfolding answer spec_of
mark_refused s x e = sym (on_card_refused s _ _ e)

module _ (card : Card) (x : List ℕ) where
  pub mark_length : (length x ≡ card.header.modules * card.header.slots → ⊥) → Err WrongLength ≡ answer (mark_sheet card.bytes.now x)
  unfolding answer spec_of first_of sheet_length
  mark_length wrong =
      sym (on_card_passed _ _ _ card.accepted ∙ rw (ne_eqb (length x) (sheet_bytes (show_of card)) (λ e. wrong (e ∙ sym (sheet_size card)))))

  module _ (size : length x ≡ card.header.modules * card.header.slots) where
    pub sized : SheetSized card x
    sized = record { size = size ∙ sheet_size card }

    pub mark_entries : sheet_entries (show_of card) x ≡ false → Err EntryRange ≡ answer (mark_sheet card.bytes.now x)
    unfolding answer spec_of first_of sheet_length
    mark_entries e = sym (on_card_passed _ _ _ card.accepted ∙ rw (eq-eqb _ _ sized.size, e))

    module _ (entries : sheet_entries (show_of card) x ≡ true) where
      pub sheet_ready : SheetReady card x
      sheet_ready = record { sized = sized; entries = entries }

      pub mark_light : sheet_light (show_of card) x ≡ false → Err LoadNotServed ≡ answer (mark_sheet card.bytes.now x)
      unfolding answer spec_of first_of sheet_length
      mark_light e = sym (on_card_passed _ _ _ card.accepted ∙ rw (eq-eqb _ _ sized.size, entries, e))

      pub mark_cost :
          sheet_light (show_of card) x ≡ true → {n : ℕ} → n ≡ sheet_cost (show_of card) x → Ok n ≡ answer (mark_sheet card.bytes.now x)
      unfolding answer spec_of first_of sheet_length
      mark_cost e n-is = ap Ok n-is ∙ sym (on_card_passed _ _ _ card.accepted ∙ rw (eq-eqb _ _ sized.size, entries, e))
