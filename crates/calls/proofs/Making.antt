-- The answer of the sheet call, by its tests on the buffer and the plan, and the sheet buffer at exit.
use Rattle.std.specs.Prelude.{ℕ, ◌*◌, ◌≤◌, ◌<◌, ◌≡◌, refl, true, false, List, length}
use Rattle.basics.specs.Core.{sym, ap, ◌∙◌, arith, lt-ltb, le-ltb, eq-eqb, ne_eqb, leb-true}
use Rattle.basics.specs.Tests.{every_at}
use Rattle.basics.specs.Lists.{written_over}
use Rattle.model.specs.declared.Refusal.{Refusal}
use Rattle.model.specs.declared.Refusal.TheVariants.{BufferTooShort, WrongLength, EntryRange, LoadNotServed}
use Rattle.model.specs.Answers.{Answer}
use Rattle.std.specs.Prelude.{Ok, Err}
use Rattle.model.specs.Instance.{instance_of}
use Rattle.card.specs.Shows.{show_of}
use Rattle.model.specs.Thesis.{counts_cost}
use Rattle.model.specs.Plans.{plan_in_rack, plan_serves, sheet_of}
use Rattle.model.specs.Specs.{any_short, first_of, sheet_bytes, at_exit}
use Rattle.model.specs.Calls.{make_sheet, check_card, spec_of, answer, sheet_at_exit}
use Rattle.laws.specs.Acceptance.{accepted_bounds}
use Rattle.laws.specs.OnCard.{on_card_refused, on_card_passed}
use Rattle.theory.specs.Hypotheses.{PlanFits}
use Rattle.theory.specs.SheetLaws.{plan_cost_counts}
use Rattle.theory.specs.Outcomes.{made_fits, made_room, sheet_at_exit_lem}
use Rattle.card.specs.declared.Card.{Card}
use Rattle.plans.specs.PlanRequires.{PlanSized, PlanReady}
use Rattle.sheets.specs.SheetRequires.{SheetRoom}
use Rattle.card.proofs.Sizes.{sheet_size}

-- An answer and a buffer are those of the sheet call at exit.
abbrev pub Made : (s p x : List ℕ) → Answer → List ℕ → Type 0
Made s p x a new = (a ≡ answer (make_sheet s p x)) × (new ≡ sheet_at_exit (make_sheet s p x))

module _ (s p x : List ℕ) where
  -- A refusal leaves the buffer as it was.
  pub made_kept : {a : Answer} {y : Refusal} → a ≡ answer (make_sheet s p x) → a ≡ Err y → Made s p x a x
  unfolding at_exit
  made_kept is e = (is, rw (sheet_at_exit_lem s p x, ← is, e))

  -- A success writes the sheet.
  pub made_written :
      {a : Answer} {n : ℕ} {new : List ℕ} → a ≡ answer (make_sheet s p x) → a ≡ Ok n →
      new ≡ written_over (sheet_of (instance_of s) p) x → Made s p x a new
  unfolding at_exit
  made_written is e New-is = (is, New-is ∙ rw (sheet_at_exit_lem s p x, ← is, e))

  pub make_refused : {y : Refusal} → answer (check_card s) ≡ Err y → Made s p x (Err y) x
  unfolding answer spec_of
  make_refused e = made_kept (sym (on_card_refused s _ _ e)) refl

module _ (card : Card) (p x : List ℕ) where
  module _ (slotwise : length p ≡ card.header.slots) where
    plan_sized : PlanSized card p
    plan_sized = record { slotwise = slotwise ∙ card.header_is.slots_is }

    pub plan_ready :
        plan_in_rack (show_of card) p ≡ true → plan_serves (show_of card) p ≡ true → PlanReady card p
    unfolding plan_in_rack
    plan_ready entries served =
        record {
          sized = plan_sized;
          in_rack = λ t b. leb-true _ _ (every_at (show_of card).slots _ entries t b);
          served = served;
        }

  pub make_short : length x < card.header.modules * card.header.slots → Err BufferTooShort ≡ answer (make_sheet card.bytes.now p x)
  unfolding answer spec_of first_of any_short
  make_short less =
      sym (on_card_passed _ _ _ card.accepted ∙ rw (lt-ltb (length x) (sheet_bytes (show_of card)) (rw (← sheet_size card) less)))

  module _ (roomy : card.header.modules * card.header.slots ≤ length x) where
    room : sheet_bytes (show_of card) ≤ length x
    room = rw (← sheet_size card) roomy

    pub make_length : (length p ≡ card.header.slots → ⊥) → Err WrongLength ≡ answer (make_sheet card.bytes.now p x)
    unfolding answer spec_of first_of any_short
    make_length wrong =
        sym
        (on_card_passed _ _ _ card.accepted ∙
        rw (le-ltb _ _ room, ne_eqb (length p) (show_of card).slots (λ e. wrong (e ∙ sym card.header_is.slots_is))))

    module _ (slotwise : length p ≡ card.header.slots) where
      pub make_entries : plan_in_rack (show_of card) p ≡ false → Err EntryRange ≡ answer (make_sheet card.bytes.now p x)
      unfolding answer spec_of first_of any_short
      make_entries e = sym (on_card_passed _ _ _ card.accepted ∙ rw (le-ltb _ _ room, eq-eqb _ _ (plan_sized slotwise).slotwise, e))

      module _ (entries : plan_in_rack (show_of card) p ≡ true) where
        pub make_load : plan_serves (show_of card) p ≡ false → Err LoadNotServed ≡ answer (make_sheet card.bytes.now p x)
        unfolding answer spec_of first_of any_short
        make_load e =
            sym (on_card_passed _ _ _ card.accepted ∙ rw (le-ltb _ _ room, eq-eqb _ _ (plan_sized slotwise).slotwise, entries, e))

        module _ (served : plan_serves (show_of card) p ≡ true) where
          pub make_cost : {n : ℕ} → n ≡ counts_cost (show_of card) 0 p → Ok n ≡ answer (make_sheet card.bytes.now p x)
          unfolding answer spec_of first_of any_short
          make_cost e =
              let fit : PlanFits (show_of card) p =
              record {
                steps = omega (arith, (accepted_bounds _ card.accepted).top_step.1);
                slotwise = (plan_sized slotwise).slotwise;
                in_rack = (plan_ready slotwise entries served).in_rack;
                served = served;
              } in
              sym
              (on_card_passed _ _ _ card.accepted ∙
              rw (le-ltb _ _ room, eq-eqb _ _ (plan_sized slotwise).slotwise, entries, served)
              (ap Ok (plan_cost_counts (show_of card) p fit ∙ sym e)))

  -- What writing the sheet asks for holds where the call answers a cost.
  pub made_ready : {a : Answer} {n : ℕ} → a ≡ answer (make_sheet card.bytes.now p x) → a ≡ Ok n → SheetRoom card p x
  made_ready is e =
      let given = sym is ∙ e in
      let fit = made_fits _ p x given in
      record {
        plan = record { sized = record { slotwise = fit.slotwise }; in_rack = fit.in_rack; served = fit.served };
        room = made_room _ p x given;
      }
