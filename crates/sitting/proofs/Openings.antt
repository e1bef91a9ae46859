-- Opening: its answer, by its tests, its buffers at exit, and its reply.
use Rattle.std.specs.Prelude.{ℕ, ◌≡◌, refl, Bool, true, false, ◌||◌, List, [], length, ltb}
use Rattle.basics.specs.Core.{sym, ap, ◌∙◌, or-false, eq-eqb, ne_eqb}
use Rattle.model.specs.declared.Refusal.{Refusal}
use Rattle.model.specs.declared.Refusal.TheVariants.{BufferTooShort, NotPermitted, AllowanceSpent}
use Rattle.model.specs.Answers.{Answer}
use Rattle.std.specs.Prelude.{Ok, Err}
use Rattle.model.specs.declared.Sitting.{Sitting}
use Rattle.model.specs.declared.Reply.{Reply}
use Rattle.model.specs.Planners.{exact, planned_cost}
use Rattle.model.specs.Acts.{open_sitting, allowance_in_range, act_spec}
use Rattle.model.specs.SittingState.{facts_of, state_of, sitting_after}
use Rattle.model.specs.Specs.{first_of, any_short, at_exit}
use Rattle.model.specs.Calls.{Call, act_in, check_card, plan_show, spec_of, answer, buffers_at_exit, plan_at_exit, work_at_exit}
use Rattle.model.specs.Sittings.{answer_to, marked_with, event_with, event_of, told, told_by, reply_with, reply_of}
use Rattle.laws.specs.OnCard.{on_card_refused, on_card_passed}
use Rattle.card.specs.declared.Card.{Card}
use Rattle.card.specs.Shows.{show_of}
use Rattle.planners.specs.PlannerRequires.{either_short, short_for}
use Rattle.planners.proofs.Planning.{PlanWritten}
use Rattle.sitting.specs.declared.OpenOutcome.{OpenOutcome}
use Rattle.sitting.specs.Seen.{reply_giving, records_emptied, opening_of}

-- The call that opens a sitting.
abbrev pub opens : Sitting → (d l : ℕ) (s p w : List ℕ) → Call
opens z d l s p w = act_in z [] (open_sitting d l s p w)

-- An answer and two buffers are those of an opening at exit.
abbrev pub Opened : Call → Answer → (plan work : List ℕ) → Type 0
Opened o a plan work = (a ≡ answer o) × ((plan ≡ plan_at_exit o) × (work ≡ work_at_exit o))

module _ (z : Sitting) (d l : ℕ) (s p w : List ℕ) where
  -- A refusal leaves the buffers as they were.
  opening_kept : {x : Refusal} → answer (opens z d l s p w) ≡ Err x → Opened (opens z d l s p w) (Err x) p w
  unfolding plan_at_exit work_at_exit buffers_at_exit spec_of act_spec at_exit
  opening_kept e = (sym e, (rw e, rw e))

  -- An opening on a card that is refused is refused with the same number.
  pub opening_on : {x : Refusal} → answer (check_card s) ≡ Err x → Opened (opens z d l s p w) (Err x) p w
  unfolding answer spec_of act_spec
  opening_on e = opening_kept (on_card_refused s _ _ e)

-- On an accepted card.
module _ (z : Sitting) (d l : ℕ) (card : Card) (p w : List ℕ) where
  abbrev o : Call
  o = opens z d l card.bytes.now p w

  -- The test on the lengths of the buffers is the exact planner's.
  short_is : any_short (spec_of (plan_show exact card.bytes.now p w)).buffers ≡ short_for exact (show_of card) (length p) (length w)
  unfolding spec_of any_short either_short
  short_is = ap (λ (b : Bool). ltb (length p) (show_of card).slots || b) (or-false _)

  module _ {short : Bool} (is : short ≡ short_for exact (show_of card) (length p) (length w)) where
    -- A buffer is too short.
    pub opening_short : short ≡ true → Opened o (Err BufferTooShort) p w
    unfolding answer spec_of act_spec first_of
    opening_short e = opening_kept _ _ _ _ _ _ (on_card_passed _ _ _ card.accepted ∙ rw (short_is, ← is, e))

    module _ (none : short ≡ false) where
      -- The caller is not the supervisor.
      pub opening_barred : (d ≡ 0 → ⊥) → Opened o (Err NotPermitted) p w
      unfolding answer spec_of act_spec first_of
      opening_barred by = opening_kept _ _ _ _ _ _ (on_card_passed _ _ _ card.accepted ∙ rw (short_is, ← is, none, ne_eqb d 0 by))

      module _ (by : d ≡ 0) where
        -- The allowance is out of range.
        pub opening_spent : allowance_in_range l ≡ false → Opened o (Err AllowanceSpent) p w
        unfolding answer spec_of act_spec first_of
        opening_spent range =
            opening_kept _ _ _ _ _ _ (on_card_passed _ _ _ card.accepted ∙ rw (short_is, ← is, none, eq-eqb d 0 by, range))

        -- Where none of them applies, an opening answers the least cost, and leaves what the exact planner does.
        opening_cost : allowance_in_range l ≡ true → answer o ≡ Ok (planned_cost exact (show_of card))
        unfolding answer spec_of act_spec first_of
        opening_cost range = on_card_passed _ _ _ card.accepted ∙ rw (short_is, ← is, none, eq-eqb d 0 by, range)

        pub opening_planned :
            allowance_in_range l ≡ true → {cost : ℕ} {plan work : List ℕ} →
            PlanWritten exact (show_of card) p w cost plan work → Opened o (Ok cost) plan work
        unfolding plan_at_exit work_at_exit buffers_at_exit spec_of act_spec at_exit
        opening_planned range (cost_is, (plan_is, work-is)) =
            let e = opening_cost range in (ap Ok cost_is ∙ sym e, (plan_is ∙ rw e, work-is ∙ rw e))

module _ (z : Sitting) (d l : ℕ) (s p w : List ℕ) where
  -- The answer of the call is that of the facts.
  same_answer : answer (opens z d l s p w) ≡ answer_to (facts_of (state_of z [])) (open_sitting d l s p w)
  unfolding answer spec_of answer_to
  same_answer = refl

  module _ {a : Answer} {plan work : List ℕ} (opened : Opened (opens z d l s p w) a plan work) {r : Reply} where
    -- An opening that is refused.
    pub opening_refused :
        {x : Refusal} → a ≡ Err x → r ≡ reply_giving (Err x) 0 z →
        (◌≡◌ {A = OpenOutcome} (record { emptied = 0; reply = r }) (opening_of z (open_sitting d l s p w))) ×
        ((plan ≡ plan_at_exit (opens z d l s p w)) × (work ≡ work_at_exit (opens z d l s p w)))
    unfolding opening_of records_emptied reply_of told_by told reply_with reply_giving marked_with event_of event_with act_spec sitting_after
    opening_refused given e =
        let told = sym opened.0 ∙ given in
        (rw (e, told, sym same_answer ∙ told), opened.1)

    -- An opening: the seats are emptied.
    pub opening_done_lem :
        {n : ℕ} → a ≡ Ok n → r ≡ reply_giving (Ok n) 0 (record { state = 1; allowance = l; submissions = 0; least = n }) →
        (◌≡◌ {A = OpenOutcome} (record { emptied = 32; reply = r }) (opening_of z (open_sitting d l s p w))) ×
        ((plan ≡ plan_at_exit (opens z d l s p w)) × (work ≡ work_at_exit (opens z d l s p w)))
    unfolding opening_of records_emptied reply_of told_by told reply_with reply_giving marked_with event_of event_with act_spec sitting_after
    opening_done_lem given e =
        let told = sym opened.0 ∙ given in
        (rw (e, told, sym same_answer ∙ told), opened.1)
