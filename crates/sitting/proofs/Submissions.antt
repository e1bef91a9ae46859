-- What a submission does, by its answer: one that is refused before it counts, one on an accepted card.
use Rattle.std.specs.Prelude.{ℕ, ◌+◌, ◌≡◌, refl, true, false, Option, Some, List, [], ◌∷◌}
use Rattle.basics.specs.Core.{sym, ap, ◌∙◌, ⊎_elim}
use Rattle.model.specs.declared.Refusal.{Refusal}
use Rattle.model.specs.Answers.{Answer}
use Rattle.std.specs.Prelude.{Ok, Err}
use Rattle.model.specs.declared.Seat.{Seat}
use Rattle.model.specs.declared.Sitting.{Sitting}
use Rattle.model.specs.declared.Reply.{Reply}
use Rattle.model.specs.Instance.{instance_of}
use Rattle.model.specs.Acts.{submit_sheet, Event, nothing_done, submission_counted, submission_refused, act_spec}
use Rattle.model.specs.SittingState.{marked_record, sitting_after}
use Rattle.model.specs.Specs.{Test, card_tests, sheet_tests, first_of}
use Rattle.model.specs.Calls.{check_card, mark_sheet, spec_of, answer, Accepted}
use Rattle.model.specs.Sittings.{answer_to, marked_with, event_with, event_of, told, reply_with}
use Rattle.basics.specs.Numbers.{true_or_false}
use Rattle.basics.specs.Members.{Each}
use Rattle.laws.specs.OnCard.{on_card_refused, on_card_passed}
use Rattle.seats.specs.declared.Found.{Found}
use Rattle.sitting.specs.declared.Outcome.{Outcome}
use Rattle.sitting.specs.Seen.{seen, change_for, event_seen, reply_seen, outcome_of, reply_giving, unchanged_of, with_submissions, Admitted, Barred}

-- What f makes of the answer is b, if it makes b of the refusal of each test and of the answer where none applies.
first_each :
    {B : Type 0} (f : Answer → B) (b : B) (ts : List Test) (a : Answer) → f a ≡ b → Each (λ t. f (Err t.refusal) ≡ b) ts →
    f (first_of ts a) ≡ b
unfolding first_of
first_each f b [] a last each = last
first_each f b (t ∷ ts) a last (this, rest) =
    ⊎_elim
    (λ (y : t.applies ≡ true). rw y this)
    (λ (y : t.applies ≡ false). rw y (first_each f b ts a last rest))
    (true_or_false t.applies)

-- What has happened by a submission with an answer, where an answer with a cost is passed over as the given event.
unfoldable refused_event : Event → Answer → Event
refused_event e (Ok n) = e
refused_event e (Err x) = submission_refused x

-- A submission on a card that is refused does not count.
card_not_counted : (s : List ℕ) {x : Refusal} → answer (check_card s) ≡ Err x → submission_refused x ≡ nothing_done
unfolding answer spec_of card_tests refused_event submission_refused
card_not_counted s e =
    sym (ap (refused_event nothing_done) e) ∙
    first_each (refused_event nothing_done) nothing_done (card_tests s) (Ok _) refl
    (refl, (refl, (refl, (refl, (refl, (refl, (refl, (refl, tt))))))))

-- A submission that marking refuses counts.
marking_counted : (s x : List ℕ) → Accepted s → {y : Refusal} → answer (mark_sheet s x) ≡ Err y → submission_refused y ≡ submission_counted
unfolding answer spec_of refused_event submission_refused
marking_counted s x given e =
    sym (ap (refused_event submission_counted) (sym (on_card_passed s (sheet_tests (instance_of s) x) _ given) ∙ e)) ∙
    first_each (refused_event submission_counted) submission_counted (sheet_tests (instance_of s) x) _ refl (refl, (refl, (refl, tt)))

module _ (z : Sitting) (v : Option Found) (d : ℕ) (s : List ℕ) where
  -- A submission on a card that is refused is refused with the same number.
  pub card_barred : {y : Refusal} → answer (check_card s) ≡ Err y → Barred z v d s y
  unfolding answer_to act_spec
  card_barred e = record { refused_is = λ x. on_card_refused s _ _ e; uncounted = card_not_counted s e }

  module _ (x : List ℕ) where
    -- A submission that is refused before it counts changes nothing.
    pub barred_outcome : {y : Refusal} {r : Outcome} → Barred z v d s y → r ≡ unchanged_of y z → r ≡ outcome_of z v v (submit_sheet d s x)
    unfolding outcome_of change_for reply_giving reply_seen event_seen told reply_with marked_with event_of event_with act_spec sitting_after
    barred_outcome b e = e ∙ rw (b.refused_is x, b.uncounted)

    module _ {bytes : List ℕ} {f : Found} (given : Admitted z v d s bytes f) (accepted : Accepted bytes) {a : Answer}
        (is : a ≡ answer (mark_sheet bytes x)) where
      answered : answer_to (seen z v v) (submit_sheet d s x) ≡ a
      answered = given.as_marking x ∙ rw (← given.card_is) (sym is)

      -- A submission that marking refuses changes no record.
      pub counted_outcome :
          {y : Refusal} {r : Outcome} → a ≡ Err y → r ≡ unchanged_of y (with_submissions z (z.submissions + 1)) →
          r ≡ outcome_of z v v (submit_sheet d s x)
      unfolding outcome_of change_for reply_giving reply_seen event_seen told reply_with marked_with event_of event_with act_spec sitting_after
      counted_outcome refused e = e ∙ rw (answered, refused, marking_counted bytes x accepted (sym is ∙ refused))

      -- A submission that is marked: the candidate's record takes its cost.
      pub marked_outcome :
          {k : ℕ} {seat : Seat} {r : Reply} → a ≡ Ok k → seat ≡ marked_record k f.seat →
          r ≡ reply_giving (Ok k) 0 (with_submissions z (z.submissions + 1)) →
          ◌≡◌ {A = Outcome} (record { change = Some (record { at = f.at; seat = seat }); reply = r }) (outcome_of z v v (submit_sheet d s x))
      unfolding outcome_of change_for reply_giving reply_seen event_seen told reply_with marked_with event_of event_with act_spec sitting_after
      marked_outcome marked seat-is e = rw (e, seat-is, answered, marked, given.record_is) refl
