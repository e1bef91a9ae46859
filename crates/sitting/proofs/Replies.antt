-- What an act that is on no card replies and does, by its answer.
use Rattle.std.specs.Prelude.{ℕ, ◌≡◌, refl, true, false, Option, Some, None, is_some, ok_or, Result, MatchResult, []}
use Rattle.basics.specs.Core.{sym, ◌∙◌, eq-eqb, ne_eqb}
use Rattle.model.specs.declared.Refusal.{Refusal}
use Rattle.model.specs.declared.Refusal.TheVariants.{SeatUnavailable}
use Rattle.model.specs.Answers.{Answer}
use Rattle.std.specs.Prelude.{Ok, Err}
use Rattle.model.specs.declared.Sitting.{Sitting}
use Rattle.model.specs.declared.Reply.{Reply}
use Rattle.model.specs.Answers.{refusal_number}
use Rattle.model.specs.Acts.{is_opened, seat_candidate, close_sitting, read_least, read_used, act_spec}
use Rattle.model.specs.SittingState.{empty_seat, seated_record, phase_of, facts_of, state_of, sitting_after}
use Rattle.model.specs.Specs.{first_of}
use Rattle.model.specs.Sittings.{answer_to, marked_with, event_with, event_of, told, told_by, reply_with, reply_of}
use Rattle.seats.specs.declared.Found.{Found}
use Rattle.sitting.specs.declared.Outcome.{Outcome}
use Rattle.sitting.specs.Seen.{seen, event_seen, change_for, reply_seen, outcome_of, reply_giving, unchanged_of}

module _ {a : Answer} (m : ℕ) (z : Sitting) where
  -- The reply with a cost, field by field.
  pub giving_cost : {n : ℕ} → a ≡ Ok n → ◌≡◌ {A = Reply} (record { number = 0; cost = n; marked = m; sitting = z }) (reply_giving a m z)
  unfolding reply_giving
  giving_cost e = rw e

  -- The reply with a refusal.
  pub giving_refusal :
      {x : Refusal} {n : ℕ} → a ≡ Err x → n ≡ refusal_number x →
      ◌≡◌ {A = Reply} (record { number = n; cost = 0; marked = 0; sitting = z }) (reply_giving a m z)
  unfolding reply_giving
  giving_refusal e n-is = rw (e, n-is)

-- Reading the submissions used changes nothing.
pub used_reply :
    (z : Sitting) (d : ℕ) {a : Answer} {r : Reply} → a ≡ answer_to (facts_of (state_of z [])) (read_used d) → r ≡ reply_giving a 0 z →
    r ≡ reply_of z [] (read_used d)
unfolding reply_giving reply_of told_by told reply_with marked_with event_of event_with act_spec sitting_after
used_reply z d {a = Ok n} is e = e ∙ rw (← is)
used_reply z d {a = Err x} is e = e ∙ rw (← is)

-- Reading the least cost changes nothing.
pub least_reply :
    (z : Sitting) (v : Option Found) (d : ℕ) {a : Answer} {r : Reply} → a ≡ answer_to (seen z v v) (read_least d) → r ≡ reply_giving a 0 z →
    r ≡ reply_seen z v v (read_least d)
unfolding reply_giving reply_seen event_seen told reply_with marked_with event_of event_with act_spec sitting_after
least_reply z v d {a = Ok n} is e = e ∙ rw (← is)
least_reply z v d {a = Err x} is e = e ∙ rw (← is)

module _ (z : Sitting) (d : ℕ) {a : Answer} (is : a ≡ answer_to (facts_of (state_of z [])) (close_sitting d)) {r : Reply} where
  -- A closing that is refused.
  pub closing_refused : {x : Refusal} → a ≡ Err x → r ≡ reply_giving (Err x) 0 z → r ≡ reply_of z [] (close_sitting d)
  unfolding reply_giving reply_of told_by told reply_with marked_with event_of event_with act_spec sitting_after
  closing_refused given e = e ∙ rw (sym is ∙ given)

  -- A closing.
  pub closing_done_lem :
      {n : ℕ} → a ≡ Ok n →
      r ≡
      reply_giving (Ok n) 0 (record { state = 2; allowance = z.allowance; submissions = z.submissions; least = z.least }) →
      r ≡ reply_of z [] (close_sitting d)
  unfolding reply_giving reply_of told_by told reply_with marked_with event_of event_with act_spec sitting_after
  closing_done_lem given e = e ∙ rw (sym is ∙ given)

module _ (z : Sitting) (v : Option Found) (d c : ℕ) where
  -- Where nothing else is against it, a seating takes the empty record that is found, or is refused where none is.
  pub seat_given :
      (w : Option Found) {r : Result Found Refusal} → d ≡ 0 → is_opened (phase_of z.state) ≡ true → (c ≡ 0 → ⊥) → is_some v ≡ false →
      r ≡ ok_or w SeatUnavailable →
      MatchResult r (λ f. (w ≡ Some f) × (answer_to (seen z v w) (seat_candidate d c) ≡ Ok 0)) (λ x. answer_to (seen z v w) (seat_candidate d c) ≡ Err x)
  unfolding answer_to act_spec first_of seen
  seat_given None by running nonzero free is = rw (is, eq-eqb d 0 by, running, ne_eqb c 0 nonzero, free) refl
  seat_given (Some f) by running nonzero free is = rw (is, eq-eqb d 0 by, running, ne_eqb c 0 nonzero, free) (refl, refl)

module _ (z : Sitting) (v w : Option Found) (d c : ℕ) where
  -- A seating that is refused.
  pub seating_refused :
      {x : Refusal} {r : Outcome} → answer_to (seen z v w) (seat_candidate d c) ≡ Err x → r ≡ unchanged_of x z →
      r ≡ outcome_of z v w (seat_candidate d c)
  unfolding outcome_of change_for reply_giving reply_seen event_seen told reply_with marked_with event_of event_with act_spec sitting_after
  seating_refused given e = e ∙ rw given

  -- A seating: the empty record that is found becomes the candidate's.
  pub seating_done_lem :
      {f : Found} {r : Reply} → (w ≡ Some f) × (answer_to (seen z v w) (seat_candidate d c) ≡ Ok 0) → r ≡ reply_giving (Ok 0) 0 z →
      ◌≡◌ {A = Outcome} (record { change = Some (record { at = f.at; seat = seated_record c empty_seat }); reply = r })
      (outcome_of z v w (seat_candidate d c))
  unfolding outcome_of change_for reply_giving reply_seen event_seen told reply_with marked_with event_of event_with act_spec sitting_after
  seating_done_lem (found, given) e = rw (e, given, found) refl
