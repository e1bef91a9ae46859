-- What an act makes of what is found in the list is what it makes of the list: `seating_acts`, `submission_acts`, `least_shown`, `lowest_shown`.
use Rattle.std.specs.Prelude.{ℕ, Bool, ◌≡◌, refl, true, false, not, Option, is_some, List, ◌++◌, map, get_or, set, eqb}
use Rattle.basics.specs.Core.{sym, ap, ◌∙◌, ⊎_elim, take-append-drop, get_or-map, get_or-eq_default, le_refl}
use Rattle.basics.specs.Core.{set-append_left, not-false}
use Rattle.basics.specs.Numbers.{true_or_false}
use Rattle.basics.specs.Tests.{or_right}
use Rattle.basics.specs.FirstPlace.{occurs, first_place, change_first, place_inside, place_beyond, change_sets, occurs_map, place_map}
use Rattle.model.specs.Answers.{Answer}
use Rattle.std.specs.Prelude.{Ok, Err}
use Rattle.model.specs.declared.Seat.{Seat}
use Rattle.model.specs.declared.Sitting.{Sitting}
use Rattle.model.specs.Acts.{Act, seat_candidate, submit_sheet, read_least, read_lowest, Event, nothing_done, seating_done}
use Rattle.model.specs.Acts.{submission_marked, submission_refused, act_spec}
use Rattle.model.specs.SittingState.{Place, is_for, empty_place, facts_of, seats_of, beyond_seats, is_of, lowest_of, place_of, state_of}
use Rattle.model.specs.SittingState.{empty_seat, seated_record, marked_record, seats_after}
use Rattle.model.specs.Sittings.{answer_to, event_with, event_of, event_in, told, told_by, reply_of, seats_at_exit}
use Rattle.laws.specs.FirstRefusal.{none_applies}
use Rattle.laws.specs.SittingLaws.{submitted_seated, concerned, AgreeAt, events_agree, told_agree, refused_does}
use Rattle.seats.specs.declared.Found.{Found}
use Rattle.seats.specs.Found.{found, put_back}
use Rattle.sitting.specs.Seen.{record_of, seen, changed, change_for, event_seen, reply_seen, outcome_of}

module _ (c : ℕ) (xs : List Seat) where
  -- A record is found exactly if the candidate's number occurs among the seats.
  found_occurs : is_some (found c xs) ≡ occurs (is_of c) (seats_of xs)
  unfolding found
  found_occurs =
      ⊎_elim
      (λ (t : occurs (is_of c) (seats_of xs) ≡ true). rw t refl)
      (λ (t : occurs (is_of c) (seats_of xs) ≡ false). rw t refl)
      (true_or_false (occurs (is_of c) (seats_of xs)))

  -- The record that is found is that at the first place of the number.
  found_record : record_of (found c xs) ≡ get_or (seats_of xs) (first_place (is_of c) (seats_of xs)) empty_seat
  unfolding found record_of
  found_record =
      ⊎_elim
      (λ (t : occurs (is_of c) (seats_of xs) ≡ true). rw t refl)
      (λ (t : occurs (is_of c) (seats_of xs) ≡ false).
      rw (t, place_beyond (is_of c) (seats_of xs) t) (sym (get_or-eq_default (seats_of xs) empty_seat (le_refl _))))
      (true_or_false (occurs (is_of c) (seats_of xs)))

-- What is found for a candidate and for an empty record, and the list, agree as far as an act about this candidate can tell.
seen_agrees : (z : Sitting) (xs : List Seat) (c : ℕ) → AgreeAt c (seen z (found c xs) (found 0 xs)) (facts_of (state_of z xs))
unfolding seen lowest_of
seen_agrees z xs c =
    let there : (e : ℕ) → occurs (is_for e) (map place_of (seats_of xs)) ≡ occurs (is_of e) (seats_of xs) =
    λ e. occurs_map place_of (is_of e) (is_for e) (λ s. refl) (seats_of xs) in
    record {
      same_phase = refl;
      once_opened = λ o. record {
        same_allowance = refl;
        same_used = refl;
        same_least = refl;
        same_full = ap not (found_occurs 0 xs ∙ sym (there 0));
        same_seated = λ e. found_occurs c xs ∙ sym (there c);
        same_lowest = λ e.
            ap lowest_of (found_record c xs)
            ∙ ap (λ (p : Place). p.lowest) (sym
            (ap (λ (k : ℕ). get_or (map place_of (seats_of xs)) k empty_place) (place_map place_of (is_of c) (is_for c) (λ s. refl) (seats_of xs))
            ∙ get_or-map place_of (seats_of xs) (first_place (is_of c) (seats_of xs)) empty_seat));
      };
    }

-- By what is found for the candidate that an act is about, and by another search, the act replies and does what it does by the list.
abbrev Shown : Sitting → List Seat → (w : Option Found) → Act → Type 0
Shown z xs w a =
    let v = found (concerned a) xs in
    (reply_seen z v w a ≡ reply_of z xs a) × (event_seen z v w a ≡ event_in z xs a)

module _ (z : Sitting) (xs : List Seat) where
  -- So it is where the other search is that for an empty record.
  shown : (a : Act) → Shown z xs (found 0 xs) a
  unfolding event_seen reply_seen reply_of told_by
  shown a =
      let agree = seen_agrees z xs (concerned a) in
      let same = events_agree a _ _ agree in
      (rw (told_agree a _ _ agree, same), same)

  -- An act that asks for no empty record is shown by any other search.
  submission_shown : (d : ℕ) (card sheet : List ℕ) (w : Option Found) → Shown z xs w (submit_sheet d card sheet)
  unfolding event_seen reply_seen seen told event_of answer_to act_spec
  submission_shown d card sheet w = shown (submit_sheet d card sheet)

  pub least_shown : (d : ℕ) (w : Option Found) → Shown z xs w (read_least d)
  unfolding event_seen reply_seen seen told event_of answer_to act_spec
  least_shown d w = shown (read_least d)

  pub lowest_shown : (d c : ℕ) (w : Option Found) → Shown z xs w (read_lowest d c)
  unfolding event_seen reply_seen seen told event_of answer_to act_spec
  lowest_shown d c w = shown (read_lowest d c)

-- A list in which the first seat that passes a test is changed is set at its place.
changed_set :
    (f : Seat → Bool) (g : Seat → Seat) (xs : List Seat) → occurs f (seats_of xs) ≡ true →
    set xs (first_place f (seats_of xs)) (g (get_or (seats_of xs) (first_place f (seats_of xs)) empty_seat)) ≡ change_first f g (seats_of xs) ++ beyond_seats xs
changed_set f g xs there =
    let k = first_place f (seats_of xs) in
    let s = g (get_or (seats_of xs) k empty_seat) in
    ap (λ (l : List Seat). set l k s) (sym (take-append-drop 32 xs))
    ∙ set-append_left (seats_of xs) (beyond_seats xs) k s (place_inside f (seats_of xs) there)
    ∙ ap (λ (l : List Seat). l ++ beyond_seats xs) (sym (change_sets f g empty_seat (seats_of xs)))

-- A list in which the first record of a candidate is changed has it put back at its place.
changed_put :
    (c : ℕ) (g : Seat → Seat) (xs : List Seat) → occurs (is_of c) (seats_of xs) ≡ true →
    put_back (changed g (found c xs)) xs ≡ change_first (is_of c) g (seats_of xs) ++ beyond_seats xs
unfolding found put_back
changed_put c g xs there = rw there (changed_set (is_of c) g xs there)

-- By two searches an event puts back in a list what it makes of the list.
abbrev Puts : (v w : Option Found) → List Seat → Event → Type 0
Puts v w xs e = put_back (change_for v w e) xs ≡ seats_after e xs

-- Seating puts back the first empty record, or nothing where it is refused.
seating_put : (z : Sitting) (xs : List Seat) (d c : ℕ) (r : Answer) → answer_to (facts_of (state_of z xs)) (seat_candidate d c) ≡ r →
    Puts (found c xs) (found 0 xs) xs (event_with (λ n. seating_done c) (λ x. nothing_done) r)
unfolding event_with change_for put_back seats_after answer_to act_spec
seating_put z xs d c (Err x) e = refl
seating_put z xs d c (Ok n) e =
    let (permitted, (known, none)) = none_applies _ _ e in
    let free = not-false _ (or_right (occurs (is_for c) (map place_of (seats_of xs))) _ (or_right (eqb c 0) _ known)) in
    changed_put 0 (seated_record c) xs (sym (occurs_map place_of (is_of 0) (is_for 0) (λ s. refl) (seats_of xs)) ∙ free)

-- A submission puts back the record of its candidate, or nothing where it is refused.
submission_put : (z : Sitting) (xs : List Seat) (d : ℕ) (card sheet : List ℕ) (w : Option Found) (r : Answer) →
    answer_to (facts_of (state_of z xs)) (submit_sheet d card sheet) ≡ r → Puts (found d xs) w xs (event_with (submission_marked d) submission_refused r)
unfolding event_with act_spec change_for put_back seats_after
submission_put z xs d card sheet w (Err x) e =
    refused_does (Puts (found d xs) w xs) (submit_sheet d card sheet) x refl (λ f c s same counted. refl)
submission_put z xs d card sheet w (Ok n) e =
    changed_put d (marked_record n) xs
    (sym (occurs_map place_of (is_of d) (is_for d) (λ s. refl) (seats_of xs)) ∙ not-false _ (or_right (eqb d 0) _ (submitted_seated _ d card sheet e)))

-- What an act does by what is found is the reply and the list of seats that the rules give.
pub record Acts (z : Sitting) (xs : List Seat) (w : Option Found) (a : Act) : Type 0 where
  pub reply_is : (outcome_of z (found (concerned a) xs) w a).reply ≡ reply_of z xs a
  pub list_is : put_back (outcome_of z (found (concerned a) xs) w a).change xs ≡ seats_at_exit z xs a

module _ (z : Sitting) (xs : List Seat) where
  acts : (w : Option Found) (a : Act) → Shown z xs w a → Puts (found (concerned a) xs) w xs (event_in z xs a) → Acts z xs w a
  unfolding outcome_of seats_at_exit
  acts w a (reply, event) put = record { reply_is = reply; list_is = rw event put }

  -- Seating.
  pub seating_acts : (d c : ℕ) → Acts z xs (found 0 xs) (seat_candidate d c)
  unfolding event_of act_spec
  seating_acts d c = acts _ (seat_candidate d c) (shown z xs (seat_candidate d c)) (seating_put z xs d c _ refl)

  -- A submission.
  pub submission_acts : (d : ℕ) (card sheet : List ℕ) (w : Option Found) → Acts z xs w (submit_sheet d card sheet)
  unfolding event_of act_spec
  submission_acts d card sheet w =
      acts w (submit_sheet d card sheet) (submission_shown z xs d card sheet w) (submission_put z xs d card sheet w _ refl)
