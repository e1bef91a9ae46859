-- Any sequence of acts of a sitting that starts afresh is told what the rules tell from the history alone (document 02, §4): `any_sequence`. What a
-- call leaves holds the state that the transition makes of the one handed to it: `transition`.
use Rattle.std.specs.Prelude.{ℕ, ◌≡◌, refl, false, List, [], ◌∷◌, length}
use Rattle.basics.specs.Core.{sym, ap, ◌∙◌, subst, true≢false, length-map}
use Rattle.basics.specs.FirstPlace.{occurs}
use Rattle.model.specs.Answers.{Answer}
use Rattle.model.specs.declared.Seat.{Seat}
use Rattle.model.specs.declared.Sitting.{Sitting}
use Rattle.model.specs.Acts.{Act, open_sitting, is_unopened, Event, nothing_done, opening_done, act_spec}
use Rattle.model.specs.SittingState.{facts_of, after, phase_of, seats_of, place_of, state_of}
use Rattle.model.specs.Sittings.{next, answer_to, event_with, event_of, told, told_by, reply_with, reply_of, seats_at_exit, event_in, told_in_turn, StartsAfresh}
use Rattle.model.specs.Sittings.{from_unopened, from_opening}
use Rattle.model.specs.Sittings.{phase_in, facts_in, told_from}
use Rattle.laws.specs.SittingLaws.{concerned, events_agree, told_agree}
use Rattle.laws.specs.SittingRecords.{state_after}
use Rattle.theory.specs.SittingEvents.{acts_possible}
use Rattle.theory.specs.SittingHistory.{Joined, joined_agrees, event_joined, opening_joined}

-- What an act leaves holds the state after what has happened by it.
pub left_state : (z : Sitting) (xs : List Seat) (a : Act) →
    state_of (reply_of z xs a).sitting (seats_at_exit z xs a) ≡ after (event_in z xs a) (state_of z xs)
unfolding reply_of reply_with seats_at_exit
left_state z xs a = state_after (event_in z xs a) z xs

-- The calls are the transition: what an act leaves holds the state that the transition makes of the state handed to it.
pub transition :
    (z : Sitting) (xs : List Seat) (a : Act) → state_of (reply_of z xs a).sitting (seats_at_exit z xs a) ≡ next (state_of z xs) a
unfolding next
transition z xs a = left_state z xs a

module _ (seats : ℕ) where
  -- A sitting and its seats that hold the state of a history are told what the history tells, act for act.
  told_alike :
      (acts : List Act) (z : Sitting) (xs : List Seat) (h : List Event) → Joined seats h (state_of z xs) → told_in_turn z xs acts ≡ told_from seats h acts
  unfolding told_in_turn told_from told_by event_of
  told_alike [] z xs h j = refl
  told_alike (a ∷ more) z xs h j =
      let agree = joined_agrees j (concerned a) in
      let next = event_joined j (acts_possible (state_of z xs) a (answer_to (facts_of (state_of z xs)) a) refl) in
      let rest = told_alike more (reply_of z xs a).sitting (seats_at_exit z xs a) (event_in z xs a ∷ h) (subst (Joined seats _) (sym (left_state z xs a)) next) in
      rw (sym (events_agree a _ _ agree), rest, told_agree a (facts_of (state_of z xs)) (facts_in seats h) agree)

-- Any sequence of acts that starts afresh is told what the history tells: who was seated, how many submissions counted, the lowest cost among
-- a candidate's marked sheets, whether the sitting was closed.
pub any_sequence :
    {z : Sitting} {xs : List Seat} {acts : List Act} → StartsAfresh z xs acts → told_in_turn z xs acts ≡ told_from (length (seats_of xs)) [] acts
unfolding phase_in occurs is_unopened told_in_turn told_from told_by told answer_to event_of event_with act_spec
any_sequence {z} {xs} (from_unopened acts e) =
    let never : is_unopened (phase_of z.state) ≡ false → ⊥ = λ o. true≢false (sym (ap is_unopened e) ∙ o) in
    told_alike (length (seats_of xs)) acts z xs [] (record {
      phase_told = e;
      size = length-map (seats_of xs) place_of;
      allowance_told = λ o. absurd (never o);
      used_told = λ o. absurd (never o);
      least_told = λ o. absurd (never o);
      seats_told = λ o. absurd (never o);
    })
any_sequence {z} {xs} (from_opening d a c p w acts n e) =
    let act = open_sitting d a c p w in
    let seats = length (seats_of xs) in
    let joined = opening_joined seats [] (state_of z xs) a n (length-map (seats_of xs) place_of) in
    let left = left_state z xs act ∙ ap (λ (r : Answer). after (event_with (opening_done a) (λ x. nothing_done) r) (state_of z xs)) e in
    let rest = told_alike seats acts (reply_of z xs act).sitting (seats_at_exit z xs act) _ (subst (Joined seats _) (sym left) joined) in
    rw (e, rest)
