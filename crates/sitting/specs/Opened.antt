-- What an opening does, decided without the list of seats, is what it does with the list: `opening_reply`, `opening_seats`.
use Rattle.std.specs.Prelude.{ℕ, ◌≡◌, refl, List, [], ◌∷◌, ◌++◌, map, length, replicate}
use Rattle.basics.specs.Core.{sym, ap}
use Rattle.model.specs.Answers.{Answer}
use Rattle.std.specs.Prelude.{Ok, Err}
use Rattle.model.specs.declared.Seat.{Seat}
use Rattle.model.specs.declared.Sitting.{Sitting}
use Rattle.model.specs.Acts.{Act, open_sitting, nothing_done, opening_done, act_spec}
use Rattle.model.specs.SittingState.{seats_of, beyond_seats, empty_seat, seats_after}
use Rattle.model.specs.Calls.{act_in, spec_of, answer, buffers_at_exit, plan_at_exit, work_at_exit}
use Rattle.model.specs.Sittings.{answer_to, event_with, event_of, told, told_by, reply_of, seats_at_exit}
use Rattle.seats.specs.Found.{emptied}
use Rattle.sitting.specs.Seen.{records_emptied, opening_of}

-- The images under a function that is x all over are x, as many times.
map_constant : {A B : Type 0} (x : B) (xs : List A) → map (λ a. x) xs ≡ replicate (length xs) x
map_constant x [] = refl
map_constant x (y ∷ ys) = ap (λ (l : List _). x ∷ l) (map_constant x ys)

-- An opening.
module _ (z : Sitting) (xs : List Seat) (d al : ℕ) (c p w : List ℕ) where
  abbrev act : Act
  act = open_sitting d al c p w

  -- The buffer for the plan at exit.
  pub opening_plan : plan_at_exit (act_in z [] act) ≡ plan_at_exit (act_in z xs act)
  unfolding plan_at_exit buffers_at_exit answer spec_of act_spec
  opening_plan = refl

  -- The buffer for the work at exit.
  pub opening_work : work_at_exit (act_in z [] act) ≡ work_at_exit (act_in z xs act)
  unfolding work_at_exit buffers_at_exit answer spec_of act_spec
  opening_work = refl

  -- The reply.
  pub opening_reply : (opening_of z act).reply ≡ reply_of z xs act
  unfolding opening_of reply_of told_by told answer_to event_of act_spec
  opening_reply = refl

  -- The list of seats after an answer.
  emptied_by : (r : Answer) → emptied (records_emptied r) xs ≡ seats_after (event_with (opening_done al) (λ x. nothing_done) r) xs
  unfolding records_emptied emptied seats_after event_with
  emptied_by (Ok n) = ap (λ (l : List Seat). l ++ beyond_seats xs) (sym (map_constant empty_seat (seats_of xs)))
  emptied_by (Err x) = refl

  -- The list of seats.
  pub opening_seats : emptied (opening_of z act).emptied xs ≡ seats_at_exit z xs act
  unfolding opening_of seats_at_exit event_of answer spec_of answer_to act_spec
  opening_seats = emptied_by _
