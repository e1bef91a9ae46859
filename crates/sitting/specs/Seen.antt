-- What an act makes of what is found in the list of seats.
use Rattle.std.specs.Prelude.{ℕ, ◌<◌, ◌≡◌, not, Option, Some, None, is_some, option_map, List, []}
use Rattle.model.specs.declared.Refusal.{Refusal}
use Rattle.model.specs.Answers.{Answer}
use Rattle.std.specs.Prelude.{Ok, Err}
use Rattle.model.specs.declared.Seat.{Seat}
use Rattle.model.specs.declared.Sitting.{Sitting}
use Rattle.model.specs.declared.Reply.{Reply}
use Rattle.model.specs.Answers.{refusal_number}
use Rattle.model.specs.Acts.{Act, submit_sheet, Facts}
use Rattle.model.specs.Acts.{Event, nothing_done, opening_done, seating_done, closing_done, submission_counted, submission_marked, submission_refused}
use Rattle.model.specs.SittingState.{phase_of, lowest_of, seat_limit, empty_seat, seated_record, marked_record, sitting_after}
use Rattle.model.specs.Calls.{mark_sheet, act_in, answer}
use Rattle.model.specs.Sittings.{answer_to, event_of, told, reply_with, reply_of}
use Rattle.seats.specs.declared.Found.{Found}
use Rattle.sitting.specs.declared.Outcome.{Outcome}
use Rattle.sitting.specs.declared.OpenOutcome.{OpenOutcome}

-- The record that is found, or an empty one where none is.
unfoldable pub record_of : Option Found → Seat
record_of None = empty_seat
record_of (Some r) = r.seat

-- The facts of a sitting as two searches of the list show them, v for a candidate and w for an empty record. For this candidate they are those of
-- the list. Seating alone asks for an empty record: another act is decided by v, which then stands for w too.
unfoldable pub seen : Sitting → (v w : Option Found) → Facts
seen z v w =
    record {
      phase = phase_of z.state;
      allowance = z.allowance;
      used = z.submissions;
      least = z.least;
      seated = λ c. is_some v;
      full = not (is_some w);
      lowest = λ c. lowest_of (record_of v);
    }

-- A record that is found, changed at its place.
abbrev pub changed : (Seat → Seat) → Option Found → Option Found
changed g = option_map (λ r. record { at = r.at; seat = g r.seat })

-- The record that an event changes, as it becomes: the first empty record, the candidate's, or none.
unfoldable pub change_for : (v w : Option Found) → Event → Option Found
change_for v w nothing_done = None
change_for v w (opening_done a n) = None
change_for v w (seating_done c) = changed (seated_record c) w
change_for v w closing_done = None
change_for v w submission_counted = None
change_for v w (submission_marked c n) = changed (marked_record n) v

-- What has happened by an act that is handed a sitting and what is found.
unfoldable pub event_seen : Sitting → (v w : Option Found) → Act → Event
event_seen z v w a = event_of (seen z v w) a

-- The reply that what is found gives.
unfoldable pub reply_seen : Sitting → (v w : Option Found) → Act → Reply
reply_seen z v w a = reply_with (told (seen z v w) a) (sitting_after (event_seen z v w a) z)

-- What an act does, by what is found.
unfoldable pub outcome_of : Sitting → (v w : Option Found) → Act → Outcome
outcome_of z v w a = record { change = change_for v w (event_seen z v w a); reply = reply_seen z v w a }

-- The reply with an answer; a refusal marks nothing.
unfoldable pub reply_giving : Answer → (marked : ℕ) → Sitting → Reply
reply_giving (Ok n) m z = record { number = 0; cost = n; marked = m; sitting = z }
reply_giving (Err x) m z = record { number = refusal_number x; cost = 0; marked = 0; sitting = z }

-- What an act does that is refused and changes no record.
abbrev pub unchanged_of : Refusal → Sitting → Outcome
unchanged_of x z = record { change = None; reply = reply_giving (Err x) 0 z }

-- A sitting with another number of submissions used.
abbrev pub with_submissions : Sitting → ℕ → Sitting
with_submissions z n = record { state = z.state; allowance = z.allowance; submissions = n; least = z.least }

-- A submission on a card counts, whatever the sheet: the card is accepted, the caller's record is found, and the sheet is answered as marking does.
pub record Admitted (z : Sitting) (v : Option Found) (caller : ℕ) (card bytes : List ℕ) (r : Found) : Type 0 where
  pub card_is : bytes ≡ card
  pub record_is : v ≡ Some r
  pub one_more : z.submissions < z.allowance
  pub as_marking : (sheet : List ℕ) → answer_to (seen z v v) (submit_sheet caller card sheet) ≡ answer (mark_sheet card sheet)

-- A submission on a card is refused, whatever the sheet, and does not count.
pub record Barred (z : Sitting) (v : Option Found) (caller : ℕ) (card : List ℕ) (x : Refusal) : Type 0 where
  pub refused_is : (sheet : List ℕ) → answer_to (seen z v v) (submit_sheet caller card sheet) ≡ Err x
  pub uncounted : submission_refused x ≡ nothing_done

-- The records that an opening with an answer empties: the seats, or none.
unfoldable pub records_emptied : Answer → ℕ
records_emptied (Ok n) = seat_limit
records_emptied (Err x) = 0

-- What an opening does, which the list of seats does not alter.
unfoldable pub opening_of : Sitting → Act → OpenOutcome
opening_of z a = record { emptied = records_emptied (answer (act_in z [] a)); reply = reply_of z [] a }
