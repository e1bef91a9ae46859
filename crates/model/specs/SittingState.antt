-- The state of a sitting (document 02, §4), how an event changes it, and the records that hold it: the sitting that each act gives back and
-- the lent list of seats.
use Rattle.std.specs.Prelude.{ℕ, ◌+◌, min, Bool, cond, not, List, ◌++◌, map, get_or, take, drop, eqb}
use Rattle.basics.specs.Core.{Option, none, some}
use Rattle.basics.specs.FirstPlace.{occurs, first_place, change_first}
use Rattle.model.specs.declared.Seat.{Seat}
use Rattle.model.specs.declared.Sitting.{Sitting}
use Rattle.model.specs.Acts.{Phase, unopened, opened, closed, Facts}
use Rattle.model.specs.Acts.{Event, nothing_done, opening_done, seating_done, closing_done, submission_counted, submission_marked}

-- A seat: 'candidate number (two bytes, not 0) and the lowest cost marked so far, or none'. An empty one has number 0.
pub record Place : Type 0 where
  pub candidate : ℕ
  pub lowest : Option ℕ

-- The state: unopened, open or closed, the allowance, the submissions used, 'one count for the whole room', the least cost, and the seats.
pub record State : Type 0 where
  pub phase : Phase
  pub allowance : ℕ
  pub used : ℕ
  pub least : ℕ
  pub places : List Place

-- A seat is that of candidate c.
abbrev pub is_for : ℕ → Place → Bool
is_for c p = eqb p.candidate c

abbrev pub empty_place : Place
empty_place = record { candidate = 0; lowest = none }

-- What the rules ask about a sitting, read from its state. A candidate's seat is the first with its number.
abbrev pub facts_of : State → Facts
facts_of s =
    record {
      phase = s.phase;
      allowance = s.allowance;
      used = s.used;
      least = s.least;
      seated = λ c. occurs (is_for c) s.places;
      full = not (occurs (is_for 0) s.places);
      lowest = λ c. (get_or s.places (first_place (is_for c) s.places) empty_place).lowest;
    }

-- The lower of a lowest cost so far and a new cost.
unfoldable pub lower_of : Option ℕ → ℕ → ℕ
lower_of none n = n
lower_of (some l) n = min l n

-- 'seating fills the first empty one': the candidate's number, and nothing marked.
abbrev pub seated_place : ℕ → Place → Place
seated_place c p = record { candidate = c; lowest = none }

-- A sheet of a seat's candidate is marked with a cost.
abbrev pub marked_place : ℕ → Place → Place
marked_place n p = record { candidate = p.candidate; lowest = some (lower_of p.lowest n) }

-- The state after an event: 'opening .. empties the first 32 records, and seating fills the first empty one'.
unfoldable pub after : Event → State → State
after nothing_done s = s
after (opening_done a n) s =
    record { phase = opened; allowance = a; used = 0; least = n; places = map (λ p. empty_place) s.places }
after (seating_done c) s =
    record {
      phase = s.phase;
      allowance = s.allowance;
      used = s.used;
      least = s.least;
      places = change_first (is_for 0) (seated_place c) s.places;
    }
after closing_done s =
    record { phase = closed; allowance = s.allowance; used = s.used; least = s.least; places = s.places }
after submission_counted s =
    record { phase = s.phase; allowance = s.allowance; used = s.used + 1; least = s.least; places = s.places }
after (submission_marked c n) s =
    record {
      phase = s.phase;
      allowance = s.allowance;
      used = s.used + 1;
      least = s.least;
      places = change_first (is_for c) (marked_place n) s.places;
    }

-- The phase that the number in a sitting stands for: 1 open, 2 closed; every other number counts as unopened.
unfoldable pub phase_of : ℕ → Phase
phase_of n = cond (eqb n 1) opened (cond (eqb n 2) closed unopened)

-- 'one record a seat, at most 32': the records after the 32nd are no seats.
abbrev pub seat_limit : ℕ
seat_limit = 32

-- The records that are seats, and those after them.
abbrev pub seats_of : List Seat → List Seat
seats_of xs = take seat_limit xs

abbrev pub beyond_seats : List Seat → List Seat
beyond_seats xs = drop seat_limit xs

-- A record is that of candidate c. The empty records are those of candidate 0.
abbrev pub is_of : ℕ → Seat → Bool
is_of c s = eqb s.candidate c

-- The lowest cost that a record holds, or none: there is one if its field `marked` is not 0.
unfoldable pub lowest_of : Seat → Option ℕ
lowest_of s = cond (eqb s.marked 0) none (some s.lowest)

-- The seat that a record holds.
abbrev pub place_of : Seat → Place
place_of s = record { candidate = s.candidate; lowest = lowest_of s }

-- The state that a sitting and a lent list of seats hold, whatever their values are.
abbrev pub state_of : Sitting → List Seat → State
state_of z xs =
    record {
      phase = phase_of z.state;
      allowance = z.allowance;
      used = z.submissions;
      least = z.least;
      places = map place_of (seats_of xs);
    }

-- An empty record.
abbrev pub empty_seat : Seat
empty_seat = record { lowest = 0; candidate = 0; marked = 0; reserved = 0 }

-- The record of a candidate who has just been seated.
abbrev pub seated_record : ℕ → Seat → Seat
seated_record c s = record { lowest = 0; candidate = c; marked = 0; reserved = 0 }

-- A record once a sheet of its candidate is marked with a cost: its number and its field `reserved` stay.
abbrev pub marked_record : ℕ → Seat → Seat
marked_record n s =
    record { lowest = lower_of (lowest_of s) n; candidate = s.candidate; marked = 1; reserved = s.reserved }

-- The sitting that an act gives back after an event.
unfoldable pub sitting_after : Event → Sitting → Sitting
sitting_after nothing_done z = z
sitting_after (opening_done a n) z = record { state = 1; allowance = a; submissions = 0; least = n }
sitting_after (seating_done c) z = z
sitting_after closing_done z =
    record { state = 2; allowance = z.allowance; submissions = z.submissions; least = z.least }
sitting_after submission_counted z =
    record { state = z.state; allowance = z.allowance; submissions = z.submissions + 1; least = z.least }
sitting_after (submission_marked c n) z =
    record { state = z.state; allowance = z.allowance; submissions = z.submissions + 1; least = z.least }

-- The lent list of seats after an event: 'opening .. empties the first 32 records, and seating fills the first empty one'; the records after
-- the 32nd stay as they were.
unfoldable pub seats_after : Event → List Seat → List Seat
seats_after nothing_done xs = xs
seats_after (opening_done a n) xs = map (λ s. empty_seat) (seats_of xs) ++ beyond_seats xs
seats_after (seating_done c) xs = change_first (is_of 0) (seated_record c) (seats_of xs) ++ beyond_seats xs
seats_after closing_done xs = xs
seats_after submission_counted xs = xs
seats_after (submission_marked c n) xs = change_first (is_of c) (marked_record n) (seats_of xs) ++ beyond_seats xs
