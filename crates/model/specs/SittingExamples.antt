-- Examples of the acts of a sitting (document 02, §4), most of them on card A, whose least cost is 32: tables of acts, a table of what wrong
-- readings would answer, and a table of sequences of acts, among them a whole sitting, by the calls in turn and by its history.
use Rattle.std.specs.Prelude.{ℕ, List, [], ◌∷◌, ◌++◌, map, set, replicate}
use Rattle.basics.specs.Core.{option_elim, arith}
use Prim.Native.String.{String}
use Rattle.basics.specs.FirstPlace.{occurs, count_of, first_place, change_first}
use Rattle.model.specs.declared.Seat.{Seat}
use Rattle.model.specs.declared.Sitting.{Sitting}
use Rattle.model.specs.Acts.{Act, open_sitting, seat_candidate, close_sitting, submit_sheet, read_least, read_lowest, read_used, is_unopened, is_opened}
use Rattle.model.specs.Acts.{is_closed, submission_refused, act_spec}
use Rattle.model.specs.SittingState.{lower_of, phase_of, lowest_of, sitting_after, seats_after}
use Rattle.model.specs.Specs.{card_tests, first_of}
use Rattle.model.specs.Calls.{act_in, outcome}
use Rattle.model.specs.Sittings.{answer_to, marked_with, event_with, event_of, Told, told, told_by, reply_with, reply_of, seats_at_exit, told_in_turn}
use Rattle.model.specs.Sittings.{effect_of, since_opening, smallest_of, lowest_among, phase_in, told_from}
use Rattle.model.specs.Examples.{card_a, card_e, card_g, card_i, sheet_d, sevens, over, Example, agrees, AllHold, NoneHold}

-- A sitting with its four numbers, and a record with its four.
abbrev pub sitting_of : (state allowance submissions least : ℕ) → Sitting
sitting_of s a u l = record { state = s; allowance = a; submissions = u; least = l }

abbrev seat_of : (candidate lowest marked reserved : ℕ) → Seat
seat_of c l m r = record { lowest = l; candidate = c; marked = m; reserved = r }

-- An empty record, records that no act has left, and a sitting that is open with one submission used of three.
abbrev free : Seat
free = seat_of 0 0 0 0

abbrev pub odd : Seat
odd = seat_of 0 7 7 7

abbrev open_now : Sitting
open_now = sitting_of 1 3 1 32

abbrev closed_now : Sitting
closed_now = sitting_of 2 3 1 32

-- Candidates 5, with a lowest cost of 40 and something in the reserved field, and 6, with none.
abbrev room : List Seat
room = seat_of 5 40 1 9 ∷ seat_of 6 0 0 0 ∷ free ∷ []

-- The numbers of a sitting and of a record.
abbrev sitting_numbers : Sitting → List ℕ
sitting_numbers z = z.state ∷ z.allowance ∷ z.submissions ∷ z.least ∷ []

abbrev seat_numbers : Seat → List ℕ
seat_numbers s = s.candidate ∷ s.lowest ∷ s.marked ∷ s.reserved ∷ []

-- A reply and a list of seats as lists of numbers.
abbrev shown_as : (number cost marked : ℕ) → Sitting → List Seat → List (List ℕ)
shown_as number cost marked z xs = (number ∷ cost ∷ marked ∷ []) ∷ sitting_numbers z ∷ map seat_numbers xs

-- What an act leaves, computed through every definition.
act_shown : Sitting → List Seat → Act → List (List ℕ)
unfolding occurs first_place change_first is_unopened is_opened is_closed submission_refused event_with event_of lower_of phase_of lowest_of
    sitting_after seats_after act_spec card_tests first_of answer_to marked_with told
    told_by reply_with reply_of seats_at_exit option_elim agrees
act_shown z xs a =
    let r = reply_of z xs a in shown_as r.number r.cost r.marked r.sitting (seats_at_exit z xs a)

-- A row: an act that is handed a sitting and a list of seats, and what is expected of it.
abbrev act : String → Sitting → List Seat → Act → (number cost marked : ℕ) → Sitting → List Seat → Example
act n z xs a number cost marked z' xs' = record { name = n; found = act_shown z xs a; expected = shown_as number cost marked z' xs' }

-- A row of an act that is refused and changes nothing.
abbrev refused : String → Sitting → List Seat → Act → (number : ℕ) → Example
refused n z xs a number = act n z xs a number 0 0 z xs

-- Opening with card A and areas of 5 and 14 bytes.
abbrev opens : (caller allowance : ℕ) → Act
opens d a = open_sitting d a card_a (sevens 5) (sevens 14)

-- The supervisor's acts: opening, seating, closing.
supervisor_rows : List Example
supervisor_rows =
    act "open" (sitting_of 0 0 0 0) (replicate 34 odd) (opens 0 3) 0 32 0 (sitting_of 1 3 0 32) (replicate 32 free ++ replicate 2 odd) ∷
    act "open anew" closed_now room (opens 0 1000) 0 32 0 (sitting_of 1 1000 0 32) (replicate 3 free) ∷
    refused "open by a candidate" open_now room (opens 5 3) 15 ∷
    refused "open with allowance 0" open_now room (opens 0 0) 17 ∷
    refused "open with allowance 1,001" open_now room (opens 0 1001) 17 ∷
    refused "open: 15 before 17" open_now room (opens 5 0) 15 ∷
    refused "open: 10 before 15" open_now room (open_sitting 5 0 card_a (sevens 2) (sevens 14)) 10 ∷
    refused "open with a short work area" open_now room (open_sitting 0 3 card_a (sevens 5) (sevens 11)) 10 ∷
    refused "open: 2 before 10" open_now room (open_sitting 5 0 (set card_a 3 2) [] []) 2 ∷
    refused "open: 8 before 10" open_now room (open_sitting 0 3 (set card_a 33 7) [] []) 8 ∷
    act "open gives the exact planner's cost" open_now room (open_sitting 0 3 card_e (sevens 4) (sevens 28)) 0 5 0 (sitting_of 1 3 0 5) (replicate 3 free) ∷
    act "open while open, on a table that falls" open_now room (open_sitting 0 3 card_g (sevens 2) (sevens 4)) 0 2 0 (sitting_of 1 3 0 2) (replicate 3 free) ∷
    act "seat in the first empty record" open_now (seat_of 5 40 1 9 ∷ odd ∷ free ∷ []) (seat_candidate 0 8) 0 0 0 open_now
    (seat_of 5 40 1 9 ∷ seat_of 8 0 0 0 ∷ free ∷ []) ∷
    act "seat, and leave what is beyond the seats" open_now (replicate 32 free ++ (odd ∷ odd ∷ [])) (seat_candidate 0 8) 0 0 0 open_now
    ((seat_of 8 0 0 0 ∷ replicate 31 free) ++ (odd ∷ odd ∷ [])) ∷
    refused "seat by a candidate" open_now room (seat_candidate 5 8) 15 ∷
    refused "seat: 15 before 16" closed_now room (seat_candidate 0 5) 15 ∷
    refused "seat before opening" (sitting_of 3 3 1 32) room (seat_candidate 0 8) 15 ∷
    refused "seat number 0" open_now room (seat_candidate 0 0) 16 ∷
    refused "seat taken" open_now room (seat_candidate 0 6) 16 ∷
    refused "seat beyond the list" open_now (seat_of 5 0 0 0 ∷ []) (seat_candidate 0 8) 16 ∷
    refused "seat beyond the 32nd" open_now (replicate 32 (seat_of 5 0 0 0) ++ (free ∷ [])) (seat_candidate 0 8) 16 ∷
    act "close" open_now room (close_sitting 0) 0 0 0 closed_now room ∷
    refused "close twice" closed_now room (close_sitting 0) 15 ∷
    refused "close before opening" (sitting_of 0 3 1 32) room (close_sitting 0) 15 ∷
    refused "close by a candidate" open_now room (close_sitting 5) 15 ∷
    []

-- Submissions: what is marked, what counts, and the order of the refusals.
submission_rows : List Example
submission_rows =
    act "a first sheet" open_now room (submit_sheet 6 card_a sheet_d) 0 37 0 (sitting_of 1 3 2 32) (seat_of 5 40 1 9 ∷ seat_of 6 37 1 0 ∷ free ∷ []) ∷
    act "a lower sheet" open_now room (submit_sheet 5 card_a sheet_d) 0 37 0 (sitting_of 1 3 2 32) (seat_of 5 37 1 9 ∷ seat_of 6 0 0 0 ∷ free ∷ []) ∷
    act "a higher sheet" open_now room (submit_sheet 5 card_a (set sheet_d 8 0)) 0 43 0 (sitting_of 1 3 2 32) room ∷
    act "a mark other than 1 is a mark" open_now (seat_of 5 36 2 9 ∷ []) (submit_sheet 5 card_a sheet_d) 0 37 0 (sitting_of 1 3 2 32) (seat_of 5 36 1 9 ∷ []) ∷
    act "refused by 13, and counted" open_now room (submit_sheet 5 card_a (replicate 9 255)) 13 0 0 (sitting_of 1 3 2 32) room ∷
    act "refused by 12, before 13, and counted" open_now room (submit_sheet 5 card_a (set (replicate 9 255) 0 3)) 12 0 0 (sitting_of 1 3 2 32) room ∷
    act "refused by 11 before 12" open_now room (submit_sheet 5 card_a (3 ∷ [])) 11 0 0 (sitting_of 1 3 2 32) room ∷
    act "refused by 11, and counted" open_now room (submit_sheet 5 card_a []) 11 0 0 (sitting_of 1 3 2 32) room ∷
    refused "refused by 5, not counted" open_now room (submit_sheet 5 (card_a ++ (7 ∷ [])) sheet_d) 5 ∷
    refused "refused by 1, not counted" open_now room (submit_sheet 5 (7 ∷ card_a) sheet_d) 1 ∷
    refused "refused by 7, not counted" open_now room (submit_sheet 5 (set card_a 25 2) sheet_d) 7 ∷
    refused "refused by 8, not counted" open_now room (submit_sheet 5 (set card_a 29 7) sheet_d) 8 ∷
    act "the first of two records, and none beyond the seats" open_now (seat_of 5 40 1 9 ∷ seat_of 5 40 1 9 ∷ (replicate 30 free ++ (seat_of 5 40 1 9 ∷ [])))
    (submit_sheet 5 card_a sheet_d) 0 37 0
    (sitting_of 1 3 2 32) (seat_of 5 37 1 9 ∷ seat_of 5 40 1 9 ∷ (replicate 30 free ++ (seat_of 5 40 1 9 ∷ []))) ∷
    refused "a seat beyond the 32nd is none" open_now (replicate 32 free ++ (seat_of 5 40 1 9 ∷ [])) (submit_sheet 5 card_a sheet_d) 16 ∷
    refused "the card before 15, 16 and 17" (sitting_of 2 3 3 32) room (submit_sheet 7 (card_a ++ (7 ∷ [])) []) 5 ∷
    refused "17 before 12" (sitting_of 1 3 3 32) room (submit_sheet 5 card_a (set sheet_d 0 3)) 17 ∷
    act "the sitting's least stays" (sitting_of 1 3 1 50) room (submit_sheet 5 card_a sheet_d) 0 37 0 (sitting_of 1 3 2 50)
    (seat_of 5 37 1 9 ∷ seat_of 6 0 0 0 ∷ free ∷ []) ∷
    act "an allowance above 1,000 as it stands" (sitting_of 1 1001 1000 32) room (submit_sheet 6 card_a sheet_d) 0 37 0 (sitting_of 1 1001 1001 32)
    (seat_of 5 40 1 9 ∷ seat_of 6 37 1 0 ∷ free ∷ []) ∷
    refused "a sheet before opening" (sitting_of 0 3 1 32) room (submit_sheet 5 card_a sheet_d) 15 ∷
    refused "15 before 16 and 17" (sitting_of 2 3 3 32) room (submit_sheet 7 card_a []) 15 ∷
    refused "a sheet of the supervisor" open_now room (submit_sheet 0 card_a sheet_d) 15 ∷
    refused "a sheet after closing" closed_now room (submit_sheet 5 card_a sheet_d) 15 ∷
    refused "a sheet without a seat" open_now room (submit_sheet 7 card_a sheet_d) 16 ∷
    refused "the allowance is spent: 17 before 11" (sitting_of 1 3 3 32) room (submit_sheet 5 card_a []) 17 ∷
    refused "16 before 17" (sitting_of 1 3 3 32) room (submit_sheet 7 card_a []) 16 ∷
    []

-- What is read.
reading_rows : List Example
reading_rows =
    act "the supervisor reads the least" open_now room (read_least 0) 0 32 0 open_now room ∷
    act "the supervisor reads the least after closing" closed_now room (read_least 0) 0 32 0 closed_now room ∷
    refused "least: 15 before 16" open_now room (read_least 7) 15 ∷
    refused "a state of 3 is not closed" (sitting_of 3 3 1 32) room (read_least 5) 15 ∷
    refused "a candidate reads the least before closing" open_now room (read_least 5) 15 ∷
    act "a candidate reads the least after closing" closed_now room (read_least 5) 0 32 0 closed_now room ∷
    refused "no seat, no least" closed_now room (read_least 7) 16 ∷
    refused "no least before opening" (sitting_of 0 3 1 32) room (read_least 0) 15 ∷
    act "the own lowest" open_now room (read_lowest 5 5) 0 40 1 open_now room ∷
    act "the own lowest after closing" closed_now room (read_lowest 5 5) 0 40 1 closed_now room ∷
    act "a lowest is the first record's" open_now (seat_of 5 40 1 9 ∷ seat_of 5 35 1 9 ∷ []) (read_lowest 0 5) 0 40 1 open_now
    (seat_of 5 40 1 9 ∷ seat_of 5 35 1 9 ∷ []) ∷
    refused "no lowest before opening" (sitting_of 0 3 1 32) room (read_lowest 0 5) 15 ∷
    refused "lowest: 15 before 16" open_now room (read_lowest 5 7) 15 ∷
    refused "the own lowest without a seat" open_now room (read_lowest 7 7) 16 ∷
    act "none yet" closed_now room (read_lowest 0 6) 0 0 0 closed_now room ∷
    act "a lowest of 0 is told from none" open_now (seat_of 5 0 1 0 ∷ []) (read_lowest 5 5) 0 0 1 open_now (seat_of 5 0 1 0 ∷ []) ∷
    refused "another's lowest" open_now room (read_lowest 5 6) 15 ∷
    refused "another's lowest, which is marked" open_now room (read_lowest 6 5) 15 ∷
    refused "the lowest of nobody" open_now room (read_lowest 0 7) 16 ∷
    refused "the lowest of 0" open_now room (read_lowest 0 0) 16 ∷
    act "submissions used" closed_now room (read_used 0) 0 1 0 closed_now room ∷
    refused "submissions used, by a candidate" open_now room (read_used 5) 15 ∷
    refused "submissions used at a state of 3" (sitting_of 3 3 1 32) room (read_used 0) 15 ∷
    refused "submissions used before opening" (sitting_of 0 3 1 32) room (read_used 0) 15 ∷
    []

-- What wrong readings of the paragraph would answer.
sitting_wrong : List Example
sitting_wrong =
    refused "a sheet refused by 13 uses nothing" open_now room (submit_sheet 5 card_a (replicate 9 255)) 13 ∷
    act "the lowest is the last" open_now room (submit_sheet 5 card_a (set sheet_d 8 0)) 0 43 0 (sitting_of 1 3 2 32)
    (seat_of 5 43 1 9 ∷ seat_of 6 0 0 0 ∷ free ∷ []) ∷
    act "a candidate is told the least" open_now room (read_least 5) 0 32 0 open_now room ∷
    act "a second closing" closed_now room (close_sitting 0) 0 0 0 closed_now room ∷
    []

-- What the acts of a whole sitting are told: by the calls, each handed what the last one left, and from the history alone.
abbrev told_numbers : Told → List ℕ
told_numbers t = t.number ∷ t.cost ∷ t.marked ∷ []

in_turn_shown : Sitting → List Seat → List Act → List (List ℕ)
unfolding act_shown told_in_turn
in_turn_shown z xs acts = map told_numbers (told_in_turn z xs acts)

history_shown : ℕ → List Act → List (List ℕ)
unfolding act_shown effect_of since_opening smallest_of lowest_among phase_in count_of told_from
history_shown seats acts = map told_numbers (told_from seats [] acts)

-- A sitting with an allowance of four on a list of two seats, and a second one with an allowance of one.
abbrev pub whole_sitting : List Act
whole_sitting =
    seat_candidate 0 5 ∷ opens 0 4 ∷ seat_candidate 0 0 ∷ seat_candidate 0 5 ∷ seat_candidate 0 5 ∷ seat_candidate 0 6 ∷ seat_candidate 0 7 ∷
    read_lowest 5 5 ∷ submit_sheet 5 card_a (set sheet_d 8 0) ∷ submit_sheet 5 card_a sheet_d ∷ submit_sheet 5 card_a (set sheet_d 8 0) ∷ read_lowest 0 5 ∷
    read_lowest 6 6 ∷ read_least 5 ∷ submit_sheet 6 card_a [] ∷ submit_sheet 6 card_a sheet_d ∷ opens 0 0 ∷ read_used 0 ∷ close_sitting 0 ∷ read_least 6 ∷
    close_sitting 0 ∷ read_used 0 ∷ opens 0 1 ∷ read_lowest 0 5 ∷ read_used 0 ∷ seat_candidate 0 7 ∷ submit_sheet 7 card_a sheet_d ∷ seat_candidate 0 5 ∷
    read_lowest 5 5 ∷ submit_sheet 5 card_a sheet_d ∷ read_least 7 ∷ []

abbrev whole_told : List (List ℕ)
whole_told =
    (15 ∷ 0 ∷ 0 ∷ []) ∷ (0 ∷ 32 ∷ 0 ∷ []) ∷ (16 ∷ 0 ∷ 0 ∷ []) ∷ (0 ∷ 0 ∷ 0 ∷ []) ∷ (16 ∷ 0 ∷ 0 ∷ []) ∷ (0 ∷ 0 ∷ 0 ∷ []) ∷ (16 ∷ 0 ∷ 0 ∷ []) ∷
    (0 ∷ 0 ∷ 0 ∷ []) ∷ (0 ∷ 43 ∷ 0 ∷ []) ∷ (0 ∷ 37 ∷ 0 ∷ []) ∷ (0 ∷ 43 ∷ 0 ∷ []) ∷ (0 ∷ 37 ∷ 1 ∷ []) ∷
    (0 ∷ 0 ∷ 0 ∷ []) ∷ (15 ∷ 0 ∷ 0 ∷ []) ∷ (11 ∷ 0 ∷ 0 ∷ []) ∷ (17 ∷ 0 ∷ 0 ∷ []) ∷ (17 ∷ 0 ∷ 0 ∷ []) ∷ (0 ∷ 4 ∷ 0 ∷ []) ∷ (0 ∷ 0 ∷ 0 ∷ []) ∷ (0 ∷ 32 ∷ 0 ∷ []) ∷
    (15 ∷ 0 ∷ 0 ∷ []) ∷ (0 ∷ 4 ∷ 0 ∷ []) ∷ (0 ∷ 32 ∷ 0 ∷ []) ∷ (16 ∷ 0 ∷ 0 ∷ []) ∷ (0 ∷ 0 ∷ 0 ∷ []) ∷ (0 ∷ 0 ∷ 0 ∷ []) ∷ (0 ∷ 37 ∷ 0 ∷ []) ∷ (0 ∷ 0 ∷ 0 ∷ []) ∷
    (0 ∷ 0 ∷ 0 ∷ []) ∷ (17 ∷ 0 ∷ 0 ∷ []) ∷ (15 ∷ 0 ∷ 0 ∷ []) ∷ []

whole_rows : List Example
whole_rows =
    record { name = "a whole sitting, call by call"; found = in_turn_shown (sitting_of 0 0 0 0) (odd ∷ odd ∷ []) whole_sitting; expected = whole_told } ∷
    record { name = "a whole sitting, by its history"; found = history_shown 2 whole_sitting; expected = whole_told } ∷
    record {
      name = "with another card a lowest cost may be below the least";
      found = in_turn_shown (sitting_of 0 0 0 0) (odd ∷ []) (opens 0 3 ∷ seat_candidate 0 5 ∷ submit_sheet 5 card_i [] ∷ read_lowest 5 5 ∷ []);
      expected = (0 ∷ 32 ∷ 0 ∷ []) ∷ (0 ∷ 0 ∷ 0 ∷ []) ∷ (0 ∷ 0 ∷ 0 ∷ []) ∷ (0 ∷ 0 ∷ 1 ∷ []) ∷ [];
    } ∷
    record {
      name = "the bytes that an opening leaves";
      found = outcome (act_in open_now room (open_sitting 0 3 card_e (sevens 4) (sevens 28)));
      expected = (0 ∷ 5 ∷ []) ∷ over 4 (5 ∷ 5 ∷ 5 ∷ []) ∷ over 28 (replicate 27 0) ∷ [];
    } ∷
    []

supervisor_rows_hold : AllHold supervisor_rows
unfolding supervisor_rows agrees act_shown
supervisor_rows_hold = omega arith

submission_rows_hold : AllHold submission_rows
unfolding submission_rows agrees act_shown
submission_rows_hold = omega arith

reading_rows_hold : AllHold reading_rows
unfolding reading_rows agrees act_shown
reading_rows_hold = omega arith

sitting_wrong_differ : NoneHold sitting_wrong
unfolding sitting_wrong agrees act_shown
sitting_wrong_differ = omega arith

whole_rows_hold : AllHold whole_rows
unfolding whole_rows agrees act_shown in_turn_shown history_shown
whole_rows_hold = omega arith
