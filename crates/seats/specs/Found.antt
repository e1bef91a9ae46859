-- The first record of a candidate in the list of seats, the list once a record is put back, and the list whose first records are emptied.
use Rattle.std.specs.Prelude.{ℕ, cond, Option, Some, None, List, ◌++◌, length, get_or, set, take, drop, replicate}
use Rattle.basics.specs.FirstPlace.{occurs, first_place}
use Rattle.model.specs.declared.Seat.{Seat}
use Rattle.model.specs.SittingState.{seats_of, is_of, empty_seat}
use Rattle.seats.specs.declared.Found.{Found}

-- The first record for candidate c among the seats, with its place, or none where no seat is the candidate's.
unfoldable pub found : ℕ → List Seat → Option Found
found c xs =
    cond (occurs (is_of c) (seats_of xs))
    (Some (record { at = first_place (is_of c) (seats_of xs); seat = get_or (seats_of xs) (first_place (is_of c) (seats_of xs)) empty_seat }))
    None

-- The list with a record put back at its place, or as it is where there is no record, or its place is beyond the list.
unfoldable pub put_back : Option Found → List Seat → List Seat
put_back None xs = xs
put_back (Some r) xs = set xs r.at r.seat

-- The list with its first n records emptied, or all where there are fewer.
unfoldable pub emptied : ℕ → List Seat → List Seat
emptied n xs = replicate (length (take n xs)) empty_seat ++ drop n xs
