-- The records of a sitting hold its state (document 02, §4): what an event makes of the records holds what it makes of the state, `state_after`.
use Rattle.std.specs.Prelude.{ℕ, ◌≤◌, ◌<◌, ◌≡◌, refl, Bool, List, [], ◌∷◌, ◌++◌, map, length, take, drop}
use Rattle.basics.specs.Core.{ap, ◌∙◌, append-nil, ⊎_elim, arith}
use Rattle.basics.specs.Core.{length-take, length-map, drop_of_length-le, take_at, take_all}
use Rattle.basics.specs.Numbers.{le_or_lt}
use Rattle.basics.specs.FirstPlace.{change_first, length_change, change_map}
use Rattle.model.specs.declared.Seat.{Seat}
use Rattle.model.specs.declared.Sitting.{Sitting}
use Rattle.model.specs.Acts.{opened, Event, nothing_done, opening_done, seating_done, closing_done, submission_counted, submission_marked}
use Rattle.model.specs.SittingState.{Place, State, is_for, empty_place, seated_place, marked_place, after, phase_of, seat_limit, seats_of, beyond_seats}
use Rattle.model.specs.SittingState.{is_of, lowest_of, place_of, state_of, empty_seat, seated_record, marked_record, sitting_after, seats_after}

-- The first n elements of a list, replaced by as many others, are those.
take_replaced : {A : Type 0} (n : ℕ) (xs ys : List A) → length ys ≡ length (take n xs) → take n (ys ++ drop n xs) ≡ ys
take_replaced n xs ys size =
    ⊎_elim
    (λ (h : n ≤ length xs). take_at ys (drop n xs) n (size ∙ length-take n xs ∙ omega arith))
    (λ (h : length xs < n). let short : length xs ≤ n = omega arith in
    rw (drop_of_length-le xs short, append-nil ys) (take_all n ys (omega (arith, length-take n xs, size))))
    (le_or_lt n (length xs))

-- Every seat of a list is emptied where every record is.
emptied_places : (xs : List Seat) → map place_of (map (λ s. empty_seat) xs) ≡ map (λ p. empty_place) (map place_of xs)
unfolding lowest_of
emptied_places [] = refl
emptied_places (x ∷ xs) = ap (λ (ps : List Place). empty_place ∷ ps) (emptied_places xs)

-- The state of a sitting with some seats.
abbrev holding : Sitting → List Place → State
holding z ps =
    record { phase = phase_of z.state; allowance = z.allowance; used = z.submissions; least = z.least; places = ps }

-- The seats that the records hold, where those that are seats are replaced by as many others.
places_replaced : (xs ys : List Seat) → length ys ≡ length (seats_of xs) → map place_of (seats_of (ys ++ beyond_seats xs)) ≡ map place_of ys
places_replaced xs ys size = ap (map place_of) (take_replaced seat_limit xs ys size)

-- The seats that the records hold, where the first record that passes a test is changed.
places_changed :
    (f : Seat → Bool) (h : Place → Bool) → ((s : Seat) → h (place_of s) ≡ f s) → (g : Seat → Seat) (k : Place → Place) →
    ((s : Seat) → place_of (g s) ≡ k (place_of s)) → (xs : List Seat) →
    map place_of (seats_of (change_first f g (seats_of xs) ++ beyond_seats xs)) ≡ change_first h k (map place_of (seats_of xs))
places_changed f h same g k moved xs =
    places_replaced xs (change_first f g (seats_of xs)) (length_change f g (seats_of xs)) ∙ change_map place_of f h same g k moved (seats_of xs)

-- The state that the records hold after an event is the state after it.
pub state_after : (e : Event) (z : Sitting) (xs : List Seat) → state_of (sitting_after e z) (seats_after e xs) ≡ after e (state_of z xs)
unfolding sitting_after seats_after after phase_of lowest_of
state_after nothing_done z xs = refl
state_after (opening_done a n) z xs =
    ap (λ (ps : List Place). record { phase = opened; allowance = a; used = 0; least = n; places = ps })
    (places_replaced xs (map (λ s. empty_seat) (seats_of xs)) (length-map (seats_of xs) (λ s. empty_seat)) ∙ emptied_places (seats_of xs))
state_after (seating_done c) z xs =
    ap (holding z) (places_changed (is_of 0) (is_for 0) (λ s. refl) (seated_record c) (seated_place c) (λ s. refl) xs)
state_after closing_done z xs = refl
state_after submission_counted z xs = refl
state_after (submission_marked c n) z xs =
    ap (holding (sitting_after submission_counted z))
    (places_changed (is_of c) (is_for c) (λ s. refl) (marked_record n) (marked_place n) (λ s. refl) xs)
