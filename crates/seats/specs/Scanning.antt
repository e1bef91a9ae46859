-- Finding seat by seat: what is found once some seats are seen, `view_at`, from the start to the end, `view_end`; and the turns of this, at each of
-- which nothing is found before, `turn_more`, and a record of the list is seen, `turn_in`, until one is found or all are seen, `turn_none`.
use Rattle.std.specs.Prelude.{ℕ, zero, suc, ◌≤◌, ◌<◌, min, ◌≡◌, refl, true, false, cond, Option, Some, None, IsSome, List, length, get_or, ◌⊎◌}
use Rattle.basics.specs.Core.{sym, ap, ◌∙◌, inl, inr, ⊎_elim, le_refl, arith, length-take, get_or-take, min-le_left, min-le_right}
use Rattle.basics.specs.Numbers.{true_or_false}
use Rattle.basics.specs.FirstPlace.{occurs, first_place, place_inside, place_beyond}
use Rattle.model.specs.declared.Seat.{Seat}
use Rattle.model.specs.SittingState.{seat_limit, seats_of, is_of, empty_seat}
use Rattle.seats.specs.declared.Found.{Found}
use Rattle.seats.specs.Found.{found}
use Rattle.seats.specs.FoundLaws.{before_place, at_place, first_found, none_found}

-- What is found for candidate c once one more record is seen, which is at place k.
abbrev pub look_of : Option Found → (k : ℕ) → Seat → (c : ℕ) → Option Found
look_of None k s c = cond (is_of c s) (Some (record { at = k; seat = s })) None
look_of (Some r) k s c = Some r

module _ (c : ℕ) (xs : List Seat) where
  -- The number of seats, and the candidate's place.
  abbrev seats : ℕ
  seats = length (seats_of xs)

  abbrev place : ℕ
  place = first_place (is_of c) (seats_of xs)

  -- The number of seats that are seen: those before the candidate's and this one, or all.
  abbrev pub turns : ℕ
  turns = min (suc place) seats

  -- What is found once j seats are seen.
  unfoldable pub view_at : ℕ → Option Found
  view_at zero = None
  view_at (suc j) = look_of (view_at j) j (get_or xs j empty_seat) c

  -- The place is one of the seats, or their number.
  place_within : place ≤ seats
  place_within =
      ⊎_elim
      (λ (e : occurs (is_of c) (seats_of xs) ≡ true). omega (arith, place_inside (is_of c) (seats_of xs) e))
      (λ (e : occurs (is_of c) (seats_of xs) ≡ false). omega (arith, place_beyond (is_of c) (seats_of xs) e))
      (true_or_false (occurs (is_of c) (seats_of xs)))

  -- A seat is a record of the list.
  pub seat_in : (j : ℕ) → j < seats → get_or xs j empty_seat ≡ get_or (seats_of xs) j empty_seat
  seat_in j h = sym (get_or-take seat_limit xs j empty_seat (omega (arith, length-take seat_limit xs, min-le_left seat_limit (length xs))))

  -- What is found after one seat more.
  next_view : (j : ℕ) {v : Option Found} → view_at j ≡ v → view_at (suc j) ≡ look_of v j (get_or xs j empty_seat) c
  unfolding view_at
  next_view j e = ap (λ (v : Option Found). look_of v j (get_or xs j empty_seat) c) e

  -- Up to the candidate's place nothing is found.
  passed_is : (j : ℕ) → j ≤ place → view_at j ≡ None
  unfolding view_at
  passed_is zero h = refl
  passed_is (suc j) h =
      let other : is_of c (get_or xs j empty_seat) ≡ false =
      ap (is_of c) (seat_in j (omega (arith, place_within))) ∙ before_place (is_of c) empty_seat (seats_of xs) j h in
      next_view j (passed_is j (omega arith)) ∙ rw other refl

  -- What is found before the first seat, and after one seat more.
  pub view_start : None ≡ view_at 0
  unfolding view_at
  view_start = refl

  pub view_next : (j : ℕ) → look_of (view_at j) j (get_or xs j empty_seat) c ≡ view_at (suc j)
  view_next j = sym (next_view j refl)

  -- What is found after the last seat that is seen.
  pub view_end : view_at turns ≡ found c xs
  view_end =
      ⊎_elim
      (λ (e : occurs (is_of c) (seats_of xs) ≡ true).
      let inside : place < seats = place_inside (is_of c) (seats_of xs) e in
      let at : is_of c (get_or (seats_of xs) place empty_seat) ≡ true = at_place (is_of c) empty_seat (seats_of xs) e in
      let own : is_of c (get_or xs place empty_seat) ≡ true = ap (is_of c) (seat_in place inside) ∙ at in
      let last : turns ≡ suc place = omega arith in
      ap view_at last ∙ next_view place (passed_is place (le_refl place)) ∙
      rw own (ap (λ (s : Seat). Some (record { at = place; seat = s })) (seat_in place inside)) ∙ first_found c xs place (le_refl place) inside at)
      (λ (e : occurs (is_of c) (seats_of xs) ≡ false).
      let none : place ≡ seats = place_beyond (is_of c) (seats_of xs) e in
      let last : turns ≡ place = omega arith in
      ap view_at last ∙ passed_is place (le_refl place) ∙ none_found c xs place (le_refl place) (omega arith))
      (true_or_false (occurs (is_of c) (seats_of xs)))

  module _ (j : ℕ) (h : j < turns) where
    -- At every seat that is seen nothing is found before, and the seat is one of the list.
    pub turn_more : (j < seats) × (view_at j ≡ None)
    turn_more = (omega arith, passed_is j (omega arith))

    pub turn_in : j < length xs
    turn_in = omega (arith, length-take seat_limit xs, min-le_right seat_limit (length xs))

  -- After the last one a record is found, or no seat is left.
  pub turn_none : IsSome (view_at turns) ⊎ (turns ≡ seats)
  unfolding found
  turn_none =
      ⊎_elim
      (λ (e : occurs (is_of c) (seats_of xs) ≡ true). inl (rw (view_end, e)))
      (λ (e : occurs (is_of c) (seats_of xs) ≡ false). inr (omega (arith, place_beyond (is_of c) (seats_of xs) e)))
      (true_or_false (occurs (is_of c) (seats_of xs)))
