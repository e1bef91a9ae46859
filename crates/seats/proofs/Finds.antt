-- One seat more of a search that is at place k: so far nothing is found, by the steps of Scanning.
use Rattle.std.specs.Prelude.{ℕ, suc, ◌+◌, ◌≤◌, ◌<◌, min, ◌≡◌, true, false, Some, None, List, length, get_or, take}
use Rattle.std.proofs.lemmas.List.{take_min}
use Rattle.basics.specs.Core.{sym, ap, ◌∙◌, ⊎_elim, eq-or-lt_of_le, eq-eqb, ne_eqb, add-one, arith}
use Rattle.model.specs.declared.Seat.{Seat}
use Rattle.model.specs.SittingState.{seats_of, is_of, empty_seat}
use Rattle.seats.specs.Found.{found}
use Rattle.seats.specs.Scanning.{look_of, turns, view_at, seat_in, view_start, view_next, view_end, turn_more, turn_none}

module _ (c : ℕ) (xs : List Seat) (k : ℕ) (seen : (k ≤ turns c xs) × (view_at c xs k ≡ None)) {n : ℕ} (seats : n ≡ min 32 (length xs)) where
  -- A seat is left to see.
  more : k < length (seats_of xs) → k < turns c xs
  more inside = grind (arith, turn_none c xs)

  -- What is found once this seat is seen.
  next : view_at c xs (suc k) ≡ look_of None k (get_or xs k empty_seat) c
  next = sym (view_next c xs k) ∙ rw seen.1

  -- The candidate's: it is the last seat that is seen.
  some :
      k < length (seats_of xs) → is_of c (get_or (seats_of xs) k empty_seat) ≡ true →
      view_at c xs (suc k) ≡ Some (record { at = k; seat = get_or xs k empty_seat })
  some inside own = next ∙ rw (ap (is_of c) (seat_in c xs k inside) ∙ own)

  last : k < length (seats_of xs) → is_of c (get_or (seats_of xs) k empty_seat) ≡ true → view_at c xs (suc k) ≡ found c xs
  last inside own =
      let one = some inside own in
      ⊎_elim
      (λ (e : suc k ≡ turns c xs). rw e (view_end c xs))
      (λ (h : suc k < turns c xs). let none = (turn_more c xs (suc k) h).1 in cc)
      (eq-or-lt_of_le (more inside))

  pub found_here :
      k < length (take n xs) → (get_or (take n xs) k empty_seat).candidate ≡ c →
      Some (record { at = k; seat = get_or (take n xs) k empty_seat }) ≡ found c xs
  found_here inside own =
      let own-at = rw (seats, take_min 32 xs) at own in
      let inside-at : k < length (seats_of xs) = rw (seats, take_min 32 xs) at inside in
      let own-test = eq-eqb _ c own-at in
      rw (seats, take_min 32 xs, sym (seat_in c xs k inside-at)) (sym (some inside-at own-test) ∙ last inside-at own-test)

  -- Another's: one seat more is seen, and nothing is found.
  pub turn_later : k < length (take n xs) → k + 1 ≤ turns c xs
  turn_later inside =
      let inside-at : k < length (seats_of xs) = rw (seats, take_min 32 xs) at inside in
      omega (arith, more inside-at)

  pub none_later :
      k < length (take n xs) → ((get_or (take n xs) k empty_seat).candidate ≡ c → ⊥) → view_at c xs (k + 1) ≡ None
  none_later inside other =
      let inside-at : k < length (seats_of xs) = rw (seats, take_min 32 xs) at inside in
      let other-at = rw (seats, take_min 32 xs) at other in
      let none : is_of c (get_or xs k empty_seat) ≡ false = ap (is_of c) (seat_in c xs k inside-at) ∙ ne_eqb _ c other-at in
      rw (add-one k) (next ∙ rw none)

  -- None is left.
  pub found_none : length (take n xs) ≤ k → None ≡ found c xs
  found_none past =
      let past-at : length (seats_of xs) ≤ k = rw (seats, take_min 32 xs) at past in
      let all : k ≡ turns c xs = omega (arith, seen.0) in
      sym seen.1 ∙ rw all (view_end c xs)

-- Before the first seat nothing is found.
pub none_first : (c : ℕ) (xs : List Seat) → view_at c xs 0 ≡ None
none_first c xs = sym (view_start c xs)

pub ruleset finds = (none_first, turn_later, none_later, found_here, found_none)
