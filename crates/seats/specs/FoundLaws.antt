-- The laws of finding and of emptying: a candidate's first record is at the first place of its number, `first_found`, `none_found`, and a list is emptied
-- record by record, `empty_next`.
use Rattle.std.specs.Prelude.{ℕ, zero, suc, ◌≤◌, ◌<◌, min, ◌≡◌, refl, Bool, true, false, Some, None, List, [], ◌∷◌, length, get_or, take, set, replicate}
use Rattle.basics.specs.Core.{sym, ap, ◌∙◌, ⊎_elim, true≢false, length-replicate, length_front, eq-or-lt_of_le}
use Rattle.basics.specs.Core.{zero-min, min-zero, suc-min-suc, not-suc-le-zero, le_of_suc-le-suc, arith}
use Rattle.basics.specs.Numbers.{true_or_false}
use Rattle.basics.specs.FirstPlace.{occurs, first_place, place_inside, place_beyond}
use Rattle.model.specs.declared.Seat.{Seat}
use Rattle.model.specs.SittingState.{seats_of, is_of, empty_seat}
use Rattle.seats.specs.Found.{found, emptied}

module _ (f : Seat → Bool) (d : Seat) where
  -- At each element before the first place the test fails, and there it holds.
  pub before_place : (ys : List Seat) (j : ℕ) → j < first_place f ys → f (get_or ys j d) ≡ false
  unfolding first_place
  before_place [] j h = absurd (not-suc-le-zero h)
  before_place (y ∷ ys) zero h =
      ⊎_elim
      (λ (t : f y ≡ true). absurd (not-suc-le-zero (rw t at h)))
      (λ (t : f y ≡ false). t)
      (true_or_false (f y))
  before_place (y ∷ ys) (suc j) h =
      ⊎_elim
      (λ (t : f y ≡ true). absurd (not-suc-le-zero (rw t at h)))
      (λ (t : f y ≡ false). before_place ys j (le_of_suc-le-suc (rw t at h)))
      (true_or_false (f y))

  pub at_place : (ys : List Seat) → occurs f ys ≡ true → f (get_or ys (first_place f ys) d) ≡ true
  unfolding occurs first_place
  at_place [] e = absurd (true≢false (sym e))
  at_place (y ∷ ys) e =
      ⊎_elim
      (λ (t : f y ≡ true). rw t t)
      (λ (t : f y ≡ false). rw t (at_place ys (rw t at e)))
      (true_or_false (f y))

  module _ (ys : List Seat) (k : ℕ) (upto : k ≤ first_place f ys) where
    -- Where no element before it passes, an element that passes is at the first place, and the test holds at one.
    pub place_here : f (get_or ys k d) ≡ true → first_place f ys ≡ k
    place_here t =
        ⊎_elim
        (λ (e : k ≡ first_place f ys). sym e)
        (λ (h : k < first_place f ys). absurd (true≢false (sym t ∙ before_place ys k h)))
        (eq-or-lt_of_le upto)

    pub occurs_here : k < length ys → f (get_or ys k d) ≡ true → occurs f ys ≡ true
    occurs_here h t =
        ⊎_elim
        (λ (y : occurs f ys ≡ true). y)
        (λ (n : occurs f ys ≡ false). absurd (omega (arith, place_beyond f ys n, place_here t, h)))
        (true_or_false (occurs f ys))

    -- An element that does not pass is before the first place.
    pub place_later : k < length ys → f (get_or ys k d) ≡ false → k < first_place f ys
    place_later h t =
        ⊎_elim
        (λ (e : k ≡ first_place f ys).
        ⊎_elim
        (λ (y : occurs f ys ≡ true). absurd (true≢false (sym (at_place ys y) ∙ rw (sym e) t)))
        (λ (n : occurs f ys ≡ false). absurd (omega (arith, place_beyond f ys n, e, h)))
        (true_or_false (occurs f ys)))
        (λ (less : k < first_place f ys). less)
        (eq-or-lt_of_le upto)

module _ (c : ℕ) (xs : List Seat) where
  -- The candidate's place among the seats, or their number.
  abbrev place : ℕ
  place = first_place (is_of c) (seats_of xs)

  -- What is found at a seat of the candidate where none before is.
  pub first_found :
      (k : ℕ) → k ≤ place → k < length (seats_of xs) → is_of c (get_or (seats_of xs) k empty_seat) ≡ true →
      Some (record { at = k; seat = get_or (seats_of xs) k empty_seat }) ≡ found c xs
  unfolding found
  first_found k upto h t = rw (occurs_here (is_of c) empty_seat (seats_of xs) k upto h t, place_here (is_of c) empty_seat (seats_of xs) k upto t)

  -- Nothing is found where no seat is the candidate's.
  pub none_found : (k : ℕ) → k ≤ place → length (seats_of xs) ≤ k → None ≡ found c xs
  unfolding found
  none_found k upto h =
      ⊎_elim
      (λ (y : occurs (is_of c) (seats_of xs) ≡ true). absurd (omega (arith, upto, h, place_inside (is_of c) (seats_of xs) y)))
      (λ (n : occurs (is_of c) (seats_of xs) ≡ false). rw n refl)
      (true_or_false (occurs (is_of c) (seats_of xs)))

-- Nothing is emptied before the first record, and one record more is emptied by setting it.
pub empty_none : (xs : List Seat) → emptied 0 xs ≡ xs
unfolding emptied
empty_none xs = refl

pub empty_next : (xs : List Seat) (j : ℕ) → j < length xs → set (emptied j xs) j empty_seat ≡ emptied (suc j) xs
unfolding emptied
empty_next [] j h = absurd (not-suc-le-zero h)
empty_next (x ∷ xs) zero h = refl
empty_next (x ∷ xs) (suc j) h = ap (λ (ys : List Seat). empty_seat ∷ ys) (empty_next xs j (le_of_suc-le-suc h))

-- Emptying keeps the number of records.
pub empty_length : (n : ℕ) (xs : List Seat) → length (emptied n xs) ≡ length xs
unfolding emptied
empty_length n xs = length_front xs (replicate (length (take n xs)) empty_seat) n (length-replicate _ empty_seat)

-- Emptying more records than there are empties all.
pub empty_least : (n : ℕ) (xs : List Seat) → emptied (min n (length xs)) xs ≡ emptied n xs
unfolding emptied
empty_least zero xs = rw (zero-min (length xs))
empty_least (suc n) [] = rw (min-zero (suc n))
empty_least (suc n) (x ∷ xs) = rw (suc-min-suc n (length xs)) (ap (λ (ys : List Seat). empty_seat ∷ ys) (empty_least n xs))
