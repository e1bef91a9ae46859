-- One round of a search digit by digit, for two neighbouring slots. Numbers only: the plan so far says that a slot's place is one of the
-- 2 b places from `here` on, and the round finds which half it is in.
use Rattle.std.specs.Prelude.{ℕ, ◌+◌, ◌-◌, ◌≤◌, ◌<◌, ◌≡◌, refl}
use Rattle.basics.specs.Core.{⊎_elim, arith, le-leb, lt-leb}
use Rattle.basics.specs.Numbers.{le_or_lt}
use Rattle.thresholds.specs.Thresholds.{is_less, raised_place}
use Rattle.thresholds.specs.ThresholdLaws.{less_one, less_zero, less_most}
use Rattle.theory.specs.NearLeads.{Tells}

-- The h places from p on and the h places from q on are the same, or they do not meet.
pub data Apart (h p q : ℕ) : Type 0 where
  equal : p ≡ q → Apart h p q
  lower : p + h ≤ q → Apart h p q
  higher : q + h ≤ p → Apart h p q

-- The first place of one of the two halves with b places each.
pub data Half (b here new : ℕ) : Type 0 where
  first : new ≡ here → Half b here new
  second : new ≡ here + b → Half b here new

-- The half that the place x is in.
pub record Digit (b here x new : ℕ) : Type 0 where
  pub low : new ≤ x
  pub high : x < new + b
  pub half : Half b here new

-- A half begins at the first place or later.
half_low : {b here new : ℕ} → Half b here new → here ≤ new
half_low (first e) = omega arith
half_low (second e) = omega arith

-- A half begins b places later at most.
half_high : {b here new : ℕ} → Half b here new → new ≤ here + b
half_high (first e) = omega arith
half_high (second e) = omega arith

-- Halves of places that are the same or do not meet are the same or do not meet.
pub halves_apart :
    (b here next new after : ℕ) → Apart (b + b) here next → Half b here new → Half b next after → Apart b new after
halves_apart b here next new after (equal e) (first f) (first g) = equal (omega arith)
halves_apart b here next new after (equal e) (first f) (second g) = lower (omega arith)
halves_apart b here next new after (equal e) (second f) (first g) = higher (omega arith)
halves_apart b here next new after (equal e) (second f) (second g) = equal (omega arith)
halves_apart b here next new after (lower h) f g = lower (omega (arith, half_high f, half_low g))
halves_apart b here next new after (higher h) f g = higher (omega (arith, half_low f, half_high g))

-- If the next slot's half begins below a slot's second half, then the next slot's place y is below it too.
next_below :
    {b here next y after : ℕ} → 1 ≤ b → Apart (b + b) here next → Half b next after → y < after + b →
    after ≤ here + b - 1 → y ≤ here + b - 1
next_below some (equal e) (first f) high below = omega arith
next_below some (equal e) (second f) high below = omega arith
next_below some (lower h) half high below = omega (arith, half_low half)
next_below some (higher h) half high below = omega (arith, half_high half)

-- A slot whose place is x and whose side tells, by the next slot's place y, whether x is in the second half. After the round the
-- next slot's plan is at `after`.
module _
    (b here next x y side after : ℕ) (some : 1 ≤ b) (apart : Apart (b + b) here next)
    (tells : Tells (here + b - 1) x y side) (digit : Digit b next y after) where
  -- The level between the two halves.
  abbrev middle : ℕ
  middle = here + b - 1

  -- If the next slot's half begins below that level, then the next slot's place is below it.
  below : after ≤ middle → y ≤ middle
  below = next_below some apart digit.half digit.high

  -- If x is in the first half, the side and the next slot's half do not raise the place.
  not_raised : x ≤ middle → side + is_less middle after < 2
  not_raised down =
      ⊎_elim
      (λ (g : after ≤ middle). omega (arith, less_zero middle after g, tells.none down (below g)))
      (λ (g : middle < after). omega (arith, less_most middle after, tells.rises down (omega (arith, digit.low))))
      (le_or_lt after middle)

  -- If x is in the second half, the side and the next slot's half raise the place.
  is_raised : middle < x → 2 ≤ side + is_less middle after
  is_raised up =
      ⊎_elim
      (λ (g : after ≤ middle). omega (arith, tells.falls up (below g)))
      (λ (g : middle < after). omega (arith, less_one middle after g, tells.both up (omega (arith, digit.low))))
      (le_or_lt after middle)

  -- The place after the round begins the half that x is in.
  pub raised_digit : here ≤ x → x < here + (b + b) → Digit b here x (raised_place b here side after)
  unfolding raised_place
  raised_digit low high =
      ⊎_elim
      (λ (down : x ≤ middle).
      rw (lt-leb 2 (side + is_less middle after) (not_raised down)) (record { low = low; high = omega arith; half = first refl }))
      (λ (up : middle < x).
      rw (le-leb 2 (side + is_less middle after) (is_raised up)) (record { low = omega arith; high = omega arith; half = second refl }))
      (le_or_lt x middle)
