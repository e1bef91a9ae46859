-- Three values in convex position, numbers only: the middle one is at most the straight line between its neighbours.
use Rattle.std.specs.Prelude.{ℕ, ◌+◌, ◌-◌, ◌*◌, ◌≤◌, ◌<◌, min, ◌≡◌}
use Rattle.basics.specs.Core.{ap, ⊎_elim, eq-zero-or-pos, le_of_lt, lt_of_not-le, mul-le-mul_left, min-eq_left}
use Rattle.basics.specs.Core.{min-eq_right, min-le_left, min-le_right, arith}
use Rattle.basics.specs.Numbers.{le_or_lt}

-- Of the values a, b, c at three points, the second u after the first and v before the third, the middle one is at most the straight line
-- between its neighbours. It is stated without division.
abbrev pub Middle : (u v a b c : ℕ) → Type 0
Middle u v a b c = (u + v) * b ≤ v * a + u * c

-- Values whose differences rise are convex.
pub middle_of_steps : (u v a x y : ℕ) → v * x ≤ u * y → Middle u v a (a + x) (a + x + y)
middle_of_steps u v a x y h = omega arith

-- A price times three values is convex where the middle one is 0 or at least u below the first, and at most v above the third.
pub middle_of_kink : (price u v a b c : ℕ) → (0 < b → b + u ≤ a) → b ≤ c + v → Middle u v (price * a) (price * b) (price * c)
middle_of_kink price u v a b c first third =
    ⊎_elim
    (λ (none : b ≡ 0). rw none (omega arith))
    (λ (some : 0 < b). omega (arith, mul-le-mul_left (price * v) (first some), mul-le-mul_left (price * u) third))
    (eq-zero-or-pos b)

-- Convex values that fall from the second to the third fall from the first to the second.
pub falls_before : (u v a b c : ℕ) → 0 < u → Middle u v a b c → c < b → b < a
falls_before u v a b c some middle less = lt_of_not-le (λ (h : a ≤ b). omega (arith, mul-le-mul_left u less, mul-le-mul_left v h))

-- The differences of convex values rise.
steps_rise : (u v a b c : ℕ) → Middle u v a b c → v * (b - a) ≤ u * (c - b)
steps_rise u v a b c middle =
    let most : c ≤ b + (c - b) = omega arith in
    ⊎_elim
    (λ (none : b - a ≡ 0). rw none (omega arith))
    (λ (some : 0 < b - a).
    let up : b ≡ a + (b - a) = omega arith in
    omega (arith, mul-le-mul_left u most, ap (λ (x : ℕ). v * x) up))
    (eq-zero-or-pos (b - a))

-- They do so too where a price a unit is the most that they may be.
pub held_steps_rise : (price u v a b c : ℕ) → Middle u v a b c → v * min (price * u) (b - a) ≤ u * min (price * v) (c - b)
held_steps_rise price u v a b c middle =
    ⊎_elim
    (λ (h : price * v ≤ c - b). rw (min-eq_left h) (omega (arith, mul-le-mul_left v (min-le_left (price * u) (b - a)))))
    (λ (h : c - b < price * v).
    rw (min-eq_right (le_of_lt h))
    (omega (arith, steps_rise u v a b c middle, mul-le-mul_left v (min-le_right (price * u) (b - a)))))
    (le_or_lt (price * v) (c - b))
