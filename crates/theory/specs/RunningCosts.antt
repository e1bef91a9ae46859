-- On a convex table the operating cost of a load is convex in the count, over the counts that serve the load: `running_convex`.
use Rattle.std.specs.Prelude.{ℕ, ◌+◌, ◌-◌, ◌*◌, ◌/◌, ◌%◌, ◌≤◌, ◌<◌, ◌≡◌}
use Rattle.basics.specs.Core.{ap, ⊎_elim, add-zero, eq-zero-or-pos, div-add-mod, div-le_of_le-mul}
use Rattle.basics.specs.Core.{sub-add_cancel, mul-le-mul_left, mul-le-mul_right, arith}
use Rattle.basics.specs.Numbers.{le_or_lt}
use Rattle.basics.specs.Products.{mul_le_mul_some}
use Rattle.basics.specs.Division.{remainder_le, quotient_lt}
use Rattle.model.specs.Instance.{Instance}
use Rattle.model.specs.MoreLight.{least_from}
use Rattle.model.specs.Counts.{operating_cost}
use Rattle.laws.specs.Tables.{Convex, supporting_line}
use Rattle.laws.specs.LeastSteps.{least_convex}
use Rattle.laws.specs.Operating.{operating_formula}
use Rattle.theory.specs.RowCosts.{on_line}
use Rattle.theory.specs.ConvexValues.{Middle}

-- G lies above the line through low and high at the steps q and q + 1. It is stated without subtraction.
abbrev LeastAbove : Instance → (q low high : ℕ) → Type 0
LeastAbove i q low high = (k : ℕ) → k ≤ i.top_step → low + k * high + q * low ≤ least_from i k + k * low + q * high

-- What s modules at step p and r modules at step p + 1 cost is above that line if a module is at each of the two steps.
shared_above :
    (q low high s r p x y : ℕ) → s * (low + p * high + q * low) ≤ s * (x + p * low + q * high) →
    r * (low + (p + 1) * high + q * low) ≤ r * (y + (p + 1) * low + q * high) →
    (s + r) * (low + q * low) + ((s + r) * p + r) * high ≤ s * x + r * y + ((s + r) * p + r) * low + (s + r) * (q * high)
shared_above q low high s r p x y at_step at_next = omega arith

-- So the operating cost of every count that serves the load lies above the count times the line, taken at the load a module.
operating_above :
    (i : Instance) (q low high : ℕ) → LeastAbove i q low high → (n l : ℕ) → l ≤ n * i.top_step →
    n * (low + q * low) + l * high ≤ operating_cost i n l + l * low + n * (q * high)
operating_above i q low high above n l fits =
    let at_step = mul-le-mul_left (n - l % n) (above (l / n) (div-le_of_le-mul n fits)) in
    let at_next = mul_le_mul_some (l % n) (λ rest. above (l / n + 1) (omega (arith, quotient_lt n l i.top_step fits rest))) in
    let shared = shared_above q low high (n - l % n) (l % n) (l / n) _ _ at_step at_next in
    rw (operating_formula i n l fits) (rw (sub-add_cancel (remainder_le n l i.top_step fits), div-add-mod l n) at shared)

-- Where a count below n serves the load, G lies above the line through its values at the load a module of n and at the next step. With a
-- top step of 0 there is no next step, and no other step either.
line_below :
    (i : Instance) → Convex i.top_step i.table → (x n l : ℕ) → x < n → l ≤ x * i.top_step →
    LeastAbove i (l / n) (least_from i (l / n)) (least_from i (l / n + 1))
line_below i convex x n l less fits k h =
    ⊎_elim
    (λ (g : i.top_step ≤ l / n).
    let wider = mul-le-mul_right i.top_step less in
    let top : i.top_step ≡ 0 = omega (arith, mul-le-mul_left n g, div-add-mod l n) in
    let wide : l ≤ n * i.top_step = omega arith in
    let none : l / n ≡ 0 = omega (arith, div-le_of_le-mul n wide) in
    let first : k ≡ 0 = omega arith in
    rw (none, first) (omega arith))
    (λ (g : l / n < i.top_step). supporting_line i.top_step (least_from i) (least_convex i convex) (l / n) k g h)
    (le_or_lt i.top_step (l / n))

-- Where the values a and c at the counts x and x + u + v lie above a line and the value b at the count x + u lies on it, b is at most the
-- straight line between a and c.
middle_on_line :
    (x u v p q y z a b c : ℕ) → b + y + (x + u) * q ≡ (x + u) * p + z → x * p + z ≤ a + y + x * q →
    (x + u + v) * p + z ≤ c + y + (x + u + v) * q → Middle u v a b c
middle_on_line x u v p q y z a b c on first third =
    omega (arith, mul-le-mul_left v first, mul-le-mul_left u third, ap (λ (y : ℕ). (u + v) * y) on)

-- On a convex table, falling or not, of three counts x ≤ x + u ≤ x + u + v that serve a load the middle one costs at most the straight line
-- between its neighbours: the operating cost is convex in the count.
pub running_convex :
    (i : Instance) → Convex i.top_step i.table → (x u v l : ℕ) → l ≤ x * i.top_step →
    Middle u v (operating_cost i x l) (operating_cost i (x + u) l) (operating_cost i (x + u + v) l)
running_convex i convex x u v l fits =
    ⊎_elim
    (λ (none : u ≡ 0). rw (none, add-zero x) (omega arith))
    (λ (some : 0 < u).
    let line = operating_above i (l / (x + u)) _ _ (line_below i convex x (x + u) l (omega arith) fits) in
    middle_on_line x u v _ _ _ _ _ _ _ (on_line i (x + u) l (omega arith)) (line x l fits) (line (x + u + v) l (omega arith)))
    (eq-zero-or-pos u)
