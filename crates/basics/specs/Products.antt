-- Order laws for products, and what a straight line that rises gradually is at most at a point further on, `line_moved`.
use Rattle.std.specs.Prelude.{ℕ, zero, suc, ◌+◌, ◌*◌, ◌≤◌, ◌<◌, ◌≡◌}
use Rattle.basics.specs.Core.{ap, ⊎_elim, le_of_lt, le_dest, mul-le-mul_left, le_of_mul-le-mul_left}
use Rattle.basics.specs.Core.{arith}
use Rattle.basics.specs.Numbers.{le_or_lt}

-- A product with n keeps the order of what it multiplies, which need not be known where n is 0.
pub mul_le_mul_some : (n : ℕ) {a b : ℕ} → (0 < n → a ≤ b) → n * a ≤ n * b
mul_le_mul_some zero h = omega arith
mul_le_mul_some (suc n) h = mul-le-mul_left (suc n) (h (omega arith))

-- The larger factors multiplied together give no less than crosswise. Where b is 0 nothing is asked of c and d.
pub exchange : {a b : ℕ} (c d : ℕ) → a ≤ b → b * c ≤ b * d → a * d + b * c ≤ a * c + b * d
exchange {a} {b = zero} c d h g = let none : a ≡ 0 = omega arith in rw none (omega arith)
exchange {a} {b = suc b} c d h g =
    let (u, e) = le_dest h in
    let (v, f) = le_dest (le_of_mul-le-mul_left g (omega arith)) in
    rw (← e, ← f) (omega arith)

-- A straight line from a to b over a width rises by at most p a unit. At a point u, where w is left of the width, it is at most c.
-- Multiplied by the width, it is w * a + u * b there.
module _ (a b c u w p : ℕ) (here : w * a + u * b ≤ (u + w) * c) (rise : a ≤ b) (slope : b ≤ a + p * (u + w)) where
  -- At a point no further on the line is at most c.
  line_down : (x y : ℕ) → x + y ≡ u + w → x ≤ u → y * a + x * b ≤ (x + y) * c
  line_down x y same down =
      let (d, gap) = le_dest down in
      let rest : w + d ≡ y = omega arith in
      rw same (omega (arith, ap (λ (n : ℕ). n * b) gap, ap (λ (n : ℕ). n * a) rest, mul-le-mul_left d rise))

  -- At a point further on, by at most d, the line is at most c + p * d.
  line_up : (x y d : ℕ) → x + y ≡ u + w → u ≤ x → x ≤ u + d → y * a + x * b ≤ (x + y) * (c + p * d)
  line_up x y d same up near =
      let (e, gap) = le_dest up in
      let rest : y + e ≡ w = omega arith in
      let less : e ≤ d = omega arith in
      let most = mul-le-mul_left ((u + w) * p) less in
      rw same (omega (arith, ap (λ (n : ℕ). n * b) gap, ap (λ (n : ℕ). n * a) rest, mul-le-mul_left e slope))

  -- At a point at most d further on the line is at most c + p * d.
  pub line_moved : (x y d : ℕ) → x + y ≡ u + w → x ≤ u + d → y * a + x * b ≤ (x + y) * (c + p * d)
  line_moved x y d same near =
      ⊎_elim
      (λ (down : x ≤ u). omega (arith, line_down x y same down))
      (λ (up : u < x). line_up x y d same (le_of_lt up) near)
      (le_or_lt x u)
