-- Bounds of quotient and remainder, where the divisor may be 0, and a product as the sum of two parts.
use Rattle.std.specs.Prelude.{ℕ, zero, suc, ◌+◌, ◌-◌, ◌*◌, ◌/◌, ◌%◌, ◌≤◌, ◌<◌, ◌≡◌}
use Rattle.basics.specs.Core.{ap, sym, ◌∙◌, ⊎_elim, add-mul, sub-add_cancel, mod-zero}
use Rattle.basics.specs.Core.{mod-lt, div-add-mod, le_of_lt, mul-le-mul_left, arith}
use Rattle.basics.specs.Numbers.{le_or_lt}

-- A number of at most n * q leaves a remainder of at most n by n, also where n is 0.
pub remainder_le : (n l q : ℕ) → l ≤ n * q → l % n ≤ n
remainder_le zero l q h = omega (arith, mod-zero l)
remainder_le (suc n) l q h = le_of_lt (mod-lt l (omega arith))

-- A number of at most n * q that leaves a remainder by n has a quotient below q.
pub quotient_lt : (n l q : ℕ) → l ≤ n * q → 0 < l % n → l / n < q
quotient_lt n l q h p =
    ⊎_elim
    (λ (g : q ≤ l / n). absurd (omega (arith, mul-le-mul_left n g, div-add-mod l n)))
    (λ (g : l / n < q). g)
    (le_or_lt q (l / n))

-- A number taken n - r times and r times is taken n times.
pub part_and_rest : (n r x : ℕ) → r ≤ n → (n - r) * x + r * x ≡ n * x
part_and_rest n r x h = sym (add-mul (n - r) r x) ∙ ap (λ (y : ℕ). y * x) (sub-add_cancel h)
