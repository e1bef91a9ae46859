-- A function that rises from each index to the next rises to every later one, `rises_to`; and a number between the first and a later value of any
-- function lies between two neighbouring values, `between`.
use Rattle.std.specs.Prelude.{ℕ, zero, suc, ◌+◌, ◌≤◌, ◌<◌, ◌≡◌}
use Rattle.basics.specs.Core.{⊎_elim, le_refl, le_trans, add-one, arith}
use Rattle.basics.specs.Numbers.{le_or_lt}

-- What rises from each index to the next rises from each to every later one.
pub rises_to : (f : ℕ → ℕ) (n : ℕ) → ((k : ℕ) → k < n → f k ≤ f (k + 1)) → (j k : ℕ) → j ≤ k → k ≤ n → f j ≤ f k
rises_to f n h j zero before top = let e : j ≡ 0 = omega arith in rw e (le_refl (f 0))
rises_to f n h j (suc k) before top =
    ⊎_elim
    (λ (same : suc k ≤ j). let e : j ≡ suc k = omega arith in rw e (le_refl (f (suc k))))
    (λ (less : j < suc k). le_trans (rises_to f n h j k (omega arith) (omega arith)) (rw add-one at (h k (omega arith))))
    (le_or_lt (suc k) j)

-- A number between the first value and a later one lies between two neighbouring values.
pub between : (f : ℕ → ℕ) (y n : ℕ) → f 0 ≤ y → y ≤ f (n + 1) → (j : ℕ) × (j ≤ n) × (f j ≤ y) × (y ≤ f (j + 1))
between f y zero low high = (0, le_refl 0, low, high)
between f y (suc n) low high =
    ⊎_elim
    (λ (here : f (suc n) ≤ y). (suc n, le_refl (suc n), here, high))
    (λ (lower : y < f (suc n)). let (j, b, g, h) = between f y n low (rw add-one (omega arith)) in (j, omega arith, g, h))
    (le_or_lt (f (suc n)) y)
