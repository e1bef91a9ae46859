-- A loop that adds one term a turn.
use Rattle.std.specs.Prelude.{ℕ, ◌+◌, ◌*◌, ◌≤◌, ◌<◌, ◌≡◌, refl}
use Rattle.basics.specs.Core.{mul-le-mul_right, add-one, arith}
use Rattle.basics.specs.Sums.{sum, sum_at_most}

-- The state of the loop: after k of n turns the total is the sum of the first k terms.
pub record Summed (n : ℕ) (f : ℕ → ℕ) (k total : ℕ) : Type 0 where
  pub within : k ≤ n
  pub so_far : total ≡ sum k f

-- Before the first turn the total is 0.
pub summed_none : (n : ℕ) (f : ℕ → ℕ) → Summed n f 0 0
unfolding sum
summed_none n f = record { within = omega arith; so_far = refl }

-- Each turn adds the next term.
pub summed_more : {n k x y : ℕ} {f : ℕ → ℕ} → Summed n f k x → k < n → y ≡ f k → Summed n f (k + 1) (x + y)
unfolding sum
summed_more {n} {k} {x} {y} {f} s h e = record { within = omega arith; so_far = rw (add-one k) (omega arith) }

-- After the last turn the total is the whole sum.
pub summed_all : {n k x : ℕ} {f : ℕ → ℕ} → Summed n f k x → n ≤ k → x ≡ sum n f
summed_all {n} {k} {x} {f} s h = let same : n ≡ k = omega arith in rw same s.so_far

-- Where each term is at most c, the total is at most n * c at every turn.
pub summed_most : {n k x c : ℕ} {f : ℕ → ℕ} → Summed n f k x → ((j : ℕ) → j < n → f j ≤ c) → x ≤ n * c
summed_most {n} {k} {x} {c} {f} s bound =
    let so_far = sum_at_most k (λ j g. bound j (omega arith)) in
    omega (arith, mul-le-mul_right c s.within)

-- Where each term is at most c, the total after the next term is at most n * c too.
pub summed_room : {n k x y c : ℕ} {f : ℕ → ℕ} → Summed n f k x → k < n → y ≡ f k → ((j : ℕ) → j < n → f j ≤ c) → x + y ≤ n * c
summed_room s h e bound = summed_most (summed_more s h e) bound
