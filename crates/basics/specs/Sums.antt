-- Sums of a function over the indices below a bound.
use Rattle.std.specs.Prelude.{ℕ, zero, suc, ◌+◌, ◌*◌, ◌≤◌, ◌<◌, ◌≡◌, refl}
use Rattle.basics.specs.Core.{add-suc, add-zero, zero-add, suc-mul, zero-mul, le_refl, one-add}
use Rattle.basics.specs.Core.{arith}

-- The sum f 0 + .. + f (n - 1).
unfoldable pub sum : ℕ → (ℕ → ℕ) → ℕ
sum zero f = 0
sum (suc n) f = sum n f + f n

-- Sums of terms that agree are equal.
pub sum_ext : (n : ℕ) {f g : ℕ → ℕ} → ((k : ℕ) → k < n → f k ≡ g k) → sum n f ≡ sum n g
unfolding sum
sum_ext zero h = refl
sum_ext (suc n) h = omega (arith, sum_ext n (λ k l. h k (omega arith)), h n (omega arith))

-- A sum whose terms are at most those of another is at most the other.
pub sum_mono : (n : ℕ) {f g : ℕ → ℕ} → ((k : ℕ) → k < n → f k ≤ g k) → sum n f ≤ sum n g
unfolding sum
sum_mono zero h = le_refl 0
sum_mono (suc n) h = omega (arith, sum_mono n (λ k l. h k (omega arith)), h n (omega arith))

-- The sum of all f k + g k is the sum of f and the sum of g.
pub sum_add : (n : ℕ) (f g : ℕ → ℕ) → sum n (λ k. f k + g k) ≡ sum n f + sum n g
unfolding sum
sum_add zero f g = refl
sum_add (suc n) f g = omega (arith, sum_add n f g)

-- A factor of each term is a factor of the sum.
pub sum_scale : (n c : ℕ) (f : ℕ → ℕ) → sum n (λ k. c * f k) ≡ c * sum n f
unfolding sum
sum_scale zero c f = omega arith
sum_scale (suc n) c f = omega (arith, sum_scale n c f)

-- Where the d terms from a to b are all c, a sum up to b is d * c more than one up to a.
pub sum_from : (a d b : ℕ) {f : ℕ → ℕ} {c : ℕ} → a + d ≡ b → ((k : ℕ) → a ≤ k → k < b → f k ≡ c) → sum b f ≡ sum a f + d * c
unfolding sum
sum_from a zero b e h = rw (← e, add-zero a) (omega arith)
sum_from a (suc d) b e h =
    let rest = sum_from a d (a + d) refl (λ k g l. h k g (omega arith)) in
    rw (← e, add-suc a d) (omega (arith, h (a + d) (omega arith) (omega arith)))

-- A sum of n terms that are all c is n * c.
pub sum_const : (n : ℕ) {f : ℕ → ℕ} {c : ℕ} → ((k : ℕ) → k < n → f k ≡ c) → sum n f ≡ n * c
unfolding sum
sum_const n h = omega (arith, sum_from 0 n n (zero-add n) (λ k g. h k))

-- A sum of n terms of at most c each is at most n * c.
pub sum_at_most : (n : ℕ) {f : ℕ → ℕ} {c : ℕ} → ((k : ℕ) → k < n → f k ≤ c) → sum n f ≤ n * c
unfolding sum
sum_at_most zero h = omega arith
sum_at_most (suc n) h = omega (arith, sum_at_most n (λ k l. h k (omega arith)), h n (omega arith))

-- A sum of a + b terms is that of the first a and that of the b after them.
pub sum_join : (a b : ℕ) (f : ℕ → ℕ) → sum (a + b) f ≡ sum a f + sum b (λ k. f (a + k))
unfolding sum
sum_join a zero f = rw (add-zero a) (omega arith)
sum_join a (suc b) f = rw (add-suc a b) (omega (arith, sum_join a b f))

-- Sums of the same terms in reverse order are equal.
pub sum_reverse : (n : ℕ) {f g : ℕ → ℕ} → ((j k : ℕ) → j + k + 1 ≡ n → f j ≡ g k) → sum n f ≡ sum n g
unfolding sum
sum_reverse zero same = refl
sum_reverse (suc n) {f} {g} same =
    let rest : sum n f ≡ sum n (λ k. g (1 + k)) = sum_reverse n (λ j k e. same j (1 + k) (omega arith)) in
    let front = rw (one-add n) at (sum_join 1 n g) in
    omega (arith, same n 0 (omega arith))

-- Where each of n steps from x t to x (t + 1) adds u t and takes d t away, all of them together do.
pub sum_balance : (n : ℕ) (x u d : ℕ → ℕ) → ((t : ℕ) → x t + u t ≡ x (suc t) + d t) → x 0 + sum n u ≡ x n + sum n d
unfolding sum
sum_balance zero x u d step = refl
sum_balance (suc n) x u d step = omega (arith, sum_balance n x u d step, step n)

-- A sum of n sums over blocks of m terms is the sum of all n * m terms.
pub sum_blocks : (n m : ℕ) (f : ℕ → ℕ) → sum n (λ t. sum m (λ k. f (t * m + k))) ≡ sum (n * m) f
unfolding sum
sum_blocks zero m f = rw (zero-mul m)
sum_blocks (suc n) m f = rw (suc-mul n m) (omega (arith, sum_blocks n m f, sum_join (n * m) m f))
