-- A test at every index below a bound, or at one, and at every element of a list; laws of tests; and a loop that tests one index after the other,
-- `Passed`.
use Rattle.std.specs.Prelude.{ℕ, zero, suc, ◌+◌, ◌≤◌, ◌<◌, ◌≡◌, refl, Bool, true, false, not, ◌&&◌, ◌||◌, List, [], ◌∷◌, ◌⊎◌, length, get_or}
use Rattle.std.specs.List.{list_all}
use Rattle.std.proofs.Math.Bool.{and_assoc}
use Rattle.basics.specs.Core.{sym, ◌∙◌, true≢false}
use Rattle.basics.specs.Core.{inl, inr, ⊎_elim, not-suc-le-zero, le_refl, add-one, arith, not-true, not-false, and-true}
use Rattle.basics.specs.Numbers.{le_or_lt, true_or_false}

-- The test f holds at each of 0 to n - 1.
unfoldable pub every : ℕ → (ℕ → Bool) → Bool
every zero f = true
every (suc n) f = every n f && f n

-- The test f holds at one of 0 to n - 1.
abbrev pub any : ℕ → (ℕ → Bool) → Bool
any n f = not (every n (λ k. not (f k)))

-- The test f holds at each element of a list.
unfoldable pub all_of : (ℕ → Bool) → List ℕ → Bool
all_of f [] = true
all_of f (x ∷ xs) = f x && all_of f xs

pub and_left : (a b : Bool) → (a && b) ≡ true → a ≡ true
and_left true b e = refl
and_left false b e = e

pub and_right : (a b : Bool) → (a && b) ≡ true → b ≡ true
and_right true b e = e
and_right false b e = let z : ◌≡◌ {A = Bool} b true = cc in z

pub or_left : (a b : Bool) → (a || b) ≡ false → a ≡ false
or_left true b e = e
or_left false b e = refl

pub or_right : (a b : Bool) → (a || b) ≡ false → b ≡ false
or_right true b e = absurd (true≢false e)
or_right false b e = e

pub and_both : {a b : Bool} → a ≡ true → b ≡ true → (a && b) ≡ true
and_both {a} {b} p q = rw (p, q)

pub or_cases : (a b : Bool) → (a || b) ≡ true → (a ≡ true) ⊎ (b ≡ true)
or_cases true b e = inl refl
or_cases false b e = inr e

-- A test that holds at every index below n holds at each of them.
pub every_at : (n : ℕ) (f : ℕ → Bool) → every n f ≡ true → (k : ℕ) → k < n → f k ≡ true
unfolding every
every_at zero f e k h = absurd (not-suc-le-zero h)
every_at (suc n) f e k h =
    ⊎_elim
    (λ (g : n ≤ k). let same : k ≡ n = omega arith in rw same (and_right (every n f) (f n) e))
    (every_at n f (and_left (every n f) (f n) e) k)
    (le_or_lt n k)

-- A test that holds at each index below n holds at all of them.
pub every_all : (n : ℕ) (f : ℕ → Bool) → ((k : ℕ) → k < n → f k ≡ true) → every n f ≡ true
unfolding every
every_all zero f h = refl
every_all (suc n) f h = and_both (every_all n f (λ k g. h k (omega arith))) (h n (omega arith))

-- Two tests that agree at each index below n hold at all of these indices, or neither does.
pub every_same : (n : ℕ) (f g : ℕ → Bool) → ((k : ℕ) → k < n → f k ≡ g k) → every n f ≡ every n g
unfolding every
every_same zero f g same = refl
every_same (suc n) f g same = rw (every_same n f g (λ k h. same k (omega arith)), same n (omega arith))

-- A test at every index below n + 1 is one at 0 and one at every index after it.
pub every_first : (n : ℕ) (f : ℕ → Bool) → every (suc n) f ≡ (f 0 && every n (λ k. f (suc k)))
unfolding every
every_first zero f = sym (and-true (f 0))
every_first (suc n) f = rw (every_first n f) (and_assoc (f 0) (every n (λ k. f (suc k))) (f (suc n)))

-- The library's test of every element of a list is a test at every index of the list.
pub every_element :
    {A : Type 0} {n : ℕ} (f : A → Bool) (l : List A) (d : A) → length l ≡ n → list_all f l ≡ every n (λ k. f (get_or l k d))
unfolding every
every_element {A = A} f l d size = rw (← size) (each l)
  where
    each : (l : List A) → list_all f l ≡ every (length l) (λ k. f (get_or l k d))
    each [] = refl
    each (x ∷ xs) = rw (each xs) (sym (every_first (length xs) (λ k. f (get_or (x ∷ xs) k d))))

-- A test that fails at one index does not hold at every index.
pub every_fails : (n : ℕ) (f : ℕ → Bool) (k : ℕ) → k < n → f k ≡ false → every n f ≡ false
every_fails n f k h e =
    ⊎_elim
    (λ (t : every n f ≡ true). absurd (true≢false (sym (every_at n f t k h) ∙ e)))
    (λ (t : every n f ≡ false). t)
    (true_or_false (every n f))

-- A test that does not hold at every index fails at one.
pub every_not : (n : ℕ) (f : ℕ → Bool) → every n f ≡ false → (k : ℕ) × (k < n) × (f k ≡ false)
unfolding every
every_not zero f e = absurd (true≢false e)
every_not (suc n) f e =
    ⊎_elim
    (λ (t : every n f ≡ true). (n, le_refl (suc n), rw t at e))
    (λ (t : every n f ≡ false). let (k, b, fails) = every_not n f t in (k, omega arith, fails))
    (true_or_false (every n f))

-- What a branch on `!flag` says of the test that the flag stands for.
pub test_failed : {flag test : Bool} → flag ≡ test → not flag ≡ true → test ≡ false
test_failed {flag} e f = sym e ∙ not-true flag f

pub test_passed : {flag test : Bool} → flag ≡ test → not flag ≡ false → test ≡ true
test_passed {flag} e f = sym e ∙ not-false flag f

-- A loop that tests one index after the other: k of n have passed.
pub record Passed (n : ℕ) (f : ℕ → Bool) (k : ℕ) : Type 0 where
  pub within : k ≤ n
  pub so_far : every k f ≡ true

pub passed_none : (n : ℕ) (f : ℕ → Bool) → Passed n f 0
unfolding every
passed_none n f = record { within = omega arith; so_far = refl }

pub passed_more : {n k : ℕ} {f : ℕ → Bool} → Passed n f k → k < n → f k ≡ true → Passed n f (k + 1)
unfolding every
passed_more {k = k} p h e = record { within = omega arith; so_far = rw (add-one k) (and_both p.so_far e) }

pub passed_all : {n k : ℕ} {f : ℕ → Bool} → Passed n f k → n ≤ k → true ≡ every n f
passed_all {n} {k} {f} p h = let same : n ≡ k = omega arith in rw same (sym p.so_far)

pub passed_not : {n k : ℕ} {f : ℕ → Bool} → Passed n f k → k < n → f k ≡ false → false ≡ every n f
passed_not {n} {k} {f} p h e = sym (every_fails n f k h e)
