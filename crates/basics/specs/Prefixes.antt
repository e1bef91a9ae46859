-- Lists made from functions of an index, one element longer, and what `keep` leaves of them.
use Rattle.std.specs.Prelude.{ℕ, zero, suc, ◌<◌, ◌≡◌, refl, Bool, true, false, cond, List, [], ◌∷◌, ◌++◌}
use Rattle.basics.specs.Core.{ap, arith}
use Rattle.basics.specs.Lists.{tabulate, keep}

-- A table of one element more is the table and then that element.
pub tabulate_more : (n : ℕ) (f : ℕ → ℕ) → tabulate (suc n) f ≡ tabulate n f ++ (f n ∷ [])
unfolding tabulate
tabulate_more zero f = refl
tabulate_more (suc n) f = ap (λ (l : List ℕ). f 0 ∷ l) (tabulate_more n (λ k. f (suc k)))

-- What is kept of two lists joined is what is kept of each.
pub keep_append : (f : ℕ → Bool) (xs ys : List ℕ) → keep f (xs ++ ys) ≡ keep f xs ++ keep f ys
unfolding keep
keep_append f [] ys = refl
keep_append f (x ∷ xs) ys = rw (keep_append f xs ys) (split (f x))
  where
    split :
        (b : Bool) → cond b (x ∷ (keep f xs ++ keep f ys)) (keep f xs ++ keep f ys) ≡
        cond b (x ∷ keep f xs) (keep f xs) ++ keep f ys
    split true = refl
    split false = refl

-- Tests that agree at each element of a table keep the same of it.
pub keep_tabulate :
    (n : ℕ) (f : ℕ → ℕ) (t u : ℕ → Bool) → ((k : ℕ) → k < n → t (f k) ≡ u (f k)) →
    keep t (tabulate n f) ≡ keep u (tabulate n f)
unfolding keep tabulate
keep_tabulate zero f t u h = refl
keep_tabulate (suc n) f t u h =
    rw (h 0 (omega arith), keep_tabulate n (λ k. f (suc k)) t u (λ k g. h (suc k) (omega arith)))
