-- Lists made from functions of an index, lists in reverse, what a test keeps of a list, a list written over the front of another, and when two
-- lists are the same.
use Rattle.std.specs.Prelude.{ℕ, zero, suc, ◌+◌, ◌*◌, ◌<◌, ◌≡◌, refl, List, [], ◌∷◌, ◌++◌, reverse, Bool, true, false, cond, ◌&&◌, eqb, length, get_or, drop, replicate}
use Rattle.basics.specs.Core.{sym, ap, ◌∙◌, ⊎_elim, head_d, reverse-cons}
use Rattle.basics.specs.Core.{false≢true, length-append, length-replicate}
use Rattle.basics.specs.Core.{length-reverse, get_or-replicate, get_or-append, get_or-append-add, get_or_at, ext_get_or, not-suc-le-zero}
use Rattle.basics.specs.Core.{le_of_suc-le-suc, le_dest, eq-or-lt_of_le, mul-le-mul_right, arith, eq-eqb, eqb-true}
use Rattle.basics.specs.Tests.{and_left, and_right}

-- The table of f below n: the list f 0, .., f (n - 1).
unfoldable pub tabulate : ℕ → (ℕ → ℕ) → List ℕ
tabulate zero f = []
tabulate (suc n) f = f 0 ∷ tabulate n (λ k. f (suc k))

-- A table has as many elements as it is made for.
pub length_tabulate : (n : ℕ) (f : ℕ → ℕ) → length (tabulate n f) ≡ n
unfolding tabulate
length_tabulate zero f = refl
length_tabulate (suc n) f = ap suc (length_tabulate n (λ k. f (suc k)))

-- Element k of a table is the function's value at k.
pub get_or_tabulate : (n : ℕ) (f : ℕ → ℕ) (k d : ℕ) → k < n → get_or (tabulate n f) k d ≡ f k
unfolding tabulate
get_or_tabulate zero f k d h = absurd (not-suc-le-zero h)
get_or_tabulate (suc n) f zero d h = refl
get_or_tabulate (suc n) f (suc k) d h = get_or_tabulate n (λ j. f (suc j)) k d (omega arith)

-- A list of n elements that are f 0, .., f (n - 1) is the table of f.
pub equal_tabulate : {n : ℕ} {f : ℕ → ℕ} {l : List ℕ} → length l ≡ n → ((k : ℕ) → k < n → get_or l k 0 ≡ f k) → l ≡ tabulate n f
equal_tabulate {n} {f} {l} size at =
    ext_get_or 0 l (tabulate n f) (size ∙ sym (length_tabulate n f))
    (λ k h. let inside : k < n = omega arith in at k inside ∙ sym (get_or_tabulate n f k 0 inside))

-- The tables of two functions that agree below n are equal.
pub tabulate_same : (n : ℕ) {f g : ℕ → ℕ} → ((k : ℕ) → k < n → f k ≡ g k) → tabulate n f ≡ tabulate n g
tabulate_same n {f} same = equal_tabulate (length_tabulate n f) (λ k h. get_or_tabulate n f k 0 h ∙ same k h)

-- The table of a function that is x below n is x, n times over.
pub tabulate_constant : (n : ℕ) {f : ℕ → ℕ} {x : ℕ} → ((k : ℕ) → k < n → f k ≡ x) → tabulate n f ≡ replicate n x
tabulate_constant n {x = x} same = sym (equal_tabulate (length-replicate n x) (λ k h. get_or-replicate n k x 0 h ∙ sym (same k h)))

-- A list of zeros has the entry 0 at each index.
pub zeros_at : (n t : ℕ) → ◌≡◌ {A = ℕ} (get_or (replicate n 0) t 0) 0
zeros_at zero t = refl
zeros_at (suc n) zero = refl
zeros_at (suc n) (suc t) = zeros_at n t

-- Place t of n from the front is a place u from the back.
pub from_back : (n t : ℕ) → t < n → (u : ℕ) × (t + u + 1 ≡ n)
from_back n t h = let (u, e) = le_dest h in (u, omega arith)

-- Element j of a list in reverse is the element as far from the end.
pub get_or_reverse : (l : List ℕ) (j k d : ℕ) → j + k + 1 ≡ length l → get_or (reverse l) j d ≡ get_or l k d
get_or_reverse [] j k d e = absurd (omega arith)
get_or_reverse (x ∷ xs) j zero d e =
    rw (reverse-cons x xs) (get_or_at (reverse xs) x [] d j (omega (arith, length-reverse xs)))
get_or_reverse (x ∷ xs) j (suc k) d e =
    rw (reverse-cons x xs)
    (get_or-append (reverse xs) (x ∷ []) d j (omega (arith, length-reverse xs)) ∙ get_or_reverse xs j k d (omega arith))

-- The head of a list is its element 0.
pub head_is_first : (xs : List ℕ) → head_d xs 0 ≡ get_or xs 0 0
unfolding head_d
head_is_first [] = refl
head_is_first (x ∷ xs) = refl

-- The lists f 0, .., f (n - 1), one after the other.
unfoldable pub rows : ℕ → (ℕ → List ℕ) → List ℕ
rows zero f = []
rows (suc n) f = rows n f ++ f n

-- The rows of two functions that agree below n are equal.
pub rows_same : (n : ℕ) {f g : ℕ → List ℕ} → ((k : ℕ) → k < n → f k ≡ g k) → rows n f ≡ rows n g
unfolding rows
rows_same zero same = refl
rows_same (suc n) same = rw (rows_same n (λ k h. same k (omega arith)), same n (omega arith))

-- The length of n rows of m elements each is n * m.
pub length_rows : (m n : ℕ) (f : ℕ → List ℕ) → ((t : ℕ) → length (f t) ≡ m) → length (rows n f) ≡ n * m
unfolding rows
length_rows m zero f h = omega arith
length_rows m (suc n) f h = omega (arith, length-append (rows n f) (f n), length_rows m n f h, h n)

-- Element k of row t stands at place t * m + k, where each row has m elements.
pub get_or_rows : (m n : ℕ) (f : ℕ → List ℕ) → ((t : ℕ) → length (f t) ≡ m) → (t k d : ℕ) → t < n → k < m →
    get_or (rows n f) (t * m + k) d ≡ get_or (f t) k d
unfolding rows
get_or_rows m zero f h t k d g l = absurd (not-suc-le-zero g)
get_or_rows m (suc n) f h t k d g l =
    ⊎_elim
    last
    (λ (e : t < n). get_or-append (rows n f) (f n) d (t * m + k) (before e) ∙ get_or_rows m n f h t k d e l)
    (eq-or-lt_of_le (le_of_suc-le-suc g))
  where
    last : t ≡ n → get_or (rows n f ++ f n) (t * m + k) d ≡ get_or (f t) k d
    last e =
        let place : t * m + k ≡ length (rows n f) + k = omega (arith, length_rows m n f h, ap (λ (x : ℕ). x * m) e) in
        rw (place, get_or-append-add (rows n f) (f n) k d, e)

    before : t < n → t * m + k < length (rows n f)
    before e = omega (arith, length_rows m n f h, mul-le-mul_right m e)

-- The elements of a list at which the test holds, in their order.
unfoldable pub keep {ℓ} : {A : Type ℓ} → (A → Bool) → List A → List A
keep f [] = []
keep f (x ∷ xs) = cond (f x) (x ∷ keep f xs) (keep f xs)

-- A list whose first elements are replaced by new ones.
abbrev pub written_over : List ℕ → List ℕ → List ℕ
written_over new old = new ++ drop (length new) old

-- Whether two lists of numbers are the same.
unfoldable pub same_list : List ℕ → List ℕ → Bool
same_list [] [] = true
same_list [] (y ∷ ys) = false
same_list (x ∷ xs) [] = false
same_list (x ∷ xs) (y ∷ ys) = eqb x y && same_list xs ys

-- Whether two lists of lists of numbers are the same.
unfoldable pub same_lists : List (List ℕ) → List (List ℕ) → Bool
same_lists [] [] = true
same_lists [] (y ∷ ys) = false
same_lists (x ∷ xs) [] = false
same_lists (x ∷ xs) (y ∷ ys) = same_list x y && same_lists xs ys

-- A list of numbers is the same as itself.
same_self : (xs : List ℕ) → same_list xs xs ≡ true
unfolding same_list
same_self [] = refl
same_self (x ∷ xs) = rw (eq-eqb x x refl, same_self xs)

-- A list of lists of numbers is the same as itself.
pub same_selves : (xs : List (List ℕ)) → same_lists xs xs ≡ true
unfolding same_lists
same_selves [] = refl
same_selves (x ∷ xs) = rw (same_self x, same_selves xs)

-- Lists of numbers that are the same by the test are equal.
pub same_list_equal : (xs ys : List ℕ) → same_list xs ys ≡ true → xs ≡ ys
unfolding same_list
same_list_equal [] [] e = refl
same_list_equal [] (y ∷ ys) e = absurd (false≢true e)
same_list_equal (x ∷ xs) [] e = absurd (false≢true e)
same_list_equal (x ∷ xs) (y ∷ ys) e =
    let h : x ≡ y = eqb-true x y (and_left (eqb x y) (same_list xs ys) e) in
    let t : xs ≡ ys = same_list_equal xs ys (and_right (eqb x y) (same_list xs ys) e) in
    cc

-- Lists of lists of numbers that are the same by the test are equal.
pub same_lists_equal : (xs ys : List (List ℕ)) → same_lists xs ys ≡ true → xs ≡ ys
unfolding same_lists
same_lists_equal [] [] e = refl
same_lists_equal [] (y ∷ ys) e = absurd (false≢true e)
same_lists_equal (x ∷ xs) [] e = absurd (false≢true e)
same_lists_equal (x ∷ xs) (y ∷ ys) e =
    let h : x ≡ y = same_list_equal x y (and_left (same_list x y) (same_lists xs ys) e) in
    let t : xs ≡ ys = same_lists_equal xs ys (and_right (same_list x y) (same_lists xs ys) e) in
    cc
