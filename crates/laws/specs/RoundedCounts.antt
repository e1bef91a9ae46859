-- The rounded count is the smallest allowed count not below a count (document 01, 'The plans'): `rounded_least`. In a rack of at most 200 the
-- course book's list of cases gives it too (02 §6): `rounded_by_cases_lem`.
use Rattle.std.specs.Prelude.{ℕ, zero, suc, ◌+◌, ◌^◌, ◌≤◌, ◌<◌, min, ◌≡◌, refl, List, [], ◌∷◌, ◌⊎◌, get_or, leb}
use Rattle.basics.specs.Core.{sym, ◌∙◌, and-false, inl, inr, ⊎_elim, le_refl}
use Rattle.basics.specs.Core.{le_of_lt, le_antisymm, eq-or-lt_of_le, one-le-pow, pow-le-pow_right, zero-min, min-eq_left, min-eq_right, arith}
use Rattle.basics.specs.Core.{leb-true, le-leb, lt-leb}
use Rattle.basics.specs.Numbers.{le_or_lt}
use Rattle.basics.specs.Lists.{keep, head_is_first}
use Rattle.basics.specs.Members.{in_order_le, in_order_keep}
use Rattle.model.specs.Counts.{coarse_counts, rounded_count, Case, ◌to◌, printed_cases, case_value, rounded_by_cases}
use Rattle.model.specs.Plans.{Member}
use Rattle.laws.specs.CountMembers.{kept_member, coarse_member, coarse_in_order}

-- 'the smallest allowed count not below n': the rounded count is that one.
pub rounded_least :
    (m n : ℕ) → n ≤ m →
    Member (rounded_count m n) (coarse_counts m) × (n ≤ rounded_count m n) ×
    ((a : ℕ) → Member a (coarse_counts m) → n ≤ a → rounded_count m n ≤ a)
unfolding rounded_count
rounded_least m n h =
    let l = keep (leb n) (coarse_counts m) in
    let kept = kept_member (leb n) (coarse_counts m) in
    let (j, b, e) = (kept m).1 ((coarse_member m m).1 (le_refl m, inr (inl refl)), le-leb n m h) in
    let (stands, above) = (kept (get_or l 0 0)).0 (0, omega arith, refl) in
    rw (head_is_first l) (
      stands,
      leb-true n _ above,
      λ a member not-below.
          let (k, c, same) = (kept a).1 (member, le-leb n a not-below) in
          rw same at (in_order_le (in_order_keep (leb n) (coarse_in_order m)) 0 k (omega arith) c),
    )

-- There is no other such count.
rounded_is :
    {m n v : ℕ} → n ≤ m → Member v (coarse_counts m) → n ≤ v → ((a : ℕ) → Member a (coarse_counts m) → n ≤ a → v ≤ a) →
    v ≡ rounded_count m n
rounded_is {m} {n} {v} h stands above least =
    let (found, not-below, first) = rounded_least m n h in
    le_antisymm (least (rounded_count m n) found not-below) (first v stands above)

-- The first power of two not below n, held to m, is the rounded count.
first_power :
    {m n : ℕ} (e : ℕ) → 1 ≤ n → n ≤ m → n ≤ 2 ^ e → ((k : ℕ) → n ≤ 2 ^ k → 2 ^ e ≤ 2 ^ k) → min (2 ^ e) m ≡ rounded_count m n
first_power {m} {n} e some fits above first = rounded_is fits stands (omega arith) least
  where
    stands : Member (min (2 ^ e) m) (coarse_counts m)
    stands =
        ⊎_elim
        (λ (full : m ≤ 2 ^ e). rw (min-eq_right full) ((coarse_member m m).1 (le_refl m, inr (inl refl))))
        (λ (less : 2 ^ e < m). rw (min-eq_left (le_of_lt less)) ((coarse_member m (2 ^ e)).1 (le_of_lt less, inr (inr (e, refl)))))
        (le_or_lt m (2 ^ e))

    least : (a : ℕ) → Member a (coarse_counts m) → n ≤ a → min (2 ^ e) m ≤ a
    least a found h = go ((coarse_member m a).0 found).1
      where
        go : (a ≡ 0) ⊎ ((a ≡ m) ⊎ ((k : ℕ) × (a ≡ 2 ^ k))) → min (2 ^ e) m ≤ a
        go (inl z) = absurd (omega arith)
        go (inr (inl full)) = omega arith
        go (inr (inr (k, power))) = omega (arith, first k (omega arith))

-- Between a power of two and the next there is none.
pub next_power : (e k : ℕ) → 2 ^ e < 2 ^ k → 2 ^ suc e ≤ 2 ^ k
next_power e k h =
    ⊎_elim
    (λ (low : k ≤ e). absurd (omega (arith, pow-le-pow_right {n = 2} (omega arith) low)))
    (λ (high : e < k). pow-le-pow_right (omega arith) high)
    (le_or_lt k e)

-- The case after a power of two: it begins just above it and ends at the next power, held to the largest rack.
abbrev power_case : ℕ → ℕ → Case
power_case largest e = suc (2 ^ e) to min (2 ^ suc e) largest

-- The j cases after the powers from 2 ^ e on.
unfoldable power_cases : ℕ → ℕ → ℕ → List Case
power_cases largest e zero = []
power_cases largest e (suc j) = power_case largest e ∷ power_cases largest (suc e) j

-- The printed cases are 0, 1 and eight such cases, of which the last is held to 200.
printed_are : printed_cases ≡ 0 to 0 ∷ 1 to 1 ∷ power_cases 200 0 8
unfolding printed_cases power_cases
printed_are = refl

module _ {n : ℕ} (c : Case) (cs : List Case) where
  -- A count in the first case has its last count for value.
  in_first_case : c.first ≤ n → n ≤ c.last → case_value (c ∷ cs) n ≡ c.last
  unfolding case_value
  in_first_case low high = rw (le-leb c.first n low, le-leb n c.last high)

  -- A count above the first case has the value that the other cases give.
  in_later_case : c.last < n → case_value (c ∷ cs) n ≡ case_value cs n
  unfolding case_value
  in_later_case above = rw (lt-leb n c.last above, and-false (leb c.first n))

-- The values of 0 and 1 by the printed cases, and of a count above 1.
pub printed_zero : 0 ≡ case_value printed_cases 0
unfolding case_value printed_cases
printed_zero = refl

pub printed_one : 1 ≡ case_value printed_cases 1
unfolding case_value printed_cases
printed_one = refl

printed_later : {n : ℕ} → 1 < n → case_value printed_cases n ≡ case_value (power_cases 200 0 8) n
printed_later {n} h =
    rw (printed_are, in_later_case {n = n} (0 to 0) (1 to 1 ∷ power_cases 200 0 8) (omega arith))
    (in_later_case {n = n} (1 to 1) (power_cases 200 0 8) h)

-- A count in the case after 2 ^ i has that case's last count for value, and a count above the largest rack has 0.
module _ (largest : ℕ) {n : ℕ} where
  in_power_case :
      (j e i : ℕ) → e ≤ i → i < e + j → 2 ^ i < n → n ≤ min (2 ^ suc i) largest →
      min (2 ^ suc i) largest ≡ case_value (power_cases largest e j) n
  unfolding power_cases
  in_power_case zero e i from below low high = absurd (omega arith)
  in_power_case (suc j) e i from below low high =
      ⊎_elim
      (λ (same : e ≡ i). rw same (sym (in_first_case {n = n} (power_case largest i) (power_cases largest (suc i) j) low high)))
      (λ (later : e < i).
      let above = pow-le-pow_right {n = 2} (omega arith) later in
      in_power_case j (suc e) i later (omega arith) low high ∙
      sym (in_later_case {n = n} (power_case largest e) (power_cases largest (suc e) j) (omega arith)))
      (eq-or-lt_of_le from)

  above_power_cases : (j e : ℕ) → largest < n → 0 ≡ case_value (power_cases largest e j) n
  unfolding power_cases case_value
  above_power_cases zero e h = refl
  above_power_cases (suc j) e h =
      above_power_cases j (suc e) h ∙ sym (in_later_case {n = n} (power_case largest e) (power_cases largest (suc e) j) (omega arith))

-- The same of the printed cases, which end at 200.
pub printed_value : {n : ℕ} (i : ℕ) → i < 8 → 2 ^ i < n → n ≤ min (2 ^ suc i) 200 → min (2 ^ suc i) 200 ≡ case_value printed_cases n
printed_value i h low high =
    in_power_case 200 8 0 i (omega arith) (omega arith) low high ∙ sym (printed_later (omega (arith, one-le-pow i 2 (omega arith))))

pub above_printed : {n : ℕ} → 200 < n → 0 ≡ case_value printed_cases n
above_printed h = above_power_cases 200 8 0 h ∙ sym (printed_later (omega arith))

-- A number above 1 that is not above 2 ^ f is above one of the lower powers of two and not above the next.
between_powers : {n : ℕ} (f : ℕ) → 1 < n → n ≤ 2 ^ f → (i : ℕ) × (i < f) × (2 ^ i < n) × (n ≤ 2 ^ suc i)
between_powers zero some high = absurd (omega arith)
between_powers {n} (suc f) some high =
    ⊎_elim
    (λ (low : n ≤ 2 ^ f). let (i, below, above, most) = between_powers f some low in (i, omega arith, above, most))
    (λ (above : 2 ^ f < n). (f, omega arith, above, high))
    (le_or_lt n (2 ^ f))

-- 'decided by cases as printed .., then held to m. Answers are the same for all n and m': for a rack of at most 200 and a count of the
-- rack the list gives the rounded count.
pub rounded_by_cases_lem : (m n : ℕ) → m ≤ 200 → n ≤ m → rounded_by_cases m n ≡ rounded_count m n
unfolding rounded_by_cases
rounded_by_cases_lem m zero most fits =
    rw (sym printed_zero, zero-min m) (rounded_is fits ((coarse_member m 0).1 (fits, inl refl)) (le_refl 0) (λ a found h. h))
rounded_by_cases_lem m (suc zero) most fits = rw (sym printed_one) (first_power 0 (omega arith) fits (omega arith) (λ k h. h))
rounded_by_cases_lem m (suc (suc n)) most fits =
    let (i, below, low, high) = between_powers {n = suc (suc n)} 8 (omega arith) (omega arith) in
    let held : min (min (2 ^ suc i) 200) m ≡ min (2 ^ suc i) m = omega arith in
    rw (sym (printed_value {n = suc (suc n)} i below low (omega arith)), held)
    (first_power (suc i) (omega arith) fits high (λ k h. next_power i k (omega arith)))
