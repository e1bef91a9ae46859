-- The least value of a function over a range of indices, and the first index of a range that passes a test.
use Rattle.std.specs.Prelude.{ℕ, zero, suc, ◌+◌, ◌≤◌, ◌<◌, min, ◌≡◌, refl, Bool, true, false, cond, eqb}
use Rattle.basics.specs.Core.{sym, ◌∙◌, true≢false, ⊎_elim, min-le_left}
use Rattle.basics.specs.Core.{min-le_right, le_trans, arith, eqb-true, eqb-false, eq-eqb}
use Rattle.basics.specs.Numbers.{le_or_lt}

-- The least of f k, f (k + 1), .., f (k + n).
unfoldable pub least_over : (f : ℕ → ℕ) (k n : ℕ) → ℕ
least_over f k zero = f k
least_over f k (suc n) = min (f k) (least_over f (k + 1) n)

-- The first of k, k + 1, .., k + n at which the test holds, and k + n where it holds at none.
unfoldable pub first_over : (test : ℕ → Bool) (k n : ℕ) → ℕ
first_over test k zero = k
first_over test k (suc n) = cond (test k) k (first_over test (k + 1) n)

-- The least over a range depends on the values there alone.
pub least_over_same :
    (f g : ℕ → ℕ) (k n : ℕ) → ((x : ℕ) → k ≤ x → x ≤ k + n → f x ≡ g x) → least_over f k n ≡ least_over g k n
unfolding least_over
least_over_same f g k zero same = same k (omega arith) (omega arith)
least_over_same f g k (suc n) same =
    rw (same k (omega arith) (omega arith), least_over_same f g (k + 1) n (λ x a b. same x (omega arith) (omega arith)))

-- The index j is the smallest of those from k to q at which f is least.
pub record LeastAt (f : ℕ → ℕ) (k q j : ℕ) : Type 0 where
  pub from : k ≤ j
  pub to : j ≤ q
  pub least : (x : ℕ) → k ≤ x → x ≤ q → f j ≤ f x
  pub before : (x : ℕ) → k ≤ x → x < j → f j < f x

-- There is only one such index.
pub least_at_unique : {f : ℕ → ℕ} {k q a b : ℕ} → LeastAt f k q a → LeastAt f k q b → a ≡ b
least_at_unique A B = omega (arith, at_most A B, at_most B A)
  where
    at_most : {f : ℕ → ℕ} {k q a b : ℕ} → LeastAt f k q a → LeastAt f k q b → a ≤ b
    at_most {a = a} {b = b} A B =
        ⊎_elim (λ (g : a ≤ b). g) (λ (g : b < a). absurd (omega (arith, A.before b B.from g, B.least a A.from A.to))) (le_or_lt a b)

-- The index j is the first from k on at which the test holds, and it stands no later than x.
record FirstAt (test : ℕ → Bool) (k x j : ℕ) : Type 0 where
  from : k ≤ j
  to : j ≤ x
  holds : test j ≡ true
  fails : (y : ℕ) → k ≤ y → y < j → test y ≡ false

first_over_lem : (test : ℕ → Bool) (k n x : ℕ) → k ≤ x → x ≤ k + n → test x ≡ true → FirstAt test k x (first_over test k n)
unfolding first_over
first_over_lem test k zero x low high e =
    let same : x ≡ k = omega arith in
    record { from = omega arith; to = omega arith; holds = rw same at e; fails = λ y a b. absurd (omega arith) }
first_over_lem test k (suc n) x low high e = go (test k) refl (λ above. first_over_lem test (k + 1) n x above (omega arith) e)
  where
    go :
        (b : Bool) → test k ≡ b → (k + 1 ≤ x → FirstAt test (k + 1) x (first_over test (k + 1) n)) →
        FirstAt test k x (cond b k (first_over test (k + 1) n))
    go true t later = record { from = omega arith; to = low; holds = t; fails = λ y a b. absurd (omega arith) }
    go false t later =
        let above : k + 1 ≤ x =
        ⊎_elim
        (λ (h : x ≤ k). let same : x ≡ k = omega arith in absurd (true≢false (sym e ∙ rw same t)))
        (λ (h : k < x). omega arith)
        (le_or_lt x k) in
        let rest = later above in
        record {
          from = omega (arith, rest.from);
          to = rest.to;
          holds = rest.holds;
          fails =
              λ y a b.
              ⊎_elim
              (λ (h : y ≤ k). let same : y ≡ k = omega arith in rw same t)
              (λ (h : k < y). rest.fails y (omega arith) b)
              (le_or_lt y k);
        }

module _ (f : ℕ → ℕ) where
  -- The least over a range is at most each value there.
  pub least_over_below : (k n x : ℕ) → k ≤ x → x ≤ k + n → least_over f k n ≤ f x
  unfolding least_over
  least_over_below k zero x low high = let same : x ≡ k = omega arith in rw same (omega arith)
  least_over_below k (suc n) x low high =
      ⊎_elim
      (λ (h : x ≤ k). let same : x ≡ k = omega arith in rw same (min-le_left (f k) (least_over f (k + 1) n)))
      (λ (h : k < x).
      le_trans (min-le_right (f k) (least_over f (k + 1) n)) (least_over_below (k + 1) n x (omega arith) (omega arith)))
      (le_or_lt x k)

  -- The least over a range is one of the values there.
  least_over_attained : (k n : ℕ) → (x : ℕ) × (k ≤ x) × (x ≤ k + n) × (f x ≡ least_over f k n)
  unfolding least_over
  least_over_attained k zero = (k, omega arith, omega arith, refl)
  least_over_attained k (suc n) =
      let (x, low, high, e) = least_over_attained (k + 1) n in
      ⊎_elim
      (λ (h : f k ≤ least_over f (k + 1) n). (k, omega arith, omega arith, omega arith))
      (λ (h : least_over f (k + 1) n < f k). (x, omega arith, omega arith, omega arith))
      (le_or_lt (f k) (least_over f (k + 1) n))

  -- The first index at which the least over a range is attained.
  abbrev pub least_index : ℕ → ℕ → ℕ
  least_index k n = first_over (λ j. eqb (f j) (least_over f k n)) k n

  -- It is the first index at which the function has the least value.
  least_index_first : (k n : ℕ) → (x : ℕ) × (x ≤ k + n) × FirstAt (λ j. eqb (f j) (least_over f k n)) k x (least_index k n)
  least_index_first k n =
      let (x, low, high, e) = least_over_attained k n in
      (x, high, first_over_lem (λ j. eqb (f j) (least_over f k n)) k n x low high (eq-eqb _ _ e))

  -- There the function has the least value.
  pub least_index_value : (k n : ℕ) → f (least_index k n) ≡ least_over f k n
  least_index_value k n = let (x, high, first) = least_index_first k n in eqb-true _ _ first.holds

  -- It is the smallest at which the function is least.
  pub least_index_lem : (k n : ℕ) → LeastAt f k (k + n) (least_index k n)
  least_index_lem k n =
      let (x, high, first) = least_index_first k n in
      let value = least_index_value k n in
      record {
        from = first.from;
        to = omega (arith, first.to);
        least = λ y a b. rw value (least_over_below k n y a b);
        before =
            λ y a b.
            let below = least_over_below k n y a (omega (arith, first.to)) in
            ⊎_elim
            (λ (h : f y ≤ f (least_index k n)). absurd (eqb-false (f y) (least_over f k n) (first.fails y a b) (omega arith)))
            (λ (h : f (least_index k n) < f y). h)
            (le_or_lt (f y) (f (least_index k n)));
      }
