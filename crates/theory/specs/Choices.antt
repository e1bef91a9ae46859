-- The best of several places, a place at a time from the last one down.
use Rattle.std.specs.Prelude.{ℕ, ◌≤◌, ◌<◌, ◌≡◌, refl, Bool, true, false, cond, leb}
use Rattle.basics.specs.Core.{ap, ⊎_elim, arith, leb-true, leb-false}
use Rattle.basics.specs.Numbers.{le_or_lt}
use Rattle.theory.specs.Columns.{Choice, cheaper}

-- A choice that is the least of a value over some places, at the smallest place that attains it.
pub record Best (ok : ℕ → Type 0) (value : ℕ → ℕ) (c : Choice) : Type 0 where
  pub found : ok c.at
  pub cost_is : c.cost ≡ value c.at
  pub least : (k : ℕ) → ok k → c.cost ≤ value k
  pub first : (k : ℕ) → ok k → value k ≡ c.cost → c.at ≤ k

-- At a place that serves it is the place's own value or the best above it.
pub best_here :
    {ok : ℕ → Type 0} {value : ℕ → ℕ} {c : Choice} (j : ℕ) → ok j → Best (λ k. (j < k) × ok k) value c →
    Best (λ k. (j ≤ k) × ok k) value (cheaper (record { cost = value j; at = j }) c)
best_here {ok} {value} {c} j serves above = go (leb (value j) c.cost) refl
  where
    mine : Choice
    mine = record { cost = value j; at = j }

    least_of : (x : ℕ) → x ≤ value j → x ≤ c.cost → (k : ℕ) → (j ≤ k) × ok k → x ≤ value k
    least_of x to-own to-above k h =
        ⊎_elim
        (λ (g : k ≤ j). let same : k ≡ j = omega arith in rw same to-own)
        (λ (g : j < k). omega (arith, above.least k (g, h.1)))
        (le_or_lt k j)

    go : (b : Bool) → leb (value j) c.cost ≡ b → Best (λ k. (j ≤ k) × ok k) value (cond b mine c)
    go true e =
        record {
          found = (omega arith, serves);
          cost_is = refl;
          least = least_of (value j) (omega arith) (leb-true (value j) c.cost e);
          first = λ k h _. h.0;
        }
    go false e =
        let less = leb-false (value j) c.cost e in
        record {
          found = (omega (arith, above.found.0), above.found.1);
          cost_is = above.cost_is;
          least = least_of c.cost (omega arith) (omega arith);
          first =
              λ k h equal.
              ⊎_elim
              (λ (g : k ≤ j). let same : value k ≡ value j = ap value (omega arith) in omega arith)
              (λ (g : j < k). above.first k (g, h.1) equal)
              (le_or_lt k j);
        }

-- At a place that does not serve it is the best above it.
pub best_skip :
    {ok : ℕ → Type 0} {value : ℕ → ℕ} {c : Choice} (j : ℕ) → ¬ ok j → Best (λ k. (j < k) × ok k) value c →
    Best (λ k. (j ≤ k) × ok k) value c
best_skip {ok} j stuck above =
    record {
      found = (omega (arith, above.found.0), above.found.1);
      cost_is = above.cost_is;
      least = λ k h. above.least k (higher k h);
      first = λ k h. above.first k (higher k h);
    }
  where
    higher : (k : ℕ) → (j ≤ k) × ok k → (j < k) × ok k
    higher k h =
        ⊎_elim
        (λ (g : k ≤ j). let same : k ≡ j = omega arith in absurd (stuck (rw same at h.1)))
        (λ (g : j < k). (g, h.1))
        (le_or_lt k j)
