-- Which counts are in the list of all counts and in that of the coarse ones (document 01, 'The plans'): `all_member`, `coarse_member`; and that
-- both lists ascend: `all_in_order`, `coarse_in_order`.
use Rattle.std.specs.Prelude.{ℕ, zero, suc, ◌+◌, ◌^◌, ◌≤◌, ◌<◌, ◌≡◌, Bool, true, false, not, List, ◌↔◌, ◌⊎◌, get_or, eqb}
use Rattle.basics.specs.Core.{or-true, inl, inr, ⊎_map, arith}
use Rattle.basics.specs.Core.{eqb-true, eq-eqb, not-true, not-false}
use Rattle.basics.specs.Tests.{every_fails, every_not, or_cases}
use Rattle.basics.specs.Lists.{keep, length_tabulate, get_or_tabulate}
use Rattle.basics.specs.Members.{InOrder, member_at, place_of, to_keep, from_keep, rising_in_order, in_order_keep}
use Rattle.model.specs.Counts.{all_counts, power_of_two, is_coarse, coarse_counts}
use Rattle.model.specs.Plans.{Member}

-- The elements kept of a list are those of the list at which the test holds.
pub kept_member : (f : ℕ → Bool) (l : List ℕ) (n : ℕ) → Member n (keep f l) ↔ (Member n l × (f n ≡ true))
kept_member f l n = (
  λ (j, b, e). let (member, t) = from_keep f l (rw e at (member_at (keep f l) j 0 b)) in (place_of 0 member, t),
  λ ((j, b, e), t). place_of 0 (to_keep f (rw e at (member_at l j 0 b)) t),
)

-- 'all from 0 to m': these and no others are in the list.
pub all_member : (m n : ℕ) → n ≤ m ↔ Member n (all_counts m)
unfolding all_counts
all_member m n = (
  λ h. (n, rw length_tabulate (omega arith), get_or_tabulate (m + 1) (λ k. k) n 0 (omega arith)),
  λ (j, b, e).
      let in_list : j < m + 1 = rw length_tabulate at b in
      omega (arith, get_or_tabulate (m + 1) (λ k. k) j 0 in_list),
)

-- A power of two exceeds its exponent.
below_power : (e : ℕ) → e < 2 ^ e
below_power zero = omega arith
below_power (suc e) = omega (arith, below_power e)

-- The test finds the powers of two.
power_iff : (n : ℕ) → (power_of_two n ≡ true) ↔ ((e : ℕ) × (n ≡ 2 ^ e))
unfolding power_of_two
power_iff n = (
  λ t. let (e, b, fails) = every_not n (λ j. not (eqb n (2 ^ j))) (not-true _ t) in (e, eqb-true n (2 ^ e) (not-false _ fails)),
  λ (e, same).
      let fails : not (eqb n (2 ^ e)) ≡ false = rw (eq-eqb n (2 ^ e) same) in
      rw (every_fails n (λ j. not (eqb n (2 ^ j))) e (rw same (below_power e)) fails),
)

-- 'the allowed counts 0, each power of two up to m, and m': these and no others are in the list.
pub coarse_member : (m n : ℕ) → Member n (coarse_counts m) ↔ ((n ≤ m) × ((n ≡ 0) ⊎ ((n ≡ m) ⊎ ((e : ℕ) × (n ≡ 2 ^ e)))))
unfolding coarse_counts
coarse_member m n =
    let kept = kept_member _ (all_counts m) n in (
      λ h. let (stands, t) = kept.0 h in ((all_member m n).1 stands, to t),
      λ (h, c). kept.1 ((all_member m n).0 h, from c),
    )
  where
    to : is_coarse m n ≡ true → (n ≡ 0) ⊎ ((n ≡ m) ⊎ ((e : ℕ) × (n ≡ 2 ^ e)))
    to t = ⊎_map (eqb-true n 0) (λ u. ⊎_map (eqb-true n m) (power_iff n).0 (or_cases _ _ u)) (or_cases _ _ t)

    from : (n ≡ 0) ⊎ ((n ≡ m) ⊎ ((e : ℕ) × (n ≡ 2 ^ e))) → is_coarse m n ≡ true
    from (inl e) = rw (eq-eqb n 0 e)
    from (inr (inl e)) = rw (eq-eqb n m e) (or-true (eqb n 0))
    from (inr (inr p)) = rw ((power_iff n).1 p, or-true) (or-true (eqb n 0))

pub all_in_order : (m : ℕ) → InOrder ◌<◌ (all_counts m)
unfolding all_counts
all_in_order m = rising_in_order (all_counts m) (λ j h. next j (rw length_tabulate at h))
  where
    next : (j : ℕ) → j + 1 < m + 1 → get_or (all_counts m) j 0 < get_or (all_counts m) (j + 1) 0
    next j h = omega (arith, get_or_tabulate (m + 1) (λ k. k) j 0 (omega arith), get_or_tabulate (m + 1) (λ k. k) (j + 1) 0 h)

pub coarse_in_order : (m : ℕ) → InOrder ◌<◌ (coarse_counts m)
unfolding coarse_counts
coarse_in_order m = in_order_keep _ (all_in_order m)
