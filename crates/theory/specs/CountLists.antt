-- The rules for a list of allowed counts and its ratio (document 02, §8) as propositions, `InRules`: that the test `keeps_rules` decides them within
-- its bounds, `rules_hold`, `rules_kept`; what they say of every list, `rules_grow`; and that the counts allowed a planner keep them with its
-- ratio, if a list that it is handed passes the test, `planner_rules`.
use Rattle.std.specs.Prelude.{ℕ, zero, suc, ◌+◌, ◌-◌, ◌*◌, ◌^◌, ◌≤◌, ◌<◌, ◌≡◌, refl, true, List, ◌⊎◌, length, get_or, ltb}
use Rattle.basics.specs.Core.{ap, inl, inr, ⊎_elim, le_refl, le_trans}
use Rattle.basics.specs.Core.{mul-le-mul_right, add-one, arith, leb-true, le-leb, ltb-true, lt-ltb, eqb-true, eq-eqb}
use Rattle.basics.specs.Numbers.{le_or_lt}
use Rattle.basics.specs.Tests.{every_at, every_all, and_left, and_right}
use Rattle.basics.specs.Lists.{length_tabulate, get_or_tabulate}
use Rattle.basics.specs.Members.{InOrder, in_order_at, in_order_le}
use Rattle.model.specs.Instance.{Instance}
use Rattle.model.specs.Counts.{all_counts, coarse_counts}
use Rattle.model.specs.CountRules.{gap_after, strictly_ascends, gaps_grow_by, ends_at, ratio_in_range, keeps_rules}
use Rattle.model.specs.Plans.{Member}
use Rattle.model.specs.Planners.{Planner, exact, coarse, listed, allowed_counts, ratio_of}
use Rattle.model.specs.Promises.{KeepsRules}
use Rattle.laws.specs.CountMembers.{all_member, coarse_member, all_in_order, coarse_in_order}
use Rattle.laws.specs.RoundedCounts.{next_power}
use Rattle.thresholds.specs.Places.{count_at_place, last_place, Ascending, GrowsBy, ratio_some}

-- The rules of 02 §8 for a list of allowed counts and a ratio r in a rack of m as propositions, without the bounds 201 and 200.
pub record InRules (counts : List ℕ) (r m : ℕ) : Type 0 where
  pub ascending : Ascending counts m
  pub first : count_at_place counts 1 ≤ r
  pub gaps : (j : ℕ) → j + 2 < length counts → gap_after counts (j + 1) ≤ r * gap_after counts j

-- The rule of gaps, summed: each entry is at most r times one more than the entry before it.
pub rules_grow : {counts : List ℕ} {r m : ℕ} → InRules counts r m → GrowsBy r counts
rules_grow rules zero h = omega (arith, rules.first)
rules_grow {counts} {r} rules (suc j) h =
    let before = count_at_place counts j in
    let here = count_at_place counts (j + 1) in
    let rise : here ≡ before + gap_after counts j = omega (arith, rules.ascending.rises j (omega arith)) in
    let next : count_at_place counts (j + 1 + 1) ≤ r * (here + 1) =
    omega (arith, rules_grow rules j (omega arith), rules.gaps j (omega arith), ap (λ (n : ℕ). r * n) rise) in
    rw (add-one j) at next

-- A list and a ratio that keep the rules by the test keep them.
pub rules_hold : (l : List ℕ) (r m : ℕ) → keeps_rules l r m ≡ true → InRules l r m × (length l ≤ 201) × (r ≤ 200)
unfolding keeps_rules ends_at ratio_in_range strictly_ascends gaps_grow_by
rules_hold l r m e =
    let rises : strictly_ascends l ≡ true = search (and_left, and_right) in
    let grow : gaps_grow_by r l ≡ true = search (and_left, and_right) in
    let asc : Ascending l m =
    record {
      two = leb-true 2 _ (search (and_left, and_right));
      first = eqb-true (get_or l 0 0) 0 (search (and_left, and_right));
      last = eqb-true (get_or l (last_place l) 0) m (search (and_left, and_right));
      rises = λ j h. ltb-true _ _ (every_at (length l - 1) _ rises j (omega arith));
    } in (
      record {
        ascending = asc;
        first = leb-true (get_or l 1 0) r (search (and_left, and_right));
        gaps = λ j h. leb-true _ _ (every_at (length l - 2) _ grow j (omega arith));
      },
      leb-true (length l) 201 (search (and_left, and_right)),
      leb-true r 200 (search (and_left, and_right)),
    )

-- A list and a ratio that keep the rules keep them by the test, within the bounds 201 and 200.
pub rules_kept : {l : List ℕ} {r m : ℕ} → InRules l r m → length l ≤ 201 → r ≤ 200 → keeps_rules l r m ≡ true
unfolding keeps_rules ends_at ratio_in_range strictly_ascends gaps_grow_by
rules_kept {l} {r} {m} rules short most =
    let asc = rules.ascending in
    rw (
      le-leb _ _ asc.two,
      le-leb _ _ short,
      eq-eqb _ _ asc.first,
      eq-eqb _ _ asc.last,
      every_all (length l - 1) (λ j. ltb (get_or l j 0) (get_or l (j + 1) 0)) (λ j h. lt-ltb _ _ (asc.rises j (omega arith))),
      le-leb _ _ (ratio_some asc (rules_grow rules)),
      le-leb _ _ most,
      le-leb _ _ rules.first,
    )
    (every_all (length l - 2) _ (λ j h. le-leb _ _ (rules.gaps j (omega arith))))

-- A list in order with 0 and m, and nothing above m, ascends from 0 to m.
in_order_ascends : (l : List ℕ) (m : ℕ) → InOrder ◌<◌ l → Member 0 l → Member m l → ((n : ℕ) → Member n l → n ≤ m) → 1 ≤ m → Ascending l m
in_order_ascends l m order (j, b, e) (k, c, f) top some =
    let first = in_order_le order 0 j (omega arith) b in
    let last = in_order_le order k (last_place l) (omega arith) (omega arith) in
    record {
      two = ⊎_elim (λ (h : k ≤ j). omega (arith, in_order_le order k j h b)) (λ (h : j < k). omega arith) (le_or_lt k j);
      first = omega arith;
      last = omega (arith, top (count_at_place l (last_place l)) (last_place l, omega arith, refl));
      rises = λ j h. in_order_at order 0 j (j + 1) (omega arith) h;
    }

-- All counts keep the rules with ratio 1.
pub all_rules : (m : ℕ) → 1 ≤ m → InRules (all_counts m) 1 m
unfolding all_counts
all_rules m some =
    record {
      ascending =
          in_order_ascends (all_counts m) m (all_in_order m) ((all_member m 0).0 (omega arith))
          ((all_member m m).0 (le_refl m)) (λ n. (all_member m n).1) some;
      first = omega (arith, at 1 some);
      gaps = λ j h.
          let inside : j + 2 < m + 1 = rw length_tabulate at h in
          omega (arith, at j (omega arith), at (j + 1) (omega arith), at (j + 1 + 1) (omega arith));
    }
  where
    at : (j : ℕ) → j ≤ m → count_at_place (all_counts m) j ≡ j
    at j h = get_or_tabulate (m + 1) (λ n. n) j 0 (omega arith)

-- The next element of a list in order is the least above an element.
next_least : (l : List ℕ) → InOrder ◌<◌ l → (j n : ℕ) → j + 1 < length l → Member n l → get_or l j 0 < n → get_or l (j + 1) 0 ≤ n
next_least l order j n h (k, c, e) above =
    ⊎_elim
    (λ (before : k ≤ j). omega (arith, in_order_le order k j before (omega arith)))
    (λ (after : j < k). omega (arith, in_order_le order (j + 1) k (omega arith) c))
    (le_or_lt k j)

-- The coarse counts keep the rules with ratio 2: their gaps are 1, 1, 2, 4 and so on, and the last is at most twice the one before it.
module _ (m : ℕ) (some : 1 ≤ m) where
  abbrev count : ℕ → ℕ
  count j = count_at_place (coarse_counts m) j

  coarse_ascending : Ascending (coarse_counts m) m
  coarse_ascending =
      in_order_ascends (coarse_counts m) m (coarse_in_order m) ((coarse_member m 0).1 (omega arith, inl refl))
      ((coarse_member m m).1 (le_refl m, inr (inl refl))) (λ n h. ((coarse_member m n).0 h).0) some

  abbrev ZeroOrPower : ℕ → Type 0
  ZeroOrPower n = (n ≡ 0) ⊎ ((e : ℕ) × (n ≡ 2 ^ e))

  -- A coarse count that another follows is 0 or a power of two.
  power_before : (j : ℕ) → j + 1 < length (coarse_counts m) → ZeroOrPower (count j)
  power_before j h = go ((coarse_member m (count j)).0 (j, omega arith, refl)).1
    where
      go : (count j ≡ 0) ⊎ ((count j ≡ m) ⊎ ((e : ℕ) × (count j ≡ 2 ^ e))) → ZeroOrPower (count j)
      go (inl none) = inl none
      go (inr (inl full)) = absurd (omega (arith, coarse_ascending.rises j h, ((coarse_member m _).0 (j + 1, h, refl)).0))
      go (inr (inr power)) = inr power

  -- A power of two above a coarse count is not below the next one.
  power_above : (j e : ℕ) → j + 1 < length (coarse_counts m) → count j < 2 ^ e → count (j + 1) ≤ 2 ^ e
  power_above j e h above =
      let stands = (coarse_member m (2 ^ e)).1 in
      ⊎_elim
      (λ (fits : 2 ^ e ≤ m). next_least _ (coarse_in_order m) j (2 ^ e) h (stands (fits, inr (inr (e, refl)))) above)
      (λ (beyond : m < 2 ^ e). omega (arith, ((coarse_member m (count (j + 1))).0 (j + 1, h, refl)).0))
      (le_or_lt (2 ^ e) m)

  -- After a power of two the next count is at most twice as large, and the one before it was at most half as large.
  coarse_gap : (j : ℕ) → j + 2 < length (coarse_counts m) → gap_after (coarse_counts m) (j + 1) ≤ 2 * gap_after (coarse_counts m) j
  coarse_gap j h = go (power_before j (omega arith)) (power_before (j + 1) (omega arith)) (coarse_ascending.rises j (omega arith))
    where
      go :
          ZeroOrPower (count j) → ZeroOrPower (count (j + 1)) → count j < count (j + 1) →
          gap_after (coarse_counts m) (j + 1) ≤ 2 * gap_after (coarse_counts m) j
      go lower (inl none) rise = absurd (omega arith)
      go (inl none) (inr (e, power)) rise = omega (arith, power_above (j + 1) (suc e) (omega arith) (omega arith))
      go (inr (d, lower)) (inr (e, power)) rise =
          omega (arith, next_power d e (omega arith), power_above (j + 1) (suc e) (omega arith) (omega arith))

  pub coarse_rules : InRules (coarse_counts m) 2 m
  coarse_rules =
      record {
        ascending = coarse_ascending;
        first = omega (arith, power_above 0 0 coarse_ascending.two (omega (arith, coarse_ascending.first)));
        gaps = coarse_gap;
      }

-- The counts allowed a planner keep the rules with its ratio: the powers of two are the list with r = 2, and all counts that with r = 1.
pub planner_rules :
    (k : Planner) (i : Instance) → 1 ≤ i.modules → KeepsRules k i → InRules (allowed_counts k i.modules) (ratio_of k) i.modules
unfolding allowed_counts
planner_rules exact i some keeps = all_rules i.modules some
planner_rules coarse i some keeps = coarse_rules i.modules some
planner_rules (listed l r) i some keeps = (rules_hold l r i.modules keeps).0

-- A list that keeps the rules with some ratio keeps them with every higher one.
pub higher_ratio : (l : List ℕ) (r q m : ℕ) → keeps_rules l r m ≡ true → r ≤ q → q ≤ 200 → keeps_rules l q m ≡ true
higher_ratio l r q m kept more most =
    let (rules, short, _) = rules_hold l r m kept in
    rules_kept
    (record {
      ascending = rules.ascending;
      first = le_trans rules.first more;
      gaps = λ j h. le_trans (rules.gaps j h) (mul-le-mul_right (gap_after l j) more);
    })
    short most
