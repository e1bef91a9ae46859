-- The coarse counts of a rack of at most 200: 0, the powers of two up to m, and m if it is no power. The number of powers is read
-- off the leading zeros. What holds of one rack and the next is a test that antt computes for each rack.
use Rattle.std.specs.Prelude.{ℕ, zero, suc, ◌-◌, ◌^◌, ◌≤◌, ◌<◌, ◌≡◌, refl, Bool, true, cond, ◌&&◌, ◌||◌, List, [], ◌∷◌, ◌++◌, eqb, leb, ltb}
use Rattle.basics.specs.Core.{sym, ◌∙◌, or-true}
use Rattle.basics.specs.Core.{add-one, arith, eq-eqb, ne_eqb, leb-true, ltb-true}
use lib.Count.{count_leading_zeros}
use Rattle.basics.specs.Tests.{every, every_at, and_left, and_right}
use Rattle.basics.specs.Lists.{tabulate, keep, same_list, same_list_equal}
use Rattle.basics.specs.Prefixes.{tabulate_more, keep_append, keep_tabulate}
use Rattle.model.specs.Counts.{all_counts, power_of_two, is_coarse, coarse_counts}
use Rattle.counts.specs.AllowedCounts.{first_powers, powers_up_to}

-- The list of 0 and the first p powers.
unfoldable pub zero_and_powers : ℕ → List ℕ
zero_and_powers p = 0 ∷ first_powers p

-- A number is 0 or a power of two.
abbrev zero_or_power : ℕ → Bool
zero_or_power n = eqb n 0 || power_of_two n

unfoldable smaller : ℕ → List ℕ
smaller m = keep zero_or_power (tabulate m (λ n. n))

smaller_more : (m : ℕ) → smaller (suc m) ≡ smaller m ++ keep zero_or_power (m ∷ [])
unfolding smaller
smaller_more m = rw (tabulate_more m (λ n. n), keep_append)

-- The coarse counts are 0, the powers below m, and m.
coarse_split : (m : ℕ) → coarse_counts m ≡ smaller m ++ (m ∷ [])
unfolding coarse_counts all_counts smaller keep
coarse_split m =
    rw (add-one, tabulate_more m (λ n. n), keep_append, kept, keep_tabulate m (λ n. n) (is_coarse m) zero_or_power below)
  where
    kept : keep (is_coarse m) (m ∷ []) ≡ m ∷ []
    kept = rw (eq-eqb m m refl, or-true (eqb m 0))

    below : (n : ℕ) → n < m → is_coarse m n ≡ zero_or_power n
    below n h = rw (ne_eqb n m (omega arith))

-- Two tests at k, for a rack of m = k + 1. The first: m joins the smaller counts of the next rack if it is a power.
next_test : ℕ → Bool
next_test k =
    same_list
    (zero_and_powers (powers_up_to (suc k)))
    (zero_and_powers (powers_up_to k) ++ keep zero_or_power (suc k ∷ []))

next_tests : every 200 next_test ≡ true
unfolding every next_test same_list zero_and_powers first_powers count_leading_zeros keep power_of_two tabulate
next_tests = refl

-- The first p powers with m, which joins them unless the last of them is m.
unfoldable pub joined : ℕ → ℕ → List ℕ
joined p m = cond (eqb (2 ^ (p - 1)) m) (zero_and_powers p) (zero_and_powers p ++ (m ∷ []))

-- The second: the smaller counts with m are that list, with at least one power.
joined_test : ℕ → Bool
joined_test k =
    same_list (zero_and_powers (powers_up_to k) ++ (suc k ∷ [])) (joined (powers_up_to (suc k)) (suc k)) && leb 1 (powers_up_to (suc k))

joined_tests : every 200 joined_test ≡ true
unfolding every joined_test joined same_list zero_and_powers first_powers count_leading_zeros tabulate
joined_tests = refl

smaller_first : smaller 1 ≡ zero_and_powers (powers_up_to 0)
unfolding smaller zero_and_powers first_powers count_leading_zeros keep tabulate
smaller_first = refl

smaller_is : (k : ℕ) → k ≤ 200 → smaller (suc k) ≡ zero_and_powers (powers_up_to k)
unfolding next_test
smaller_is zero h = smaller_first
smaller_is (suc k) h =
    smaller_more (suc k) ∙ rw (smaller_is k (omega arith)) (sym (same_list_equal _ _ (every_at 200 next_test next_tests k h)))

-- A number below 256 is below the power of two that its digits end at, and has at most eight digits.
digits_test : ℕ → Bool
digits_test n = ltb n (2 ^ powers_up_to n) && leb (powers_up_to n) 8

digits_tests : every 256 digits_test ≡ true
unfolding every digits_test count_leading_zeros
digits_tests = refl

pub digits_known : (n : ℕ) → n < 256 → (n < 2 ^ powers_up_to n) × (powers_up_to n ≤ 8)
unfolding digits_test
digits_known n small =
    let t = every_at 256 digits_test digits_tests n small in
    (ltb-true n (2 ^ powers_up_to n) (and_left _ (leb (powers_up_to n) 8) t), leb-true (powers_up_to n) 8 (and_right (ltb n (2 ^ powers_up_to n)) _ t))

-- The coarse counts of a rack of m, and how many powers are among them.
pub record Coarse (m : ℕ) : Type 0 where
  pub low : 1 ≤ powers_up_to m
  pub high : powers_up_to m ≤ 8
  pub list : coarse_counts m ≡ joined (powers_up_to m) m

pub coarse_known : (m : ℕ) → 1 ≤ m → m ≤ 200 → Coarse m
unfolding joined_test
coarse_known zero some most = absurd (omega arith)
coarse_known (suc k) some most =
    let p = powers_up_to (suc k) in
    let t = every_at 200 joined_test joined_tests k most in
    let found = same_list (zero_and_powers (powers_up_to k) ++ (suc k ∷ [])) (joined p (suc k)) in
    record {
      low = leb-true 1 p (and_right found (leb 1 p) t);
      high = (digits_known (suc k) (omega arith)).1;
      list = coarse_split (suc k) ∙ rw (smaller_is k (omega arith)) (same_list_equal _ _ (and_left found (leb 1 p) t));
    }
