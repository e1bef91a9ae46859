-- Counts of active modules: their operating cost, which counts are allowed, and the rounded count, also by the course book's list (document
-- 01, 'Running cost of a count', 'The plans'; 02 §2, §6).
use Rattle.std.specs.Prelude.{ℕ, ◌+◌, ◌-◌, ◌*◌, ◌/◌, ◌%◌, ◌^◌, min, Bool, cond, ◌&&◌, ◌||◌, List, [], ◌∷◌, leb, eqb}
use Rattle.basics.specs.Core.{head_d}
use Rattle.basics.specs.Tests.{any}
use Rattle.basics.specs.Lists.{tabulate, keep}
use Rattle.model.specs.Instance.{Instance}
use Rattle.model.specs.MoreLight.{least_from}

-- A count n can serve a load L if L ≤ n × Q.
unfoldable pub can_serve : Instance → ℕ → ℕ → Bool
can_serve i n l = leb l (n * i.top_step)

-- The operating cost of a count (01: 'Running cost of a count'): (n − r)G(q) + rG(q+1) with q = L div n and r = L mod n; with r = 0 the
-- second term is 0; count 0 costs 0. 'The running cost uses G(k) .. in place of F(k)' (02 §2). Of a count that cannot serve the load the
-- result means nothing.
unfoldable pub operating_cost : Instance → ℕ → ℕ → ℕ
operating_cost i n l =
    cond (eqb n 0) 0
    ((n - l % n) * least_from i (l / n) + cond (eqb (l % n) 0) 0 (l % n * least_from i (l / n + 1)))

-- The exact planner's counts: 'all from 0 to m', ascending.
unfoldable pub all_counts : ℕ → List ℕ
all_counts m = tabulate (m + 1) (λ n. n)

-- The number n is a power of two: 2 to some number below n.
unfoldable pub power_of_two : ℕ → Bool
power_of_two n = any n (λ j. eqb n (2 ^ j))

-- A count n of a rack of m is one of the coarse planner's: 0, a power of two, or m.
abbrev pub is_coarse : ℕ → ℕ → Bool
is_coarse m n = eqb n 0 || (eqb n m || power_of_two n)

-- 'Coarse: .. the allowed counts 0, each power of two up to m, and m', ascending.
unfoldable pub coarse_counts : ℕ → List ℕ
coarse_counts m = keep (is_coarse m) (all_counts m)

-- 'Rounded count of n in a rack of m: the smallest allowed count not below n.' For n above m it means nothing.
unfoldable pub rounded_count : ℕ → ℕ → ℕ
rounded_count m n = head_d (keep (λ a. leb n a) (coarse_counts m)) 0

-- A case of the course book's list of rounded counts (02 §6): all counts from the first to the last.
pub record Case : Type 0 where
  pub first : ℕ
  pub last : ℕ

-- A case as it is printed. A count printed alone is the case from it to itself.
infix 70 ◌to◌
abbrev pub ◌to◌ : ℕ → ℕ → Case
◌to◌ a b = record { first = a; last = b }

-- The list as printed: '0, 1, 2, 3 to 4, 5 to 8, 9 to 16, 17 to 32, 33 to 64, 65 to 128, 129 to 200'.
unfoldable pub printed_cases : List Case
printed_cases =
    0 to 0 ∷ 1 to 1 ∷ 2 to 2 ∷ 3 to 4 ∷ 5 to 8 ∷ 9 to 16 ∷ 17 to 32 ∷ 33 to 64 ∷ 65 to 128 ∷ 129 to 200 ∷ []

-- The value of the first case in which n stands: its last count. It is 0 where n stands in no case.
unfoldable pub case_value : List Case → ℕ → ℕ
case_value [] n = 0
case_value (c ∷ cs) n = cond (leb c.first n && leb n c.last) c.last (case_value cs n)

-- 'The rounded count is to be decided by cases as printed .., then held to m.' For n above m, and for m above 200, it means nothing.
unfoldable pub rounded_by_cases : ℕ → ℕ → ℕ
rounded_by_cases m n = min (case_value printed_cases n) m
