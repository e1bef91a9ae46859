-- The operating cost of a count as one formula, `operating_formula`, and a bound for it, `operating_bound`; and the row of a plan, byte by byte.
use Rattle.std.specs.Prelude.{ℕ, zero, suc, ◌+◌, ◌-◌, ◌*◌, ◌/◌, ◌%◌, ◌≤◌, ◌<◌, ◌≡◌, cond, eqb, length}
use Rattle.basics.specs.Core.{sym, eqb-suc-zero, lt-ltb, le-ltb, ne_eqb}
use Rattle.basics.specs.Core.{le_trans, zero-mul, mod-zero, div-le_of_le-mul, mul-le-mul_left, arith}
use Rattle.basics.specs.Products.{mul_le_mul_some}
use Rattle.basics.specs.Division.{remainder_le, quotient_lt, part_and_rest}
use Rattle.basics.specs.Lists.{length_tabulate}
use Rattle.model.specs.Instance.{Instance}
use Rattle.model.specs.MoreLight.{least_from, active_step}
use Rattle.model.specs.Counts.{operating_cost}
use Rattle.model.specs.Sheets.{off}
use Rattle.model.specs.Plans.{module_byte, slot_row}
use Rattle.laws.specs.LeastSteps.{least_from_below}

-- Of a count above 0 the cases of the operating cost are one formula.
pub operating_some : (i : Instance) (n l : ℕ) → 0 < n →
    operating_cost i n l ≡ (n - l % n) * least_from i (l / n) + l % n * least_from i (l / n + 1)
unfolding operating_cost
operating_some i n l some = rw (ne_eqb n 0 (omega arith), second_term (l % n) (least_from i (l / n + 1)))
  where
    second_term : (r x : ℕ) → cond (eqb r 0) 0 (r * x) ≡ r * x
    second_term zero x = sym (zero-mul x)
    second_term (suc r) x = rw (eqb-suc-zero r)

-- The formula holds of count 0 too, which serves no load but 0.
pub operating_formula : (i : Instance) (n l : ℕ) → l ≤ n * i.top_step →
    operating_cost i n l ≡ (n - l % n) * least_from i (l / n) + l % n * least_from i (l / n + 1)
unfolding operating_cost
operating_formula i zero l h = let none : l % 0 ≡ 0 = omega (arith, mod-zero l) in rw none (omega arith)
operating_formula i (suc n) l h = operating_some i (suc n) l (omega arith)

-- Where no entry of the table exceeds f, n modules cost at most n times f.
pub operating_bound : (i : Instance) (f : ℕ) → ((k : ℕ) → k ≤ i.top_step → i.table k ≤ f) → (n l : ℕ) → l ≤ n * i.top_step →
    operating_cost i n l ≤ n * f
operating_bound i f table n l h =
    let least : (k : ℕ) → k ≤ i.top_step → least_from i k ≤ f = λ k g. le_trans (least_from_below i k) (table k g) in
    let low = mul-le-mul_left (n - l % n) (least (l / n) (div-le_of_le-mul n h)) in
    let high = mul_le_mul_some (l % n) (λ some. least (l / n + 1) (omega (arith, quotient_lt n l i.top_step h some))) in
    omega (arith, operating_formula i n l h, part_and_rest n (l % n) f (remainder_le n l i.top_step h))

-- The row of a plan with count n and load l: the first l % n modules at the active step of l / n + 1, the others up to n at that of
-- l / n, the rest off.
module _ (i : Instance) (n l : ℕ) where
  pub byte_above : (k : ℕ) → k < l % n → k < n → module_byte i n l k ≡ active_step i (l / n + 1)
  unfolding module_byte
  byte_above k g h = rw (lt-ltb k n h, lt-ltb k (l % n) g)

  pub byte_at : (k : ℕ) → l % n ≤ k → k < n → module_byte i n l k ≡ active_step i (l / n)
  unfolding module_byte
  byte_at k g h = rw (lt-ltb k n h, le-ltb k (l % n) g)

  pub byte_off : (k : ℕ) → n ≤ k → module_byte i n l k ≡ off
  unfolding module_byte
  byte_off k h = rw (le-ltb k n h)

pub slot_row_length : (i : Instance) (n l : ℕ) → length (slot_row i n l) ≡ i.modules
unfolding slot_row
slot_row_length i n l = length_tabulate i.modules (module_byte i n l)
