-- On a convex table the operating cost of a count is the least cost of a row of bytes with enough light, `row_at_least`, and the row of a plan
-- attains it, `plan_row_cost`. It is the thesis's n·f(L/n) with straight lines between table entries, with G for F: `straight_line`.
use Rattle.std.specs.Prelude.{ℕ, zero, suc, ◌+◌, ◌-◌, ◌*◌, ◌/◌, ◌%◌, ◌≤◌, ◌<◌, ◌≡◌, refl, Bool, true, false, cond, ◌⊎◌, leb}
use Rattle.basics.specs.Core.{ap, sym, ◌∙◌, or-true, or-false}
use Rattle.basics.specs.Core.{inl, inr, ⊎_elim, leb-true, le-leb, eqb-true, ne_eqb, add-sub_of_le, mod-lt, div-add-mod, div-le_of_le-mul}
use Rattle.basics.specs.Core.{le_trans, le_of_lt, eq-or-lt_of_le, eq-zero-or-pos, mul-le-mul_left, mul-le-mul_right, arith}
use Rattle.basics.specs.Numbers.{le_or_lt, true_or_false}
use Rattle.basics.specs.Division.{remainder_le, quotient_lt, part_and_rest}
use Rattle.basics.specs.Sums.{sum, sum_const, sum_from, sum_at_most}
use Rattle.model.specs.Instance.{Instance}
use Rattle.model.specs.MoreLight.{least_from, active_step}
use Rattle.model.specs.Counts.{operating_cost}
use Rattle.model.specs.Sheets.{off, is_off, step_of, step_cost, active_of}
use Rattle.model.specs.Plans.{module_byte}
use Rattle.laws.specs.Operating.{operating_some, operating_formula, byte_above, byte_at, byte_off}
use Rattle.laws.specs.Tables.{Convex, supporting_line}
use Rattle.laws.specs.LeastSteps.{least_from_below, least_convex, active_cost, active_least, active_from}
use Rattle.theory.specs.Hypotheses.{Entry, active_in, light_in, row_cost}
use Rattle.theory.specs.Average.{lighter}

-- 'the thesis's n·f(L/n) with straight lines between table entries' (01), with G for F (02 §2): the operating cost of n modules is n times
-- the line from G(q) to G(q + 1), taken at l / n. It is stated without division.
pub straight_line : (i : Instance) (n l : ℕ) → 0 < n →
    operating_cost i n l + l % n * least_from i (l / n) ≡ n * least_from i (l / n) + l % n * least_from i (l / n + 1)
straight_line i n l p = omega (arith, operating_some i n l p, part_and_rest n (l % n) (least_from i (l / n)) (le_of_lt (mod-lt l p)))

-- The same with the load in place of its remainder, so that other counts can be held against the line. It is stated without subtraction.
pub on_line : (i : Instance) (n l : ℕ) → 0 < n →
    operating_cost i n l + l * least_from i (l / n) + n * (l / n * least_from i (l / n + 1)) ≡
    n * (least_from i (l / n) + l / n * least_from i (l / n)) + l * least_from i (l / n + 1)
on_line i n l p =
    let at_low = ap (λ (x : ℕ). x * least_from i (l / n)) (div-add-mod l n) in
    let at_high = ap (λ (x : ℕ). x * least_from i (l / n + 1)) (div-add-mod l n) in
    omega (arith, straight_line i n l p)

-- The table lies above the line u + k x - k y - z. It is stated without subtraction.
abbrev AboveLine : Instance → ℕ → ℕ → ℕ → ℕ → Type 0
AboveLine i u x y z = (k : ℕ) → k ≤ i.top_step → u + k * x ≤ i.table k + k * y + z

-- The table lies above a steep line through the last value of G.
line_at_top : (i : Instance) → AboveLine i (least_from i i.top_step) (least_from i i.top_step) 0 (i.top_step * least_from i i.top_step)
line_at_top i k h =
    ⊎_elim
    (λ (e : k ≡ i.top_step). rw e (omega (arith, least_from_below i i.top_step)))
    (λ (g : k < i.top_step). omega (arith, mul-le-mul_right (least_from i i.top_step) g))
    (eq-or-lt_of_le h)

-- A cost that is at least n times each line below the table, taken at l / n, is at least the operating cost.
module _ (i : Instance) (n l cost : ℕ) (fits : l ≤ n * i.top_step)
    (above : (u x y z : ℕ) → AboveLine i u x y z → n * u + l * x ≤ cost + l * y + n * z) where
  -- All modules are at the top step.
  at_top : 0 < n → i.top_step ≤ l / n → operating_cost i n l ≤ cost
  at_top p h =
      let top : l / n ≡ i.top_step = omega (arith, div-le_of_le-mul n fits) in
      let none : l % n ≡ 0 = omega (arith, mul-le-mul_left n h, div-add-mod l n) in
      let full : l ≡ n * i.top_step = omega (arith, mul-le-mul_left n h, div-add-mod l n) in
      let line = above _ _ _ _ (line_at_top i) in
      omega (arith, rw (top, none) at (straight_line i n l p), ap (λ (x : ℕ). x * least_from i i.top_step) full)

  below_top : Convex i.top_step i.table → 0 < n → l / n < i.top_step → operating_cost i n l ≤ cost
  below_top c p h =
      let q : ℕ = l / n in
      let low : ℕ = least_from i q in
      let high : ℕ = least_from i (q + 1) in
      let support = supporting_line i.top_step (least_from i) (least_convex i c) q in
      let line = above (low + q * low) high low (q * high) (λ k g. omega (arith, support k h g, least_from_below i k)) in
      omega (arith, on_line i n l p)

  above_lines : Convex i.top_step i.table → operating_cost i n l ≤ cost
  unfolding operating_cost
  above_lines c =
      ⊎_elim
      (λ (e : n ≡ 0). rw e (omega arith))
      (λ (p : 0 < n). ⊎_elim (at_top p) (below_top c p) (le_or_lt i.top_step (l / n)))
      (eq-zero-or-pos n)

-- An entry is off or a step.
entry_cases : (i : Instance) (b : ℕ) → Entry i b → (is_off b ≡ true) ⊎ ((is_off b ≡ false) × (b ≤ i.top_step))
entry_cases i b e =
    ⊎_elim inl (λ (g : is_off b ≡ false). inr (g, leb-true b i.top_step (rw (g, or-false) at e))) (true_or_false (is_off b))

-- Where no step is the byte for off, no entry is above it.
pub entry_le : (i : Instance) (b : ℕ) → i.top_step < off → Entry i b → b ≤ off
entry_le i b steps e =
    ⊎_elim
    (λ (g : is_off b ≡ true). omega (arith, eqb-true b off g))
    (λ (g : (is_off b ≡ false) × (b ≤ i.top_step)). omega arith)
    (entry_cases i b e)

-- A byte counts at most 1 as active.
pub at_most_one : (x : Bool) → cond x 0 1 ≤ 1
at_most_one true = omega arith
at_most_one false = omega arith

-- No more modules are active than there are.
pub active_le : (m : ℕ) (b : ℕ → ℕ) → active_in m b ≤ m
unfolding active_in
active_le m b = omega (arith, sum_at_most m (λ k h. at_most_one (is_off (b k))))

-- Rows of entries.
module _ (i : Instance) where
  byte_above_line : (u x y z : ℕ) → AboveLine i u x y z → (b : ℕ) → Entry i b →
      active_of b * u + step_of b * x ≤ step_cost i b + step_of b * y + active_of b * z
  unfolding step_cost
  byte_above_line u x y z h b e =
      ⊎_elim
      (λ (g : is_off b ≡ true). rw g (omega arith))
      (λ (g : (is_off b ≡ false) × (b ≤ i.top_step)). rw g.0 (omega (arith, h b g.1)))
      (entry_cases i b e)

  -- Where the table lies above a line, so does the cost of a row.
  row_above_line : (m : ℕ) (b : ℕ → ℕ) → ((k : ℕ) → k < m → Entry i (b k)) → (u x y z : ℕ) → AboveLine i u x y z →
      active_in m b * u + light_in m b * x ≤ row_cost i m b + light_in m b * y + active_in m b * z
  unfolding sum active_in light_in row_cost
  row_above_line zero b e u x y z h = omega arith
  row_above_line (suc m) b e u x y z h =
      omega (arith, row_above_line m b (λ k l. e k (omega arith)) u x y z h, byte_above_line u x y z h (b m) (e m (omega arith)))

  byte_fits : (b : ℕ) → Entry i b → step_of b ≤ active_of b * i.top_step
  byte_fits b e =
      ⊎_elim
      (λ (g : is_off b ≡ true). rw g (omega arith))
      (λ (g : (is_off b ≡ false) × (b ≤ i.top_step)). rw g.0 (omega arith))
      (entry_cases i b e)

  -- A row's light is at most the top step for each active module.
  pub row_fits : (m : ℕ) (b : ℕ → ℕ) → ((k : ℕ) → k < m → Entry i (b k)) → light_in m b ≤ active_in m b * i.top_step
  unfolding sum active_in light_in
  row_fits zero b e = omega arith
  row_fits (suc m) b e = omega (arith, row_fits m b (λ k l. e k (omega arith)), byte_fits (b m) (e m (omega arith)))

  -- On a convex table any row of entries costs at least the operating cost of its active modules and any load of which it has enough
  -- light (thesis 3.4, with the artificial loads of 5.1).
  pub row_at_least : Convex i.top_step i.table → (m : ℕ) (b : ℕ → ℕ) → ((k : ℕ) → k < m → Entry i (b k)) →
      (l : ℕ) → l ≤ light_in m b → operating_cost i (active_in m b) l ≤ row_cost i m b
  row_at_least c m b e l enough =
      le_trans (lighter i (active_in m b) l (light_in m b) enough (row_fits m b e))
      (above_lines i (active_in m b) (light_in m b) (row_cost i m b) (row_fits m b e) (row_above_line m b e) c)

-- A step below the byte for off is active.
step_active : (b : ℕ) → b < off → is_off b ≡ false
step_active b h = ne_eqb b off (λ e. omega arith)

-- The row of a plan with count n and load l.
module _ (i : Instance) (n l : ℕ) (fits : l ≤ n * i.top_step) where
  above_step : 0 < l % n → l / n + 1 ≤ i.top_step
  above_step h = omega (arith, quotient_lt n l i.top_step fits h)

  byte_step : (k : ℕ) → k < n → module_byte i n l k ≤ i.top_step
  byte_step k h =
      ⊎_elim
      (λ (g : l % n ≤ k). rw (byte_at i n l k g h) (active_least i (l / n) (div-le_of_le-mul n fits)).to)
      (λ (g : k < l % n). rw (byte_above i n l k g h) (active_least i (l / n + 1) (above_step (omega arith))).to)
      (le_or_lt (l % n) k)

  pub byte_active : i.top_step < off → (k : ℕ) → k < n → is_off (module_byte i n l k) ≡ false
  byte_active steps k h = step_active (module_byte i n l k) (omega (arith, byte_step k h))

  -- Each byte of the row of a plan is an entry.
  pub plan_row_entry : (k : ℕ) → Entry i (module_byte i n l k)
  plan_row_entry k =
      ⊎_elim
      (λ (g : n ≤ k). rw (byte_off i n l k g) (or-true (leb off i.top_step)))
      (λ (g : k < n). rw (le-leb (module_byte i n l k) i.top_step (byte_step k g)))
      (le_or_lt n k)

  -- The sum over the row of a function of the byte that is 0 at off and at the active step of each k is h k.
  plan_row_sum : (g h : ℕ → ℕ) → g off ≡ 0 → ((k : ℕ) → k ≤ i.top_step → g (active_step i k) ≡ h k) → (m : ℕ) → n ≤ m →
      sum m (λ k. g (module_byte i n l k)) ≡ (n - l % n) * h (l / n) + l % n * h (l / n + 1)
  plan_row_sum g h e steps m rack =
      let some = remainder_le n l i.top_step fits in
      let first = sum_const (l % n) (λ k a. above k a (omega arith)) in
      let others = sum_from (l % n) (n - l % n) n (add-sub_of_le some) at_step in
      let rest = sum_from n (m - n) m (add-sub_of_le rack) (λ k a c. ap g (byte_off i n l k a) ∙ e) in
      omega arith
    where
      above : (k : ℕ) → k < l % n → k < n → g (module_byte i n l k) ≡ h (l / n + 1)
      above k a c = ap g (byte_above i n l k a c) ∙ steps (l / n + 1) (above_step (omega arith))

      at_step : (k : ℕ) → l % n ≤ k → k < n → g (module_byte i n l k) ≡ h (l / n)
      at_step k a c = ap g (byte_at i n l k a c) ∙ steps (l / n) (div-le_of_le-mul n fits)

-- In a rack of m, where no step is the byte for off, the row of a plan has n active modules, enough light for l and the operating cost.
module _ (i : Instance) (m n l : ℕ) (steps : i.top_step < off) (rack : n ≤ m) (fits : l ≤ n * i.top_step) where
  -- An active step is not the byte for off.
  step_on : (k : ℕ) → k ≤ i.top_step → is_off (active_step i k) ≡ false
  step_on k h = step_active (active_step i k) (omega (arith, (active_least i k h).to))

  pub plan_row_active : active_in m (module_byte i n l) ≡ n
  unfolding active_in
  plan_row_active =
      let counted = plan_row_sum i n l fits active_of (λ b. 1) refl (λ k h. rw (step_on k h)) m rack in
      omega (arith, remainder_le n l i.top_step fits)

  pub plan_row_light : l ≤ light_in m (module_byte i n l)
  unfolding light_in
  plan_row_light =
      let summed = plan_row_sum i n l fits step_of (active_step i) refl (λ k h. rw (step_on k h)) m rack in
      let low = mul-le-mul_left (n - l % n) (active_from i (l / n)) in
      let high = mul-le-mul_left (l % n) (active_from i (l / n + 1)) in
      omega (arith, part_and_rest n (l % n) (l / n) (remainder_le n l i.top_step fits), div-add-mod l n)

  pub plan_row_cost : row_cost i m (module_byte i n l) ≡ operating_cost i n l
  unfolding row_cost step_cost
  plan_row_cost =
      plan_row_sum i n l fits (step_cost i) (least_from i) refl (λ k h. rw (step_on k h) (active_cost i k)) m rack ∙
      sym (operating_formula i n l fits)
