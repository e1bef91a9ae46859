-- Tables: what convex and never falling mean, that tables which agree pass the same tests, what follows from a step at which a convex table no
-- longer falls, and the line that supports it.
use Rattle.std.specs.Prelude.{ℕ, zero, suc, ◌+◌, ◌-◌, ◌*◌, ◌≤◌, ◌<◌, ◌≡◌, true, ◌↔◌, leb}
use Rattle.basics.specs.Core.{ap, ⊎_elim, leb-true, le-leb, add-zero, le_dest, le_of_lt}
use Rattle.basics.specs.Core.{mul-le-mul_left, arith}
use Rattle.basics.specs.Numbers.{le_or_lt}
use Rattle.basics.specs.Tests.{every_at, every_all, every_same}
use Rattle.model.specs.Instance.{convex_at, convex, never_falls, table_in_range}

-- Of a table with the entries f 0 to f q no entry lies above the middle of its neighbours.
abbrev pub Convex : ℕ → (ℕ → ℕ) → Type 0
Convex q f = (k : ℕ) → k + 1 < q → 2 * f (k + 1) ≤ f k + f (k + 2)

-- Of a table with the entries f 0 to f q no entry lies above the next one.
abbrev pub NeverFalls : ℕ → (ℕ → ℕ) → Type 0
NeverFalls q f = (k : ℕ) → k < q → f k ≤ f (k + 1)

-- A table passes the test exactly if it is convex.
pub convex_test : (q : ℕ) (f : ℕ → ℕ) → convex q f ≡ true ↔ Convex q f
unfolding convex convex_at
convex_test q f = (
  λ e k h. leb-true _ _ (every_at (q - 1) (convex_at f) e k (omega arith)),
  λ c. every_all (q - 1) (convex_at f) (λ k h. le-leb _ _ (c k (omega arith))),
)

-- A table passes the test exactly if it never falls.
pub never_falls_test : (q : ℕ) (f : ℕ → ℕ) → never_falls q f ≡ true ↔ NeverFalls q f
unfolding never_falls
never_falls_test q f = (
  λ e k h. leb-true _ _ (every_at q (λ j. leb (f j) (f (j + 1))) e k h),
  λ rises. every_all q _ (λ k h. le-leb _ _ (rises k h)),
)

-- Of two tables with the same entries up to q, each of the three tests holds for both or for neither.
module _ (q : ℕ) {f g : ℕ → ℕ} (same : (k : ℕ) → k ≤ q → g k ≡ f k) where
  pub same_range : table_in_range q g ≡ table_in_range q f
  unfolding table_in_range
  same_range = every_same (q + 1) _ _ (λ k h. ap (λ (x : ℕ). leb x 1000000) (same k (omega arith)))

  pub same_convex : convex q g ≡ convex q f
  unfolding convex convex_at
  same_convex =
      every_same (q - 1) (convex_at g) (convex_at f)
      (λ k h. rw (same k (omega arith), same (k + 1) (omega arith), same (k + 2) (omega arith)))

  pub same_rise : never_falls q g ≡ never_falls q f
  unfolding never_falls
  same_rise = every_same q _ _ (λ k h. rw (same k (omega arith), same (k + 1) (omega arith)))

module _ (q : ℕ) (f : ℕ → ℕ) (c : Convex q f) where
  -- The differences of a convex table rise.
  differences_rise : (j d : ℕ) → j + d < q → f (j + 1) + f (j + d) ≤ f j + f (j + d + 1)
  differences_rise j zero h = rw (add-zero j) (omega arith)
  differences_rise j (suc d) h =
      let here : j + suc d ≡ j + d + 1 = omega arith in
      let next : j + d + 1 + 1 ≡ j + d + 2 = omega arith in
      rw (here, next) (omega (arith, differences_rise j d (omega arith), c (j + d) (omega arith)))

  -- A convex table lies above the line through two neighbouring entries d steps up from them.
  above_line_up : (j d : ℕ) → j + d ≤ q → f j + d * f (j + 1) ≤ f (j + d) + d * f j
  above_line_up j zero h = rw (add-zero j) (omega arith)
  above_line_up j (suc d) h =
      let here : j + suc d ≡ j + d + 1 = omega arith in
      rw here (omega (arith, above_line_up j d (omega arith), differences_rise j d (omega arith)))

  -- From a step p on, from which to the next a convex table does not fall, it never falls.
  pub rises_past : (p : ℕ) → (p < q → f p ≤ f (p + 1)) → (k x : ℕ) → p ≤ k → k ≤ x → x ≤ q → f k ≤ f x
  rises_past p level k x from to top =
      ⊎_elim
      (λ (g : x ≤ k). let same : x ≡ k = omega arith in rw same (omega arith))
      (λ (g : k < x).
      let (d, past) = le_dest from in
      let (e, up) = le_dest to in
      let next : f k ≤ f (k + 1) = rw (← past) (omega (arith, differences_rise p d (omega arith), level (omega arith))) in
      rw (← up) (omega (arith, above_line_up k e (omega arith), mul-le-mul_left e next)))
      (le_or_lt x k)

  -- A convex table lies above the line through two neighbouring entries d steps down from them.
  above_line_down : (k d : ℕ) → k + d < q → f (k + d) + d * f (k + d) ≤ f k + d * f (k + d + 1)
  above_line_down k zero h = rw (add-zero k) (omega arith)
  above_line_down k (suc d) h =
      let here : k + 1 + d ≡ k + suc d = omega arith in
      omega (arith, rw here at (above_line_down (k + 1) d (omega arith)), differences_rise k (suc d) h)

-- A convex table lies above the line through the entries at j and j + 1. It is stated without subtraction, so that the table may fall.
pub supporting_line :
    (q : ℕ) (f : ℕ → ℕ) → Convex q f → (j k : ℕ) → j < q → k ≤ q → f j + k * f (j + 1) + j * f j ≤ f k + k * f j + j * f (j + 1)
supporting_line q f c j k h l =
    ⊎_elim
    (λ (g : j ≤ k). up (le_dest g))
    (λ (g : k < j). down (le_dest (le_of_lt g)))
    (le_or_lt j k)
  where
    up : (d : ℕ) × (j + d ≡ k) → f j + k * f (j + 1) + j * f j ≤ f k + k * f j + j * f (j + 1)
    up (d, e) = rw (← e) (omega (arith, above_line_up q f c j d (omega arith)))

    down : (d : ℕ) × (k + d ≡ j) → f j + k * f (j + 1) + j * f j ≤ f k + k * f j + j * f (j + 1)
    down (d, e) = rw (← e) (omega (arith, above_line_down q f c k d (omega arith)))
