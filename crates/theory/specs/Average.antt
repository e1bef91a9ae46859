-- The operating cost never falls with more light, since G never falls: `more_light`, `lighter`. Its average over the modules never rises with their
-- number: `average_falls`.
use Rattle.std.specs.Prelude.{ℕ, zero, suc, ◌+◌, ◌-◌, ◌*◌, ◌/◌, ◌%◌, ◌≤◌, ◌<◌, ◌≡◌}
use Rattle.basics.specs.Core.{ap, ⊎_elim, mul-le-mul, mul-le-mul_left, mul-le-mul_right}
use Rattle.basics.specs.Core.{lt_of_mul-lt-mul_left, le_of_mul-le-mul_left, add-zero, sub-zero, mod-lt, div-add-mod, mul-add-div, div-eq_of_lt}
use Rattle.basics.specs.Core.{mul-add-mod_self_left, mod-eq_of_lt, arith}
use Rattle.basics.specs.Numbers.{le_or_lt}
use Rattle.basics.specs.Products.{exchange, mul_le_mul_some}
use Rattle.basics.specs.Rising.{rises_to}
use Rattle.model.specs.Instance.{Instance}
use Rattle.model.specs.MoreLight.{least_from}
use Rattle.model.specs.Counts.{operating_cost}
use Rattle.laws.specs.LeastSteps.{least_never_falls}
use Rattle.laws.specs.Operating.{operating_some}

-- A load over n modules: `high` of them at step + 1, and the others, at least one, at `step`.
record Shares (n l : ℕ) : Type 0 where
  step : ℕ
  others : ℕ
  high : ℕ
  all : others + 1 + high ≡ n
  light : n * step + high ≡ l

shares : (n l : ℕ) → 0 < n → Shares n l
shares n l h =
    record {
      step = l / n;
      others = n - l % n - 1;
      high = l % n;
      all = omega (arith, mod-lt l h);
      light = div-add-mod l n;
    }

-- The cost with r modules at step q + 1 and the others, at least one, at step q.
cost_below : (i : Instance) (n l q r : ℕ) → r < n → n * q + r ≡ l → operating_cost i n l ≡ (n - r) * least_from i q + r * least_from i (q + 1)
cost_below i n l q r h e =
    let some : 0 < n = omega arith in
    let quotient : l / n ≡ q = rw (← e, mul-add-div some q r, div-eq_of_lt h) (add-zero q) in
    let remainder : l % n ≡ r = rw (← e, mul-add-mod_self_left n q r) (mod-eq_of_lt h) in
    rw (operating_some i n l some, quotient, remainder)

-- The cost with s modules at step q and r at step q + 1, where either may be none.
cost_shared :
    (i : Instance) (n l q r s : ℕ) → 0 < n → s + r ≡ n → n * q + r ≡ l → operating_cost i n l ≡ s * least_from i q + r * least_from i (q + 1)
cost_shared i n l q r zero some all light =
    let same : r ≡ n = omega arith in
    rw (cost_below i n l (q + 1) 0 some (omega arith), same, sub-zero) (omega arith)
cost_shared i n l q r (suc s) some all light =
    let rest : n - r ≡ suc s = omega arith in
    rw (cost_below i n l q r (omega arith) light, rest)

module _ (i : Instance) where
  -- The cost of a load shared over modules.
  abbrev shared : {n l : ℕ} → Shares n l → ℕ
  shared σ = (σ.others + 1) * least_from i σ.step + σ.high * least_from i (σ.step + 1)

  cost_of_shares : {n l : ℕ} (σ : Shares n l) → operating_cost i n l ≡ shared σ
  cost_of_shares {n} {l} σ = cost_shared i n l σ.step σ.high (σ.others + 1) (omega arith) σ.all σ.light

  -- 'The running cost never falls with more light if the table it uses never falls' (01), and 'G never falls' (02 §2).
  pub more_light : (n l : ℕ) → l < n * i.top_step → operating_cost i n l ≤ operating_cost i n (l + 1)
  more_light zero l h = absurd (omega arith)
  more_light (suc n) l h =
      let some : 0 < suc n = omega arith in
      let σ : Shares (suc n) l = shares (suc n) l some in
      let here = cost_of_shares σ in
      let after = cost_shared i (suc n) (l + 1) σ.step (σ.high + 1) σ.others some (omega arith) (omega arith) in
      omega (arith, least_never_falls i σ.step (lt_of_mul-lt-mul_left (suc n) (omega arith)))

  -- The same with any more light that the count can give.
  pub lighter : (n l light : ℕ) → l ≤ light → light ≤ n * i.top_step → operating_cost i n l ≤ operating_cost i n light
  lighter n l light h fits =
      rises_to (operating_cost i n) (n * i.top_step) (more_light n) l light h fits

  module _ {x a l : ℕ} (fewer : x ≤ a) (fits : l ≤ x * i.top_step) (σ : Shares x l) (τ : Shares a l) where
    -- The next step costs no less if a module is at it: beyond the top step the table says nothing.
    high_rises : σ.high * least_from i σ.step ≤ σ.high * least_from i (σ.step + 1)
    high_rises = mul_le_mul_some σ.high (λ some. least_never_falls i σ.step (lt_of_mul-lt-mul_left x (omega arith)))

    -- More modules are active at no higher step.
    step_falls : τ.step ≤ σ.step
    step_falls =
        let h : τ.step < σ.step + 1 = lt_of_mul-lt-mul_left a (omega (arith, mul-le-mul_right (σ.step + 1) fewer)) in
        omega arith

    -- Where the steps differ, G at the fewer modules' step lies between the averages.
    average_apart : τ.step < σ.step → x * shared τ ≤ a * shared σ
    average_apart h =
        let top : σ.step ≤ i.top_step = le_of_mul-le-mul_left {k = x} (omega arith) (omega arith) in
        let rise = rises_to (least_from i) i.top_step (least_never_falls i) in
        let low = mul-le-mul_left (τ.others + 1) (rise τ.step σ.step (omega arith) top) in
        let high = mul-le-mul_left τ.high (rise (τ.step + 1) σ.step (omega arith) top) in
        let more : shared τ ≤ a * least_from i σ.step = rw (← τ.all) (omega arith) in
        let less : x * least_from i σ.step ≤ shared σ = rw (← σ.all) (omega (arith, high_rises)) in
        omega (arith, mul-le-mul_left x more, mul-le-mul_left a less)

    -- Where the steps agree, fewer modules have no smaller part at the next step.
    average_level : τ.step ≡ σ.step → x * shared τ ≤ a * shared σ
    average_level h =
        let f = least_from i σ.step in
        let g = least_from i (σ.step + 1) in
        let less : τ.high ≤ σ.high = omega (arith, ap (λ (q : ℕ). a * q) h, mul-le-mul_right σ.step fewer) in
        let cross = exchange f g (mul-le-mul fewer less) (omega (arith, mul-le-mul_left a high_rises)) in
        rw h (omega (arith, ap (λ (n : ℕ). x * n * f) τ.all, ap (λ (n : ℕ). a * n * f) σ.all))

  -- The cost a module never rises with more modules: the average over a modules is at most that over x.
  pub average_falls : (x a l : ℕ) → x ≤ a → l ≤ x * i.top_step → x * operating_cost i a l ≤ a * operating_cost i x l
  average_falls zero a l fewer fits = omega arith
  average_falls (suc y) a l fewer fits =
      let x : ℕ = suc y in
      let σ : Shares x l = shares x l (omega arith) in
      let τ : Shares a l = shares a l (omega arith) in
      rw (cost_of_shares σ, cost_of_shares τ)
      (⊎_elim
      (λ (h : σ.step ≤ τ.step). average_level fewer fits σ τ (omega (arith, step_falls fewer fits σ τ)))
      (average_apart fewer fits σ τ)
      (le_or_lt σ.step τ.step))
