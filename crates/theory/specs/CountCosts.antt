-- What the counts of a plan cost (thesis 3.9 to 3.13): their operating cost, and both prices for each rise. From 0 before the first slot to 0
-- after the last the counts rise as much as they fall.
use Rattle.std.specs.Prelude.{ℕ, suc, ◌+◌, ◌-◌, ◌*◌, ◌≡◌, refl, List, length}
use Rattle.basics.specs.Core.{sym, ap, ◌∙◌, add-one, arith, get_or-eq_default}
use Rattle.basics.specs.Sums.{sum, sum_add, sum_scale, sum_balance}
use Rattle.model.specs.Instance.{Instance}
use Rattle.model.specs.Counts.{operating_cost}
use Rattle.model.specs.Thesis.{switching_price, count_at, slot_cost, counts_cost}
use Rattle.model.specs.Explanation.{counts_operating_cost, counts_switching_cost}
use Rattle.theory.specs.Hypotheses.{cost_of_first}
use Rattle.theory.specs.Switching.{both_prices}

-- How much the counts of a plan rise in the first n slots, from 0 before the first one.
abbrev pub rises_in : ℕ → List ℕ → ℕ
rises_in n p = sum n (λ t. count_at 0 p (suc t) - count_at 0 p t)

module _ (n : ℕ) (p : List ℕ) (size : length p ≡ n) where
  -- After the last slot the count is 0.
  pub count_after : count_at 0 p (suc n) ≡ 0
  unfolding count_at
  count_after = get_or-eq_default p 0 (omega arith)

  -- After the last slot no count rises.
  pub rises_after : rises_in (suc n) p ≡ rises_in n p
  unfolding sum
  rises_after = omega (arith, count_after)

  -- The counts rise as much as they fall.
  pub rises_fall : rises_in (suc n) p ≡ sum (suc n) (λ t. count_at 0 p t - count_at 0 p (suc t))
  unfolding count_at
  rises_fall =
      let x = count_at 0 p in
      omega (arith, count_after, sum_balance (suc n) x (λ t. x (suc t) - x t) (λ t. x t - x (suc t)) (λ t. omega arith))

-- A plan of n slots costs what its counts cost to operate, and the switching price for each rise.
pub cost_rises :
    (i : Instance) (p : List ℕ) (n : ℕ) → i.slots ≡ n →
    counts_cost i 0 p ≡ sum n (λ t. operating_cost i (count_at 0 p (suc t)) (i.load t)) + switching_price i * rises_in n p
unfolding counts_cost slot_cost
cost_rises i p n e =
    ap (λ t. cost_of_first i 0 p t) e ∙
    omega (
      arith,
      sum_add n (λ t. operating_cost i (count_at 0 p (suc t)) (i.load t)) (λ t. switching_price i * (count_at 0 p (suc t) - count_at 0 p t)),
      sum_scale n (switching_price i) (λ t. count_at 0 p (suc t) - count_at 0 p t),
    )

module _ (i : Instance) (p : List ℕ) (size : length p ≡ i.slots) where
  -- The switching cost of counts is the switching price, both prices together, for each module by which a count rises.
  pub rises_cost : counts_switching_cost i p ≡ switching_price i * sum i.slots (λ t. count_at 0 p (suc t) - count_at 0 p t)
  unfolding counts_switching_cost
  rises_cost =
      rw add-one
      (both_prices (suc i.slots) i.power_up i.power_down _ _ (sym (rises_fall i.slots p size)) ∙
      ap (λ (x : ℕ). switching_price i * x) (rises_after i.slots p size))

  -- The cost of a plan by its counts is their operating and their switching cost.
  pub counts_cost_parts : counts_cost i 0 p ≡ counts_operating_cost i p + counts_switching_cost i p
  unfolding counts_operating_cost
  counts_cost_parts = rw rises_cost (cost_rises i p i.slots refl)
