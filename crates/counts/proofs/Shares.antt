-- A load shared by n modules: quotient and remainder stay in the table, and the cost is the definition's.
use Rattle.std.specs.Prelude.{ℕ, ◌+◌, ◌-◌, ◌*◌, ◌/◌, ◌%◌, ◌^◌, ◌≤◌, ◌<◌, ◌≡◌, refl, List}
use Rattle.basics.specs.Core.{le_of_lt, sub-zero, pos_of_ne-zero, mod-lt}
use Rattle.basics.specs.Core.{div-le_of_le-mul, mul-le-mul, arith, eq-eqb}
use Rattle.basics.specs.Division.{part_and_rest}
use Rattle.model.specs.Instance.{Instance, instance_of}
use Rattle.model.specs.MoreLight.{least_from}
use Rattle.model.specs.Counts.{operating_cost}
use Rattle.model.specs.Calls.{Accepted}
use Rattle.laws.specs.Acceptance.{card_size, accepted_bounds}
use Rattle.laws.specs.Tables.{convex_test}
use Rattle.laws.specs.LeastSteps.{lowest_step, active_least, least_level, least_itself}
use Rattle.laws.specs.Operating.{operating_some, operating_bound}
use Rattle.card.specs.declared.Card.{Card}
use Rattle.card.specs.Shows.{show_of}
use Rattle.counts.specs.Serving.{Served}

module _ (n l : ℕ) (some : n ≡ 0 → ⊥) where
  pub rest_below : l % n < n
  rest_below = mod-lt l (pos_of_ne-zero some)

  pub step_within : (q : ℕ) → l ≤ n * q → l / n ≤ q
  step_within q h = div-le_of_le-mul n h

pub cost_none : (i : Instance) (n l : ℕ) → n ≡ 0 → 0 ≡ operating_cost i n l
unfolding operating_cost
cost_none i n l e = rw (eq-eqb n 0 e)

-- The cost of a count above 0 on an accepted card, as the code works it out.
module _ (s : List ℕ) (n l : ℕ) (accepted : Accepted s) (some : n ≡ 0 → ⊥) where
  abbrev show : Instance
  show = instance_of s

  cost_by_least : operating_cost show n l ≡ (n - l % n) * least_from show (l / n) + l % n * least_from show (l / n + 1)
  cost_by_least = operating_some show n l (pos_of_ne-zero some)

  -- Below the lowest step all modules are at the lowest step.
  pub cost_level : l / n < lowest_step show → operating_cost show n l ≡ n * show.table (lowest_step show)
  cost_level below =
      rw (cost_by_least, least_level show (l / n) (omega arith), least_level show (l / n + 1) (omega arith))
      (omega (arith, part_and_rest n (l % n) (show.table (lowest_step show)) (le_of_lt (rest_below n l some))))

  -- From the lowest step on G is F.
  module _ (above : lowest_step show ≤ l / n) where
    own : (k : ℕ) → l / n ≤ k → least_from show k ≡ show.table k
    own k from = least_itself show ((convex_test _ _).0 (accepted_bounds s accepted).convexity) k (omega arith)

    pub cost_even : l % n ≡ 0 → operating_cost show n l ≡ n * show.table (l / n)
    cost_even e = rw (cost_by_least, own (l / n) (omega arith), e, sub-zero) (omega arith)

    pub cost_uneven : operating_cost show n l ≡ (n - l % n) * show.table (l / n) + l % n * show.table (l / n + 1)
    cost_uneven = rw (cost_by_least, own (l / n) (omega arith), own (l / n + 1) (omega arith)) refl

-- A product of a count and an entry is small, and so is a step.
module _ {card : Card} {n l : ℕ} (p : Served card n l) where
  pub product_small : {k x : ℕ} → k ≤ n → x < 256 ^ 4 → k * x ≤ 200 * 256 ^ 4
  product_small {k} {x} h b =
      let rack = (accepted_bounds _ card.accepted).modules.1 in
      mul-le-mul {n₁ = k} {m₁ = x} {n₂ = 200} {m₂ = 256 ^ 4} (omega (arith, p.in_rack)) (omega arith)

  pub step_small : (n ≡ 0 → ⊥) → l / n ≤ 200
  step_small some = omega (arith, step_within n l some (show_of card).top_step p.serves, (accepted_bounds _ card.accepted).top_step.1)

-- A count runs at most 200 modules at 1,000,000 each.
pub operating_most : {card : Card} {n l : ℕ} → Served card n l → operating_cost (show_of card) n l ≤ 200 * 1000000
operating_most {card} {n} {l} given =
    omega (
      arith,
      operating_bound (show_of card) 1000000 (accepted_bounds _ card.accepted).table n l given.serves,
      given.in_rack,
      (accepted_bounds _ card.accepted).modules.1,
    )

-- The lowest step is a step of the table.
pub lowest_within : (i : Instance) → lowest_step i ≤ i.top_step
lowest_within i = (active_least i 0 (omega arith)).to

-- What the operating cost rests on: the table's entries are on the card, the cost by each way through the code, and the size of a product.
pub ruleset cost_steps = (card_size, lowest_within, cost_none, cost_level, cost_even, cost_uneven, product_small)
