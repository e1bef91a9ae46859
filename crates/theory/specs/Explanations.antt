-- Where the points of a sheet went (document 02, §7): the three numbers are whole differences (`spread_whole`, `counts_whole`, and
-- `switching_at_least` in SheetLaws), together the sheet's cost above the least, `points_together`, and each is 0 exactly if changing that one
-- thing alone saves nothing, `spread_zero`, `swaps_zero`, `counts_zero`. All three are 0 exactly if no sheet that serves costs less, `all_zero`.
-- The sheets of plans have spread 0 and swaps 0, `plan_points`, and the exact plan's sheet has counts 0 too, `exact_points`.
use Rattle.std.specs.Prelude.{ℕ, zero, suc, ◌+◌, ◌≤◌, ◌<◌, ◌≡◌, refl, true, List, ◌↔◌}
use Rattle.basics.specs.Core.{⊎_elim, eq-eqb, le-ltb, arith}
use Rattle.basics.specs.Numbers.{le_or_lt}
use Rattle.basics.specs.Sums.{sum_ext}
use Rattle.basics.specs.Lists.{tabulate_same}
use Rattle.model.specs.Instance.{Instance}
use Rattle.model.specs.Sheets.{is_off, state_at, sheet_length, serves, change_cost, sheet_operating_cost, sheet_switching_cost, sheet_cost, active_at, counts_of}
use Rattle.model.specs.Plans.{sheet_of, plan_cost}
use Rattle.model.specs.Planners.{exact, allowed_counts, planned_by, planned_cost}
use Rattle.model.specs.Explanation.{counts_operating_cost, excess_operating_cost, excess_switching_cost, excess_of_counts}
use Rattle.model.specs.Explanation.{SameActive, NoBetterSpread, NoBetterChoice, NoBetterPlan, NoBetterSheet}
use Rattle.theory.specs.Hypotheses.{PlanFits, Plannable}
use Rattle.theory.specs.CountCosts.{counts_cost_parts}
use Rattle.theory.specs.SheetLaws.{counts_length, operating_at_least, switching_at_least, sheet_counts_fit, sheet_length_lem}
use Rattle.theory.specs.SheetLaws.{plan_counts, plan_operating_cost, plan_switching_cost, plan_cost_counts, plan_sheet_serves}
use Rattle.theory.specs.Condition3.{exact_plan, exact_least, planned_fits, sheet_counts_allowed}
use Rattle.theory.specs.BalancedSheets.{balanced_sheet, balanced_serves, balanced_active, balanced_cost}

-- Two lists of bytes with the same modules active in the same slots.
module _ (i : Instance) (s r : List ℕ) (same : SameActive i s r) where
  -- They have the same modules active at all times, since before the first slot and after the last all are off.
  same_at : (t k : ℕ) → k < i.modules → is_off (state_at i r t k) ≡ is_off (state_at i s t k)
  unfolding state_at
  same_at zero k g = refl
  same_at (suc t) k g = ⊎_elim (λ (h : i.slots ≤ t). rw (le-ltb t i.slots h)) (λ (h : t < i.slots). same t k h g) (le_or_lt i.slots t)

  -- They have the same switching cost.
  pub same_switching : sheet_switching_cost i r ≡ sheet_switching_cost i s
  unfolding sheet_switching_cost change_cost
  same_switching =
      sum_ext (i.slots + 1) (λ t h. sum_ext i.modules (λ k g. rw (same_at t k g, same_at (suc t) k g)))

  -- They have the same counts.
  pub same_counts : counts_of i r ≡ counts_of i s
  unfolding counts_of active_at
  same_counts = tabulate_same i.slots (λ t h. sum_ext i.modules (λ k g. rw (same t k h g)))

-- The sheet of a plan has spread 0 and swaps 0.
pub plan_points :
    {i : Instance} (p : List ℕ) → PlanFits i p → (excess_operating_cost i (sheet_of i p) ≡ 0) × (excess_switching_cost i (sheet_of i p) ≡ 0)
unfolding excess_operating_cost excess_switching_cost
plan_points {i} p fit =
    rw (plan_counts i p fit) (omega (arith, plan_operating_cost i p fit), omega (arith, plan_switching_cost i p fit))

module _ {i : Instance} (ready : Plannable i) where
  -- 'the least running cost for its own counts': no sheet that serves with the counts of s costs less to operate than they do.
  pub running_least :
      (s r : List ℕ) → serves i r ≡ true → counts_of i r ≡ counts_of i s → counts_operating_cost i (counts_of i s) ≤ sheet_operating_cost i r
  running_least s r f same = rw same at (operating_at_least i ready.convex r f)

  -- The excess of the counts is 0 exactly if no plan that serves costs less than they do.
  pub counts_zero : (s : List ℕ) → excess_of_counts i s ≡ 0 ↔ NoBetterPlan i s
  unfolding excess_of_counts allowed_counts
  counts_zero s = (
    λ none r a. omega (arith, (exact_plan ready).least r a),
    λ least. omega (arith, least _ (exact_plan ready).allowed),
  )

  -- A sheet that serves.
  module _ (s : List ℕ) (e : serves i s ≡ true) where
    -- Its counts are a plan whose sheet can be written.
    counts_fit : PlanFits i (counts_of i s)
    counts_fit = sheet_counts_fit i s ready.steps e

    -- Its operating cost is at least that of its counts.
    pub spread_whole : counts_operating_cost i (counts_of i s) ≤ sheet_operating_cost i s
    spread_whole = operating_at_least i ready.convex s e

    -- Its counts as a plan cost at least the least cost.
    pub counts_whole : planned_cost exact i ≤ plan_cost i (counts_of i s)
    unfolding allowed_counts
    counts_whole = (exact_plan ready).least (counts_of i s) (sheet_counts_allowed ready s e)

    -- 'together they are the cost above the least'.
    pub points_together : planned_cost exact i + (excess_operating_cost i s + excess_switching_cost i s + excess_of_counts i s) ≡ sheet_cost i s
    unfolding sheet_cost excess_operating_cost excess_switching_cost excess_of_counts
    points_together =
        omega (
          arith,
          spread_whole,
          switching_at_least i s,
          counts_whole,
          plan_cost_counts i (counts_of i s) counts_fit,
          counts_cost_parts i (counts_of i s) (counts_length i s),
        )

    -- The spread is 0 exactly if no sheet that serves, with the same modules active in the same slots, costs less.
    pub spread_zero : excess_operating_cost i s ≡ 0 ↔ NoBetterSpread i s
    unfolding sheet_cost excess_operating_cost
    spread_zero = (
      λ none r f same.
          let counts = rw (same_counts i s r same) at (operating_at_least i ready.convex r f) in
          omega (arith, same_switching i s r same),
      λ least.
          let active = balanced_active i s ready.steps e in
          let below = least (balanced_sheet i s) (balanced_serves i s ready.steps e) active in
          omega (arith, same_switching i s (balanced_sheet i s) active, balanced_cost i s ready.steps e),
    )

    -- The swaps are 0 exactly if no pattern with the same counts has a lower switching cost.
    pub swaps_zero : excess_switching_cost i s ≡ 0 ↔ NoBetterChoice i s
    unfolding sheet_length excess_switching_cost
    swaps_zero = (
      λ none r sized same. let counts = rw same at (switching_at_least i r) in omega arith,
      λ least.
          let plan = counts_of i s in
          let below = least (sheet_of i plan) (eq-eqb _ _ (sheet_length_lem i plan)) (plan_counts i plan counts_fit) in
          omega (arith, plan_switching_cost i plan counts_fit),
    )

    -- All three are 0 exactly if no sheet that serves costs less.
    pub all_zero : excess_operating_cost i s + excess_switching_cost i s + excess_of_counts i s ≡ 0 ↔ NoBetterSheet i s
    unfolding allowed_counts plan_cost planned_by
    all_zero = (
      λ none r f. omega (arith, points_together, exact_least ready r f),
      λ least. let best = least _ (plan_sheet_serves i (planned_by exact i) (planned_fits ready exact refl)) in omega (arith, points_together),
    )

  -- The exact planner's sheet has counts 0 too.
  pub exact_points : excess_of_counts i (sheet_of i (planned_by exact i)) ≡ 0
  unfolding excess_of_counts planned_by
  exact_points = rw (plan_counts i (planned_by exact i) (planned_fits ready exact refl)) (omega arith)
