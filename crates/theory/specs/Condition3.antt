-- Condition 3: over a list of allowed counts that keeps the rules with the ratio r (02 §8) the least plan costs at most r times as much as any
-- sheet that serves: `list_ratio`. For all counts r is 1, `exact_least`, and for the coarse ones 2, `coarse_twice`; of every planner that keeps the
-- rules it is `planner_bound`. The sheets are those with enough light (02 §2). The sheet of the least plan serves at the plan's cost,
-- `least_sheet`; the plan found digit by digit is the least plan, `threshold_plan_lem`; and an accepted card meets the hypotheses,
-- `accepted_plannable`.
use Rattle.std.specs.Prelude.{ℕ, ◌*◌, ◌^◌, ◌≤◌, ◌<◌, ◌≡◌, refl, true, List}
use Rattle.basics.specs.Core.{sym, ap, ◌∙◌, mul-le-mul_left, arith}
use Rattle.model.specs.Instance.{Instance, instance_of}
use Rattle.model.specs.Counts.{all_counts, coarse_counts}
use Rattle.model.specs.Sheets.{serves, sheet_cost, counts_of}
use Rattle.model.specs.Thesis.{counts_cost}
use Rattle.model.specs.Plans.{Allowed, LeastPlan, sheet_of, plan_cost, least_plan, least_cost}
use Rattle.model.specs.Planners.{Planner, ratio_of, planned_by, planned_cost}
use Rattle.model.specs.Calls.{Accepted}
use Rattle.model.specs.Promises.{KeepsRules}
use Rattle.laws.specs.Acceptance.{accepted_bounds}
use Rattle.laws.specs.CountMembers.{all_member}
use Rattle.thresholds.specs.Places.{last_place, Ascending, count_fits}
use Rattle.thresholds.specs.Thresholds.{threshold_plan}
use Rattle.theory.specs.Columns.{searched_plan, searched_cost}
use Rattle.laws.specs.Tables.{convex_test}
use Rattle.theory.specs.Hypotheses.{PlanFits, Plannable, LeastByCounts}
use Rattle.theory.specs.SheetLaws.{sheet_counts_fit, sheet_at_least, plan_sheet_serves, plan_cost_counts}
use Rattle.theory.specs.Least.{searched_least, searched_cost_lem}
use Rattle.theory.specs.ThresholdPlans.{threshold_searched}
use Rattle.theory.specs.Enumeration.{least_plan_lem, least_plan_unique}
use Rattle.theory.specs.Ratio.{ratio}
use Rattle.theory.specs.CountLists.{InRules, rules_grow, all_rules, coarse_rules, planner_rules}

module _ {i : Instance} (ready : Plannable i) where
  -- Plans over any list of allowed counts.
  module _ (counts : List ℕ) (asc : Ascending counts i.modules) where
    -- An allowed plan has a sheet that can be written.
    allowed_fits : {p : List ℕ} → Allowed i counts p → PlanFits i p
    allowed_fits a =
        record {
          steps = ready.steps;
          slotwise = a.slotwise;
          in_rack = λ t h. let (k, inside, here) = a.member t h in rw here at (count_fits asc k inside);
          served = a.served;
        }

    -- An allowed plan costs what its counts cost.
    pub allowed_cost : (p : List ℕ) → Allowed i counts p → plan_cost i p ≡ counts_cost i 0 p
    allowed_cost p a = plan_cost_counts i p (allowed_fits a)

    -- The least plan by counts is the least plan.
    pub by_counts_least : {p : List ℕ} → LeastByCounts i counts 0 p → LeastPlan i counts p
    by_counts_least {p} L =
        record {
          allowed = L.allowed;
          least = λ r a. omega (arith, allowed_cost p L.allowed, allowed_cost r a, L.least r a);
          first = λ r a e. L.first r a (omega (arith, allowed_cost p L.allowed, allowed_cost r a));
        }

    -- The dynamic program over the list gives the least plan and its cost (thesis 4.12, 5.7).
    searched_plan_lem : (searched_plan i counts 0 ≡ least_plan i counts) × (searched_cost i counts 0 ≡ least_cost i counts)
    searched_plan_lem =
        let L = searched_least i counts 0 asc ready.loads in
        let same = least_plan_unique i counts _ _ (by_counts_least L) (least_plan_lem i counts asc ready.loads) in
        let cost = searched_cost_lem i counts 0 asc ready.loads ∙ sym (allowed_cost (searched_plan i counts 0) L.allowed) in
        (same, cost ∙ ap (plan_cost i) same)

    -- The plan found digit by digit, in e rounds over a list with at most 2 ^ e places, is the least plan.
    pub threshold_plan_lem : (e : ℕ) → last_place counts < 2 ^ e → threshold_plan i counts 0 e ≡ least_plan i counts
    threshold_plan_lem e wide = threshold_searched i counts 0 asc ready.loads ready.convex e wide ∙ searched_plan_lem.0

    -- The least plan is the least plan by counts.
    pub least_by_counts : LeastByCounts i counts 0 (least_plan i counts)
    least_by_counts = rw searched_plan_lem.0 at (searched_least i counts 0 asc ready.loads)

    -- The least plan has a sheet that can be written.
    pub least_plan_fits : PlanFits i (least_plan i counts)
    least_plan_fits = allowed_fits (least_plan_lem i counts asc ready.loads).allowed

    -- The least plan costs what its counts cost.
    pub least_cost_counts : least_cost i counts ≡ counts_cost i 0 (least_plan i counts)
    least_cost_counts = plan_cost_counts i (least_plan i counts) least_plan_fits

    -- The sheet of the least plan serves, and costs what the plan costs.
    pub least_sheet :
        (serves i (sheet_of i (least_plan i counts)) ≡ true) × (sheet_cost i (sheet_of i (least_plan i counts)) ≡ least_cost i counts)
    unfolding plan_cost
    least_sheet = (plan_sheet_serves i (least_plan i counts) least_plan_fits, refl)

  -- The plan of every planner that keeps the rules has a sheet that can be written.
  pub planned_fits : (k : Planner) → KeepsRules k i → PlanFits i (planned_by k i)
  unfolding planned_by
  planned_fits k keeps = least_plan_fits _ (planner_rules k i ready.some keeps).ascending

  -- There is a least plan over all counts.
  pub exact_plan : LeastPlan i (all_counts i.modules) (least_plan i (all_counts i.modules))
  exact_plan = least_plan_lem i (all_counts i.modules) (all_rules i.modules ready.some).ascending ready.loads

  -- The counts of a sheet that serves are a plan over all counts.
  pub sheet_counts_allowed : (s : List ℕ) → serves i s ≡ true → Allowed i (all_counts i.modules) (counts_of i s)
  sheet_counts_allowed s e =
      let fit = sheet_counts_fit i s ready.steps e in
      record { slotwise = fit.slotwise; member = λ t h. (all_member i.modules _).0 (fit.in_rack t h); served = fit.served }

  -- The counts of a sheet that serves cost as a plan at most what the sheet costs.
  pub sheet_counts_cost : (s : List ℕ) → serves i s ≡ true → plan_cost i (counts_of i s) ≤ sheet_cost i s
  sheet_counts_cost s e =
      omega (arith, plan_cost_counts i (counts_of i s) (sheet_counts_fit i s ready.steps e), sheet_at_least i ready.convex s e)

  -- The one theorem of the ratio: over a list that keeps the rules with the ratio r the least plan costs at most r times as much as any sheet
  -- that serves (thesis 5.5 and 5.11, for whole ratios), whether the table falls or not.
  pub list_ratio :
      (counts : List ℕ) (r : ℕ) → InRules counts r i.modules →
      (s : List ℕ) → serves i s ≡ true → least_cost i counts ≤ r * sheet_cost i s
  list_ratio counts r rules s e =
      let asc = rules.ascending in
      let fit = sheet_counts_fit i s ready.steps e in
      let bound = ratio i counts 0 asc r (rules_grow rules) (counts_of i s) fit.in_rack fit.served in
      omega (arith, (searched_plan_lem counts asc).1, mul-le-mul_left r (sheet_at_least i ready.convex s e))

  -- Condition 3, exact: no sheet that serves costs less than the least plan over all counts (thesis 3.8), whose ratio is 1.
  pub exact_least : (s : List ℕ) → serves i s ≡ true → least_cost i (all_counts i.modules) ≤ sheet_cost i s
  exact_least s e = omega (arith, list_ratio _ 1 (all_rules i.modules ready.some) s e)

  -- Condition 3, coarse: the least plan over the coarse counts costs at most twice as much as any sheet that serves (thesis 5.8).
  pub coarse_twice : (s : List ℕ) → serves i s ≡ true → least_cost i (coarse_counts i.modules) ≤ 2 * sheet_cost i s
  coarse_twice = list_ratio _ 2 (coarse_rules i.modules ready.some)

-- Condition 3: a planner's cost is at most its ratio times what any sheet that serves costs.
pub planner_bound :
    (k : Planner) {i : Instance} → Plannable i → KeepsRules k i → (s : List ℕ) → serves i s ≡ true →
    planned_cost k i ≤ ratio_of k * sheet_cost i s
planner_bound k {i} ready keeps = list_ratio ready _ (ratio_of k) (planner_rules k i ready.some keeps)

-- An accepted card meets the hypotheses.
pub accepted_plannable : (c : List ℕ) → Accepted c → Plannable (instance_of c)
accepted_plannable c e =
    record {
      some = (accepted_bounds c e).modules.0;
      steps = omega (arith, (accepted_bounds c e).top_step.1);
      loads = (accepted_bounds c e).load;
      convex = (convex_test _ _).0 (accepted_bounds c e).convexity;
    }
