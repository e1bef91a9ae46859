-- The three numbers of a sheet that serves, from its cost, the modules that go on beyond the rises of its counts, the cost of its counts as a
-- plan, and the exact planner's cost.
use Rattle.std.specs.Prelude.{ℕ, ◌+◌, ◌-◌, ◌*◌, ◌≤◌, ◌≡◌, List}
use Rattle.basics.specs.Core.{sym, ◌∙◌, mul-le-mul, mul_comm, sub-le, le_trans, arith, eqb-true}
use mir.Syntax.{w64}
use mir.Val.{Fits}
use Rattle.basics.specs.Sums.{sum_at_most}
use Rattle.std.specs.Prelude.{Ok}
use Rattle.model.specs.declared.Points.{Points}
use Rattle.card.specs.Shows.{show_of}
use Rattle.model.specs.Sheets.{sheet_length, sheet_cost, counts_of}
use Rattle.model.specs.Thesis.{switching_price, counts_cost}
use Rattle.model.specs.Plans.{plan_cost}
use Rattle.model.specs.Planners.{exact, planned_cost}
use Rattle.model.specs.Explanation.{counts_operating_cost, counts_switching_cost, excess_operating_cost, excess_switching_cost, excess_of_counts}
use Rattle.model.specs.ExplainedPoints.{points_with}
use Rattle.laws.specs.Acceptance.{accepted_bounds}
use Rattle.theory.specs.Hypotheses.{Plannable, PlanFits}
use Rattle.theory.specs.CountCosts.{counts_cost_parts}
use Rattle.theory.specs.SheetLaws.{serves_parts, sheet_counts_fit, counts_length, plan_cost_counts}
use Rattle.theory.specs.Condition3.{accepted_plannable}
use Rattle.theory.specs.Explanations.{spread_whole, counts_whole}
use Rattle.card.specs.declared.Card.{Card}
use Rattle.plans.specs.PlanRequires.{PlanReady}
use Rattle.sheets.specs.SheetRequires.{SheetSized}
use Rattle.explanation.specs.Exchanges.{exchanged}
use Rattle.explanation.specs.ExplanationRequires.{CountsRoom, CountsKnown, Marked, PointsRoom}
use Rattle.explanation.proofs.SheetRows.{exchanged_most}
use Rattle.explanation.proofs.SwitchingExcess.{exchanged_cost}

module _ {card : Card} {sheet : List ℕ} {cost : ℕ} (m : Marked card sheet cost) where
  sheet_sized : SheetSized card sheet
  unfolding sheet_length
  sheet_sized = record { size = eqb-true _ _ ((serves_parts (show_of card) sheet).0 m.served).0 }

  plannable : Plannable (show_of card)
  plannable = accepted_plannable _ card.accepted

  counts_fit : PlanFits (show_of card) (counts_of (show_of card) sheet)
  counts_fit = sheet_counts_fit (show_of card) sheet plannable.steps m.served

  pub counts_room : {counts work : List ℕ} → PointsRoom card counts work → CountsRoom card sheet counts
  counts_room room = record { sized = sheet_sized; slotwise = room.slotwise }

  price_most : card.header.power_up + card.header.power_down ≤ 1000000000
  price_most = let bounds = accepted_bounds _ card.accepted in omega (arith, bounds.power_up, bounds.power_down)

  pub price_fits : Fits w64 (card.header.power_up + card.header.power_down)
  price_fits = record { fits = omega (arith, price_most) }

  -- At most the bytes of a sheet go on beyond the rises.
  exchanged_small : exchanged (show_of card) sheet ≤ 1024 * 200
  unfolding exchanged
  exchanged_small =
      let bounds = accepted_bounds _ card.accepted in
      let few = le_trans (sub-le (show_of card).slots 1) bounds.slots in
      le_trans (sum_at_most ((show_of card).slots - 1) (λ t _. exchanged_most (show_of card) sheet t)) (mul-le-mul few bounds.modules.1)

  -- The sheet's counts, as they are written.
  module _ {counts : List ℕ} (are : counts ≡ counts_of (show_of card) sheet) where
    pub counts_known : CountsKnown card sheet counts
    counts_known = record { sized = sheet_sized; counts_are = are }

    pub plan_ready : PlanReady card counts
    plan_ready =
        rw are (record {
          sized = record { slotwise = counts_fit.slotwise };
          in_rack = counts_fit.in_rack;
          served = counts_fit.served;
        })

    module _ {x : ℕ} (x-is : x ≡ exchanged (show_of card) sheet) where
      pub swaps_fits : Fits w64 (x * (card.header.power_up + card.header.power_down))
      swaps_fits =
          let few : x ≤ 1024 * 200 = omega (arith, exchanged_small) in
          record { fits = omega (arith, mul-le-mul few price_most) }

      -- The switching price for each of them is what the sheet's switching costs above that of its counts.
      swaps_are : x * (card.header.power_up + card.header.power_down) ≡ switching_price (show_of card) * exchanged (show_of card) sheet
      swaps_are = rw (x-is, card.header_is.up_is, card.header_is.down_is) (mul_comm (exchanged (show_of card) sheet) _)

      module _ {planned : ℕ} (planned-is : planned ≡ counts_cost (show_of card) 0 counts) where
        abbrev c : List ℕ
        c = counts_of (show_of card) sheet

        planned_parts : planned ≡ counts_operating_cost (show_of card) c + counts_switching_cost (show_of card) c
        planned_parts = planned-is ∙ rw are (counts_cost_parts (show_of card) c (counts_length (show_of card) sheet))

        -- What the sheet costs above its counts as a plan is its spread and its swaps.
        above_planned : planned + (excess_operating_cost (show_of card) sheet + x * (card.header.power_up + card.header.power_down)) ≡ cost
        unfolding sheet_cost excess_operating_cost
        above_planned =
            omega (
              arith,
              planned_parts,
              swaps_are,
              exchanged_cost (show_of card) sheet,
              spread_whole plannable sheet m.served,
            )

        pub planned_below : planned ≤ cost
        planned_below = omega (arith, above_planned)

        pub swaps_below : x * (card.header.power_up + card.header.power_down) ≤ cost - planned
        swaps_below = omega (arith, above_planned)

        module _ {least : ℕ} (least-is : least ≡ planned_cost exact (show_of card)) where
          planned_cost_lem : planned ≡ plan_cost (show_of card) c
          planned_cost_lem = planned-is ∙ rw are (sym (plan_cost_counts (show_of card) c counts_fit))

          pub least_below : least ≤ planned
          least_below = omega (arith, planned_cost_lem, counts_whole plannable sheet m.served)

          abbrev found : Points
          found =
              record {
                number = 0;
                spread = cost - planned - x * (card.header.power_up + card.header.power_down);
                swaps = x * (card.header.power_up + card.header.power_down);
                counts = planned - least;
              }

          pub three_numbers : found ≡ points_with (Ok 0) (show_of card) sheet
          unfolding points_with excess_switching_cost excess_of_counts
          three_numbers =
              let spread : found.spread ≡ excess_operating_cost (show_of card) sheet = omega (arith, above_planned) in
              let swaps : found.swaps ≡ excess_switching_cost (show_of card) sheet =
              omega (arith, swaps_are, exchanged_cost (show_of card) sheet) in
              let counts : found.counts ≡ excess_of_counts (show_of card) sheet = omega (arith, planned_cost_lem) in
              rw (spread, swaps, counts)
