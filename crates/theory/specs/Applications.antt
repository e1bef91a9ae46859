-- The hypotheses of the theorems can be met: they hold of document 01's example E, of a show whose table falls, of an accepted card, of the
-- whole sitting of the examples, and of card A with the catalogue module's table.
use Rattle.std.specs.Prelude.{ℕ, ◌*◌, ◌≤◌, ◌≡◌, refl, true, false, List, [], ◌∷◌, ◌++◌, leb, get_or, take, drop, replicate}
use Rattle.basics.specs.Core.{option_elim, arith, lit<}
use Rattle.basics.specs.Core.{leb-true}
use Rattle.basics.specs.Tests.{every, every_at}
use Rattle.basics.specs.Lists.{tabulate}
use Rattle.basics.specs.Members.{Each}
use Rattle.basics.specs.FirstPlace.{occurs, first_place, change_first}
use Rattle.model.specs.Instance.{Instance, instance_of, head_length, load_place, table_size, table_of}
use Rattle.model.specs.Counts.{all_counts, coarse_counts}
use Rattle.model.specs.Sheets.{off, serves, sheet_cost, active_at, counts_of}
use Rattle.model.specs.Thesis.{count_at, slot_cost, counts_cost}
use Rattle.model.specs.Plans.{least_plan, least_cost}
use Rattle.thresholds.specs.Thresholds.{threshold_plan}
use Rattle.theory.specs.Hypotheses.{Plannable}
use Rattle.theory.specs.SheetLaws.{sheet_at_least}
use Rattle.theory.specs.CountLists.{InRules, rules_hold, all_rules}
use Rattle.theory.specs.Condition3.{threshold_plan_lem, exact_least, list_ratio, coarse_twice, planner_bound, accepted_plannable}
use Rattle.theory.specs.Explanations.{spread_zero, swaps_zero, counts_zero}
use Rattle.theory.specs.Counterexamples.{example_e, steady_sheet, steady_serves}
use Rattle.model.specs.Planners.{exact, coarse, listed, planned_cost}
use Rattle.model.specs.Explanation.{counts_operating_cost, counts_switching_cost, excess_operating_cost, excess_switching_cost, excess_of_counts}
use Rattle.model.specs.Explanation.{NoBetterSpread, NoBetterChoice, NoBetterPlan}
use Rattle.model.specs.Acts.{read_lowest, is_unopened, is_opened, is_closed, submission_refused, act_spec}
use Rattle.model.specs.declared.Reply.{Reply}
use Rattle.model.specs.declared.Sitting.{Sitting}
use Rattle.model.specs.Answers.{number_of}
use Rattle.model.specs.SittingState.{lower_of, phase_of, lowest_of, sitting_after, seats_after}
use Rattle.model.specs.Sittings.{answer_to, marked_with, event_with, event_of, told, told_by, reply_with, reply_of, seats_at_exit}
use Rattle.model.specs.Sittings.{told_in_turn, left_by, StartsAfresh, from_unopened, from_opening, LentCard, told_from}
use Rattle.model.specs.Catalogue.{catalogue_bytes}
use Rattle.model.specs.Calls.{catalogue_table, answer, Accepted, table_at_exit}
use Rattle.model.specs.Promises.{OthersInOrder}
use Rattle.model.specs.Examples.{card_a, card_up, agrees}
use Rattle.model.specs.SittingExamples.{sitting_of, odd, whole_sitting}
use Rattle.theory.specs.SittingRuns.{any_sequence}
use Rattle.theory.specs.SittingBounds.{submissions_within, lowest_at_least}

-- Example E meets the hypotheses.
pub example_plannable : Plannable example_e
unfolding every
example_plannable =
    record {
      some = omega arith;
      steps = omega arith;
      loads = λ t h. leb-true _ _ (every_at 3 (λ t. leb (example_e.load t) 8) refl t h);
      convex = λ k h. absurd (omega arith);
    }

-- A sheet that has other modules active in the last slot than before.
abbrev moved_sheet : List ℕ
moved_sheet =
    1 ∷ 1 ∷ 1 ∷ 1 ∷ 1 ∷ off ∷ off ∷ off ∷
    1 ∷ 1 ∷ 1 ∷ off ∷ off ∷ off ∷ off ∷ off ∷
    off ∷ off ∷ off ∷ 1 ∷ 1 ∷ 1 ∷ 1 ∷ 1 ∷ []

moved_serves : serves example_e moved_sheet ≡ true
unfolding agrees serves
moved_serves = refl

-- A list of allowed counts whose first two gaps are as wide as the ratio 2 lets them be.
abbrev wide_counts : List ℕ
wide_counts = 0 ∷ 2 ∷ 6 ∷ 8 ∷ []

wide_rules : InRules wide_counts 2 example_e.modules
unfolding agrees
wide_rules = (rules_hold wide_counts 2 example_e.modules refl).0

-- The moved sheet costs 10 and its counts 7, and the least cost over the wide counts is 6.
costs_computed :
    (sheet_cost example_e moved_sheet ≡ 10) × (counts_cost example_e 0 (counts_of example_e moved_sheet) ≡ 7) × (least_cost example_e wide_counts ≡ 6)
unfolding agrees active_at counts_of count_at slot_cost counts_cost
costs_computed = (refl, refl, refl)

-- The counts of the moved sheet cost no more than the sheet: 7 ≤ 10.
pub sheet_at_least_applied : counts_cost example_e 0 (counts_of example_e moved_sheet) ≤ sheet_cost example_e moved_sheet
sheet_at_least_applied = sheet_at_least example_e example_plannable.convex moved_sheet moved_serves

-- The moved sheet costs 10, which is 5 above the least: 3 points are swaps, and 2 are counts.
moved_points : (excess_switching_cost example_e moved_sheet ≡ 3) × (excess_of_counts example_e moved_sheet ≡ 2)
unfolding agrees active_at counts_of count_at counts_switching_cost excess_switching_cost excess_of_counts
moved_points = (refl, refl)

-- So some pattern with the same counts has a lower switching cost.
pub swaps_zero_applied : NoBetterChoice example_e moved_sheet → ⊥
swaps_zero_applied least = absurd (omega (arith, (swaps_zero example_plannable moved_sheet moved_serves).1 least, moved_points.0))

-- And some plan that serves costs less than its counts.
pub counts_zero_applied : NoBetterPlan example_e moved_sheet → ⊥
counts_zero_applied least = absurd (omega (arith, (counts_zero example_plannable moved_sheet).1 least, moved_points.1))

-- Of example E the plan by thresholds, found in four rounds, is the least plan.
pub threshold_plan_applied : threshold_plan example_e (all_counts 8) 0 4 ≡ least_plan example_e (all_counts 8)
unfolding tabulate all_counts
threshold_plan_applied = threshold_plan_lem example_plannable (all_counts 8) (all_rules 8 (omega arith)).ascending 4 (lit< tt)

-- The exact plan costs no more than the steady sheet: 5 ≤ 5.
pub exact_least_applied : least_cost example_e (all_counts example_e.modules) ≤ sheet_cost example_e steady_sheet
exact_least_applied = exact_least example_plannable steady_sheet steady_serves

-- The least plan over the wide counts costs at most twice as much as the steady sheet: 6 ≤ 10.
pub list_ratio_applied : least_cost example_e wide_counts ≤ 2 * sheet_cost example_e steady_sheet
list_ratio_applied = list_ratio example_plannable wide_counts 2 wide_rules steady_sheet steady_serves

-- The plan limited to the list 0 2 4 8 with the ratio 2 costs at most twice as much too: 8 ≤ 10.
pub planner_bound_applied : planned_cost (listed (0 ∷ 2 ∷ 4 ∷ 8 ∷ []) 2) example_e ≤ 2 * sheet_cost example_e steady_sheet
unfolding agrees
planner_bound_applied = planner_bound (listed (0 ∷ 2 ∷ 4 ∷ 8 ∷ []) 2) example_plannable refl steady_sheet steady_serves

-- The coarse plan costs at most twice as much as the steady sheet: 8 ≤ 10.
pub coarse_twice_applied : least_cost example_e (coarse_counts example_e.modules) ≤ 2 * sheet_cost example_e steady_sheet
coarse_twice_applied = coarse_twice example_plannable steady_sheet steady_serves

-- A show of one slot with load 5 on 4 modules, where step 2 is cheap and the steps below are dear.
abbrev falling : Instance
falling =
    record {
      modules = 4;
      top_step = 2;
      slots = 1;
      power_up = 0;
      power_down = 0;
      table = λ k. get_or (20 ∷ 10 ∷ 1 ∷ []) k 0;
      load = λ t. 5;
    }

falling_plannable : Plannable falling
falling_plannable =
    record {
      some = omega arith;
      steps = omega arith;
      loads = λ t h. omega arith;
      convex = λ k h. let first : k ≡ 0 = omega arith in rw first (omega arith);
    }

-- A sheet with three modules at step 2.
abbrev three_at_top : List ℕ
three_at_top = 2 ∷ 2 ∷ 2 ∷ off ∷ []

-- The sheet costs 3, none of it spread, and the least cost over the coarse counts is 4; with just the load it would be 31.
falling_computed :
    (serves falling three_at_top ≡ true) × (excess_operating_cost falling three_at_top ≡ 0) × (sheet_cost falling three_at_top ≡ 3) ×
    (least_cost falling (coarse_counts falling.modules) ≡ 4)
unfolding agrees serves active_at counts_of count_at counts_operating_cost excess_operating_cost
falling_computed = (refl, refl, refl, refl)

-- No sheet that serves with the same three modules active costs less; with just the load it costs 12.
pub spread_zero_applied : NoBetterSpread falling three_at_top
spread_zero_applied = (spread_zero falling_plannable three_at_top falling_computed.0).0 falling_computed.1

-- On a table that falls the coarse plan costs at most twice as much too: 4 ≤ 6.
pub falling_twice_applied : least_cost falling (coarse_counts falling.modules) ≤ 2 * sheet_cost falling three_at_top
falling_twice_applied = coarse_twice falling_plannable three_at_top falling_computed.0

-- Three modules at step 1, for a card of 4 modules with the top step 2, the table 1 1 4, the load 3 and the prices 1 and 0.
abbrev three_at_one : List ℕ
three_at_one = 1 ∷ 1 ∷ 1 ∷ off ∷ []

-- The card is accepted, the sheet serves at cost 6, and the coarse plan costs 7.
up_computed :
    Accepted card_up × (serves (instance_of card_up) three_at_one ≡ true) × (sheet_cost (instance_of card_up) three_at_one ≡ 6) ×
    (planned_cost coarse (instance_of card_up) ≡ 7)
unfolding agrees serves
up_computed = (refl, refl, refl, refl)

-- So on an accepted card the coarse plan costs at most twice as much as the sheet: 7 ≤ 12.
pub accepted_bound_applied : planned_cost coarse (instance_of card_up) ≤ 2 * sheet_cost (instance_of card_up) three_at_one
accepted_bound_applied = planner_bound coarse (accepted_plannable card_up up_computed.0) refl three_at_one up_computed.1

-- The whole sitting of the examples starts from a sitting that counts as unopened, and all its acts on a card are on card A.
whole_starts : StartsAfresh (sitting_of 0 0 0 0) (odd ∷ odd ∷ []) whole_sitting
unfolding phase_of
whole_starts = from_unopened whole_sitting refl

whole_lent : Each (LentCard card_a) whole_sitting
unfolding act_spec
whole_lent =
    let later : Each (LentCard card_a) (drop 20 whole_sitting) = (tt, (tt, ((refl, tt), (tt, (tt, (tt, ((refl, tt), (tt, (tt, ((refl, tt), (tt, tt))))))))))) in
    (tt, ((refl, tt), (tt, (tt, (tt, (tt, (tt, (tt, ((refl, tt), ((refl, tt), ((refl, tt), (tt, (tt, (tt, ((refl, tt), ((refl, tt), ((refl, tt), (tt, (tt, (tt, later))))))))))))))))))))

-- So the theorems on sequences speak of it.
pub sequence_applied : told_in_turn (sitting_of 0 0 0 0) (odd ∷ odd ∷ []) whole_sitting ≡ told_from 2 [] whole_sitting
sequence_applied = any_sequence whole_starts

-- What the supervisor reads of candidate 7 after it.
abbrev lowest_of_seven : Reply
lowest_of_seven =
    let left = left_by (sitting_of 0 0 0 0) (odd ∷ odd ∷ []) whole_sitting in
    reply_of left.0 left.1 (read_lowest 0 7)

-- The candidate's sheet of 37 points is told as the lowest, and the least cost is not above it: 32 ≤ 37.
lowest_told : (lowest_of_seven.marked ≡ 1) × (lowest_of_seven.cost ≡ 37)
unfolding agrees occurs first_place change_first is_unopened is_opened is_closed submission_refused event_with event_of lower_of phase_of lowest_of
    sitting_after seats_after act_spec answer_to marked_with told told_by reply_with reply_of seats_at_exit option_elim left_by
lowest_told = (refl, refl)

pub lowest_applied : planned_cost exact (instance_of card_a) ≤ lowest_of_seven.cost
lowest_applied = lowest_at_least card_a whole_starts whole_lent 0 7 lowest_told.0

-- Without their first act the acts start afresh with any sitting, by their opening: here with a closed one.
opening_starts : StartsAfresh (sitting_of 2 3 1 32) (odd ∷ odd ∷ []) (drop 1 whole_sitting)
unfolding agrees answer_to act_spec
opening_starts = from_opening _ _ _ _ _ _ 32 refl

pub opening_applied : told_in_turn (sitting_of 2 3 1 32) (odd ∷ odd ∷ []) (drop 1 whole_sitting) ≡ told_from 2 [] (drop 1 whole_sitting)
opening_applied = any_sequence opening_starts

-- The sitting that they leave is open, and its allowance of one is spent: 1 ≤ 1.
abbrev left_open : Sitting
left_open = (left_by (sitting_of 2 3 1 32) (odd ∷ odd ∷ []) (drop 1 whole_sitting)).0

left_computed : (is_unopened (phase_of left_open.state) ≡ false) × (left_open.submissions ≡ 1) × (left_open.allowance ≡ 1)
unfolding lowest_told
left_computed = (refl, refl, refl)

pub submissions_applied : left_open.submissions ≤ left_open.allowance
submissions_applied = submissions_within opening_starts left_computed.0

-- Card A with the catalogue module's table: what the catalogue call wrote for top step 2 stands where its table stands.
abbrev catalogue_a : List ℕ
catalogue_a = take head_length card_a ++ (catalogue_bytes 2 ++ drop (load_place 2 0) card_a)

-- It meets what the call's contract asks of a card, and its other fields are in order.
pub catalogue_applied :
    (number_of (answer (catalogue_table 2 (replicate 12 7))) ≡ 0) × ((instance_of catalogue_a).top_step ≡ 2) ×
    (table_of catalogue_a ≡ take (table_size 2) (table_at_exit (catalogue_table 2 (replicate 12 7)))) × OthersInOrder catalogue_a
unfolding agrees
catalogue_applied = (refl, refl, refl, record { others = refl; power_up = omega arith; power_down = omega arith })
