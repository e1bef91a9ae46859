-- Shows and cards on which the conclusion of a theorem or of a clause fails without one of its hypotheses, or with a stronger conclusion.
use Rattle.std.specs.Prelude.{ℕ, zero, suc, ◌+◌, ◌*◌, ◌^◌, ◌≤◌, ◌<◌, max, ◌≡◌, refl, true, false, List, [], ◌∷◌, ◌++◌, length, get_or, take, set, leb}
use Rattle.basics.specs.Core.{arith}
use Rattle.basics.specs.Core.{lit<, leb-true}
use Rattle.basics.specs.Tests.{every, every_at}
use Rattle.basics.specs.Sums.{sum}
use Rattle.basics.specs.Ranges.{least_over, first_over}
use Rattle.basics.specs.Backwards.{from_end, back_to}
use Rattle.basics.specs.Lists.{tabulate, rows}
use Rattle.basics.specs.Bytes.{little_endian, bytes_of}
use Rattle.model.specs.Instance.{Instance, instance_of, top_step_place, head_length, table_of}
use Rattle.model.specs.MoreLight.{least_from, active_step}
use Rattle.model.specs.Counts.{can_serve, operating_cost, all_counts, coarse_counts, rounded_count, rounded_by_cases}
use Rattle.model.specs.CountRules.{gap_after}
use Rattle.model.specs.Sheets.{off, sheet_length, sheet_entries, sheet_light, serves, step_cost, sheet_operating_cost, sheet_cost, active_at, counts_of}
use Rattle.model.specs.Thesis.{count_at, slot_cost, counts_cost}
use Rattle.model.specs.Plans.{plan_cost, plan_serves, least_cost}
use Rattle.model.specs.Explanation.{counts_operating_cost}
use Rattle.model.specs.Catalogue.{catalogue_entry, catalogue_bytes}
use Rattle.model.specs.Examples.{card_a, agrees}
use Rattle.laws.specs.Tables.{Convex}
use Rattle.laws.specs.LeastSteps.{lowest_step}
use Rattle.thresholds.specs.Places.{count_at_place, last_place, Ascending, GrowsBy}
use Rattle.theory.specs.Columns.{served_or_above, from_top, best_place, column, searched_cost}
use Rattle.thresholds.specs.Thresholds.{is_less, judge, first_lead, carried, raised_place, lead_before, side_at, forward, backward, rounds, threshold_plan}
use Rattle.theory.specs.Hypotheses.{LoadsFit, Plannable, PlanFits, Entry, active_in, light_in, row_cost}
use Rattle.theory.specs.CountLists.{InRules, rules_hold, all_rules}

-- A show of two modules and no slot, with a table F(0) to F(2).
abbrev of_table : List ℕ → Instance
of_table f =
    record {
      modules = 2;
      top_step = 2;
      slots = 0;
      power_up = 0;
      power_down = 0;
      table = λ k. get_or f k 0;
      load = λ t. 0;
    }

-- Two tables that are not convex.
abbrev concave : Instance
concave = of_table (0 ∷ 2 ∷ 3 ∷ [])

abbrev peaked : Instance
peaked = of_table (0 ∷ 5 ∷ 1 ∷ [])

-- A convex table.
abbrev straight : Instance
straight = of_table (0 ∷ 2 ∷ 4 ∷ [])

-- A row with one module at step 0 and one at step 2.
abbrev uneven_row : ℕ → ℕ
uneven_row k = get_or (0 ∷ 2 ∷ []) k 0

-- Without convexity a row of entries can cost less than the operating cost of its count: 3, and not 4.
pub row_needs_convex :
    ((k : ℕ) → Entry concave (uneven_row k)) ×
    (row_cost concave 2 uneven_row < operating_cost concave (active_in 2 uneven_row) (light_in 2 uneven_row))
unfolding sum active_in light_in row_cost step_cost operating_cost least_over least_from
row_needs_convex = (entry, lit< tt)
  where
    entry : (k : ℕ) → Entry concave (uneven_row k)
    entry zero = refl
    entry (suc zero) = refl
    entry (suc (suc k)) = refl

-- Without convexity the active step of step 1 can be above both step 1 and the lowest step: 2, where these are 1 and 0.
pub greater_needs_convex : (active_step peaked 1 ≡ 2) × (max 1 (lowest_step peaked) ≡ 1)
unfolding least_over first_over least_from active_step
greater_needs_convex = (refl, refl)

-- A show of two modules and one slot with load 2, with a table F(0) to F(2).
abbrev with_load : List ℕ → Instance
with_load f =
    record {
      modules = 2;
      top_step = 2;
      slots = 1;
      power_up = 0;
      power_down = 0;
      table = λ k. get_or f k 0;
      load = λ t. 2;
    }

-- Without convexity a sheet that serves can cost less to operate than its counts, 3 and not 4: the difference would be cut off.
pub spread_needs_convex :
    let i = with_load (0 ∷ 2 ∷ 3 ∷ []) in
    let s : List ℕ = 0 ∷ 2 ∷ [] in
    (serves i s ≡ true) × (sheet_operating_cost i s < counts_operating_cost i (counts_of i s))
unfolding agrees serves active_at counts_of count_at counts_operating_cost
spread_needs_convex = (refl, lit< tt)

-- So can a sheet with too little light on a convex table: 0 and not 2.
pub spread_needs_light :
    let i = with_load (0 ∷ 1 ∷ 3 ∷ []) in
    let s : List ℕ = 0 ∷ 0 ∷ [] in
    Convex i.top_step i.table × (sheet_length i s ≡ true) × (sheet_entries i s ≡ true) × (sheet_light i s ≡ false) ×
    (sheet_operating_cost i s < counts_operating_cost i (counts_of i s))
unfolding agrees active_at counts_of count_at counts_operating_cost
spread_needs_light = (λ k h. let first : k ≡ 0 = omega arith in rw first (omega arith), refl, refl, refl, lit< tt)

-- Document 01's example E.
abbrev pub example_e : Instance
example_e =
    record {
      modules = 8;
      top_step = 1;
      slots = 3;
      power_up = 1;
      power_down = 0;
      table = λ k. 0;
      load = λ t. get_or (5 ∷ 3 ∷ 5 ∷ []) t 0;
    }

-- A sheet that keeps five modules active.
abbrev pub steady_sheet : List ℕ
steady_sheet =
    1 ∷ 1 ∷ 1 ∷ 1 ∷ 1 ∷ off ∷ off ∷ off ∷
    1 ∷ 1 ∷ 1 ∷ 0 ∷ 0 ∷ off ∷ off ∷ off ∷
    1 ∷ 1 ∷ 1 ∷ 1 ∷ 1 ∷ off ∷ off ∷ off ∷ []

pub steady_serves : serves example_e steady_sheet ≡ true
unfolding agrees serves
steady_serves = refl

-- The least cost over all counts is 5, over the coarse ones 8, and the sheet costs 5.
costs_computed :
    (least_cost example_e (all_counts example_e.modules) ≡ 5) × (least_cost example_e (coarse_counts example_e.modules) ≡ 8) ×
    (sheet_cost example_e steady_sheet ≡ 5)
unfolding agrees
costs_computed = (refl, refl, refl)

-- The coarse plan may cost more than a sheet that serves: here 8 against 5.
pub ratio_one :
    (s : List ℕ) × (serves example_e s ≡ true) × (1 * sheet_cost example_e s < least_cost example_e (coarse_counts example_e.modules))
ratio_one = (steady_sheet, steady_serves, omega (arith, costs_computed))

-- The exact plan does not cost less than every sheet that serves: here one costs as much.
pub exact_attained :
    (s : List ℕ) × (serves example_e s ≡ true) × (sheet_cost example_e s ≡ least_cost example_e (all_counts example_e.modules))
exact_attained = (steady_sheet, steady_serves, omega (arith, costs_computed))

-- A show of one slot, where both steps cost the same and a module that goes on costs 1.
abbrev level : (modules entry load : ℕ) → Instance
level m f l = record { modules = m; top_step = 1; slots = 1; power_up = 1; power_down = 0; table = λ k. f; load = λ t. l }

level_plannable : (m f l : ℕ) → 1 ≤ m → l ≤ m → Plannable (level m f l)
level_plannable m f l some fits =
    record { some = some; steps = omega arith; loads = λ t h. omega arith; convex = λ k h. absurd (omega arith) }

-- A list of allowed counts that has 0 and the full rack only.
abbrev none_or_all : ℕ → List ℕ
none_or_all m = 0 ∷ m ∷ []

none_or_all_ascending : (m : ℕ) → 1 ≤ m → Ascending (none_or_all m) m
none_or_all_ascending m some =
    record { two = omega arith; first = refl; last = refl; rises = λ j h. let first : j ≡ 0 = omega arith in rw first (omega arith) }

-- A list with a wide gap after 0, and one with a wide gap after 1.
abbrev wide_first : List ℕ
wide_first = 0 ∷ 4 ∷ 8 ∷ []

abbrev wide_gap : List ℕ
wide_gap = 0 ∷ 1 ∷ 8 ∷ []

-- The least plan over a list costs more than r times as much as some sheet that serves.
abbrev BoundFails : Instance → List ℕ → (r : ℕ) → Type 0
BoundFails i counts r = (s : List ℕ) × (serves i s ≡ true) × (r * sheet_cost i s < least_cost i counts)

-- It costs exactly r times as much as some sheet that serves.
abbrev BoundAttained : Instance → List ℕ → (r : ℕ) → Type 0
BoundAttained i counts r = (s : List ℕ) × (serves i s ≡ true) × (r * sheet_cost i s ≡ least_cost i counts)

-- The costs are 4 against 1, 8 against 2, and 2 against 1.
bounds_computed :
    BoundFails (level 8 0 1) wide_first 2 × BoundFails (level 8 0 2) wide_gap 2 × BoundAttained (level 2 0 1) (none_or_all 2) 2
unfolding agrees serves
bounds_computed = (
  (1 ∷ off ∷ off ∷ off ∷ off ∷ off ∷ off ∷ off ∷ [], refl, lit< tt),
  (1 ∷ 1 ∷ off ∷ off ∷ off ∷ off ∷ off ∷ off ∷ [], refl, lit< tt),
  (1 ∷ off ∷ [], refl, refl),
)

-- Over a list that grows by slightly more than 2 the least plan may cost more than twice as much as a sheet that serves: here 4
-- against 1.
pub wider_gaps :
    Plannable (level 8 0 1) × Ascending wide_first 8 ×
    ((j : ℕ) → j + 1 < length wide_first → count_at_place wide_first (j + 1) ≤ 2 * (count_at_place wide_first j + 2)) ×
    BoundFails (level 8 0 1) wide_first 2
unfolding agrees
wider_gaps = (
  level_plannable 8 0 1 (omega arith) (omega arith),
  (rules_hold wide_first 4 8 refl).0.ascending,
  λ j h. leb-true _ _ (every_at 2 (λ k. leb (get_or wide_first (k + 1) 0) (2 * (get_or wide_first k 0 + 2))) refl j (omega arith)),
  bounds_computed.0,
)

-- Its first entry is above the ratio 2, and it keeps all other rules of 02 §8.
pub first_above_ratio :
    Plannable (level 8 0 1) × Ascending wide_first 8 ×
    ((j : ℕ) → j + 2 < length wide_first → gap_after wide_first (j + 1) ≤ 2 * gap_after wide_first j) × BoundFails (level 8 0 1) wide_first 2
first_above_ratio =
    (wider_gaps.0, wider_gaps.1, λ j h. let first : j ≡ 0 = omega arith in rw first (omega arith), wider_gaps.3)

-- So it may over a list with a gap of more than twice the gap before it, with all other rules kept: here 8 against 2.
pub gap_above_ratio : Plannable (level 8 0 2) × Ascending wide_gap 8 × (count_at_place wide_gap 1 ≤ 2) × BoundFails (level 8 0 2) wide_gap 2
unfolding agrees
gap_above_ratio = (
  level_plannable 8 0 2 (omega arith) (omega arith),
  (rules_hold wide_gap 7 8 refl).0.ascending,
  omega arith,
  bounds_computed.1,
)

-- Over a list that keeps all rules the least plan may cost exactly the ratio times as much as a sheet that serves: here 2 against 1.
pub ratio_attained : Plannable (level 2 0 1) × InRules (none_or_all 2) 2 2 × BoundAttained (level 2 0 1) (none_or_all 2) 2
unfolding agrees
ratio_attained = (level_plannable 2 0 1 (omega arith) (omega arith), (rules_hold (none_or_all 2) 2 2 refl).0, bounds_computed.2)

-- More modules may cost more in total, though their average falls: here 2 against 1.
pub total_rises : operating_cost (level 2 1 1) 1 1 < operating_cost (level 2 1 1) 2 1
unfolding least_over least_from operating_cost
total_rises = lit< tt

-- A plan costs more than its counts with one module active before the first slot: here 1 against 0.
pub all_off_before : PlanFits (level 2 0 1) (1 ∷ []) × (counts_cost (level 2 0 1) 1 (1 ∷ []) < plan_cost (level 2 0 1) (1 ∷ []))
unfolding agrees count_at slot_cost counts_cost
all_off_before = (
  record {
    steps = omega arith;
    slotwise = refl;
    in_rack = λ t h. let first : t ≡ 0 = omega arith in rw first (omega arith);
    served = refl;
  },
  lit< tt,
)

-- From a start count the dynamic program may cost more than twice as much as a plan without the price of the start: here 1 against 0.
pub start_has_a_price :
    Plannable (level 2 0 1) × Ascending (none_or_all 2) 2 × GrowsBy 2 (none_or_all 2) ×
    PlanFits (level 2 0 1) (1 ∷ []) × (2 * counts_cost (level 2 0 1) 1 (1 ∷ []) < searched_cost (level 2 0 1) (none_or_all 2) 1)
unfolding sum can_serve operating_cost count_at slot_cost counts_cost served_or_above from_top best_place column searched_cost least_over least_from
start_has_a_price = (
  level_plannable 2 0 1 (omega arith) (omega arith),
  none_or_all_ascending 2 (omega arith),
  λ j h. let first : j ≡ 0 = omega arith in rw first (omega arith),
  all_off_before.0,
  lit< tt,
)

-- A show of three modules and one slot with load 3, and a table that is not convex.
abbrev bent : Instance
bent =
    record {
      modules = 3;
      top_step = 3;
      slots = 1;
      power_up = 0;
      power_down = 0;
      table = λ k. get_or (0 ∷ 0 ∷ 1 ∷ 1 ∷ []) k 0;
      load = λ t. 3;
    }

-- Without convexity the operating cost need not be convex in the count: two modules cost 1, and one and three cost 1 and 0.
pub running_needs_convex : operating_cost bent 1 3 + operating_cost bent 3 3 < 2 * operating_cost bent 2 3
unfolding least_over least_from operating_cost
running_needs_convex = lit< tt

-- Nor is it convex from a count on that cannot serve the load: a load of 1 with no, one and two modules costs 0, 2 and 2.
pub running_needs_served :
    Convex straight.top_step straight.table × (can_serve straight 0 1 ≡ false) ×
    (operating_cost straight 0 1 + operating_cost straight 2 1 < 2 * operating_cost straight 1 1)
unfolding least_over least_from can_serve operating_cost
running_needs_served = (λ k h. let first : k ≡ 0 = omega arith in rw first (omega arith), refl, lit< tt)

-- Nor need the plan by thresholds be the least: one module, which costs 1, and not three, which cost 0. The list is all counts, and two rounds
-- are as many as it needs.
pub threshold_needs_convex :
    LoadsFit bent × Ascending (all_counts 3) 3 × (last_place (all_counts 3) < 2 ^ 2) × (plan_serves bent (3 ∷ []) ≡ true) ×
    (counts_cost bent 0 (3 ∷ []) < counts_cost bent 0 (threshold_plan bent (all_counts 3) 0 2))
unfolding agrees count_at slot_cost counts_cost threshold_plan rounds backward forward from_end back_to side_at lead_before judge carried raised_place
    first_lead is_less
threshold_needs_convex = (λ t h. omega arith, (all_rules 3 (omega arith)).ascending, lit< tt, refl, lit< tt)

-- With fewer rounds than the list has digits the plan by thresholds need not serve.
pub threshold_needs_rounds :
    Plannable (level 2 0 1) × Ascending (none_or_all 2) 2 × (plan_serves (level 2 0 1) (threshold_plan (level 2 0 1) (none_or_all 2) 0 0) ≡ false)
unfolding every tabulate can_serve plan_serves threshold_plan rounds
threshold_needs_rounds = (level_plannable 2 0 1 (omega arith) (omega arith), none_or_all_ascending 2 (omega arith), refl)

-- A head with top step 3, and behind it what the catalogue call writes for top step 2, and nothing more.
abbrev cut_behind_table : List ℕ
cut_behind_table = set (take head_length card_a) top_step_place 3 ++ catalogue_bytes 2

-- A card with another top step than the call's may have the call's bytes where its table stands, and its entries are not all the rule's: F(3) is
-- read as 0.
pub other_top_step :
    (table_of cut_behind_table ≡ catalogue_bytes 2) × ((instance_of cut_behind_table).top_step ≡ 3) × ((instance_of cut_behind_table).table 3 < catalogue_entry 3)
unfolding rows little_endian bytes_of instance_of catalogue_entry catalogue_bytes
other_top_step = (refl, refl, lit< tt)

-- The course book's list of cases ends at 200, and it is for the counts of a rack: for 129 modules of a rack of 201 it gives 200 and not 201,
-- and for 2 modules of a rack of 1 it gives 1, where no allowed count is large enough.
pub list_for_racks : (rounded_by_cases 201 129 < rounded_count 201 129) × (rounded_count 1 2 < rounded_by_cases 1 2)
unfolding agrees
list_for_racks = (lit< tt, lit< tt)
