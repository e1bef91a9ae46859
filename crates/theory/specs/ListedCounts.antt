-- Racks that switch in groups, on cards (document 02, §8): the planners of document 01 are two of these lists, `coarse_listed`, `exact_listed`; the
-- list of all counts is the only one with ratio 1, `ratio_one_list`; and no sheet that keeps to a list costs less than its plan, `within_least`.
use Rattle.std.specs.Prelude.{ℕ, zero, suc, ◌+◌, ◌≤◌, ◌<◌, ◌≡◌, refl, true, List, length}
use Rattle.basics.specs.Core.{add-one, arith}
use Rattle.basics.specs.Lists.{equal_tabulate}
use Rattle.model.specs.Instance.{Instance, instance_of}
use Rattle.model.specs.Counts.{all_counts, coarse_counts}
use Rattle.model.specs.CountRules.{keeps_rules}
use Rattle.model.specs.Sheets.{serves, sheet_cost, counts_of}
use Rattle.model.specs.Plans.{Allowed}
use Rattle.model.specs.Planners.{Planner, exact, coarse, listed, allowed_counts, ratio_of, planned_by, planned_cost}
use Rattle.model.specs.Calls.{Accepted}
use Rattle.model.specs.Promises.{KeepsRules, CountsWithin}
use Rattle.model.specs.RelatedShows.{PlannedAt, PlannedAs}
use Rattle.laws.specs.Acceptance.{accepted_bounds}
use Rattle.thresholds.specs.Places.{count_at_place, last_place, length_fits}
use Rattle.theory.specs.CountLists.{InRules, rules_grow, rules_hold, rules_kept, planner_rules}
use Rattle.theory.specs.SheetLaws.{sheet_counts_fit}
use Rattle.theory.specs.Enumeration.{least_plan_lem}
use Rattle.theory.specs.Condition3.{accepted_plannable, sheet_counts_cost}
use Rattle.theory.specs.CourseBook.{planned_at, planned_as}

-- The counts allowed a planner for a show and its ratio, as a list that is handed in.
abbrev as_listed : Planner → Instance → Planner
as_listed k i = listed (allowed_counts k i.modules) (ratio_of k)

-- On a rack of 1 to 200 modules this list keeps the rules where the planner does.
listed_keeps : (k : Planner) (i : Instance) → 1 ≤ i.modules → i.modules ≤ 200 → KeepsRules k i → KeepsRules (as_listed k i) i
unfolding allowed_counts
listed_keeps k i some most keeps =
    let rules = planner_rules k i some keeps in rules_kept rules (omega (arith, length_fits rules.ascending)) (ratio_most k keeps)
  where
    ratio_most : (k : Planner) → KeepsRules k i → ratio_of k ≤ 200
    ratio_most exact keeps = omega arith
    ratio_most coarse keeps = omega arith
    ratio_most (listed l r) keeps = (rules_hold l r _ keeps).2

-- Two planners give a card the same cost and the same plan.
abbrev SamePlan : (k l : Planner) → (card : List ℕ) → Type 0
SamePlan k l c = (x : ℕ) × (p : List ℕ) × PlannedAt k c x × PlannedAs k c p × PlannedAt l c x × PlannedAs l c p

-- A planner and the list of its own counts with its own ratio give an accepted card the same cost and plan.
listed_same : (k : Planner) (c : List ℕ) → Accepted c → KeepsRules k (instance_of c) → SamePlan k (as_listed k (instance_of c)) c
unfolding allowed_counts planned_by
listed_same k c given keeps =
    let (some, most) = (accepted_bounds c given).modules in
    let l = as_listed k (instance_of c) in
    let own = listed_keeps k (instance_of c) some most keeps in
    (_, _, planned_at k c given keeps, planned_as k c given keeps, planned_at l c given own, planned_as l c given own)

-- 'The powers of two are the list with r = 2', and all counts are the one with r = 1.
pub coarse_listed : (c : List ℕ) → Accepted c → SamePlan coarse (listed (coarse_counts (instance_of c).modules) 2) c
unfolding allowed_counts
coarse_listed c given = listed_same coarse c given refl

pub exact_listed : (c : List ℕ) → Accepted c → SamePlan exact (listed (all_counts (instance_of c).modules) 1) c
unfolding allowed_counts
exact_listed c given = listed_same exact c given refl

-- No sheet that serves, with counts that are all allowed the planner, costs less than the planner's plan.
pub within_least :
    (k : Planner) (c : List ℕ) → Accepted c → KeepsRules k (instance_of c) → (s : List ℕ) → serves (instance_of c) s ≡ true →
    CountsWithin (allowed_counts k (instance_of c).modules) c s → planned_cost k (instance_of c) ≤ sheet_cost (instance_of c) s
within_least k c given keeps s e within =
    let i = instance_of c in
    let ready = accepted_plannable c given in
    let fit = sheet_counts_fit i s ready.steps e in
    let own : Allowed i (allowed_counts k i.modules) (counts_of i s) =
    record { slotwise = fit.slotwise; member = within; served = fit.served } in
    let least = (least_plan_lem i _ (planner_rules k i ready.some keeps).ascending ready.loads).least (counts_of i s) own in
    omega (arith, sheet_counts_cost ready s e)

-- With ratio 1 each entry is its place.
entry_is : {l : List ℕ} {m : ℕ} → InRules l 1 m → (j : ℕ) → j < length l → count_at_place l j ≡ j
entry_is rules zero h = rules.ascending.first
entry_is {l} rules (suc j) h =
    let rise = rules.ascending.rises j (omega arith) in
    let next : count_at_place l (j + 1) ≡ j + 1 = omega (arith, entry_is rules j (omega arith), rules_grow rules j (omega arith)) in
    rw (add-one j) at next

-- So the only list with ratio 1 is that of all counts.
pub ratio_one_list : (l : List ℕ) (m : ℕ) → keeps_rules l 1 m ≡ true → l ≡ all_counts m
unfolding all_counts
ratio_one_list l m e =
    let rules = (rules_hold l 1 m e).0 in
    let asc = rules.ascending in
    let size : length l ≡ m + 1 = omega (arith, asc.two, asc.last, entry_is rules (last_place l) (omega (arith, asc.two))) in
    equal_tabulate size (λ j h. entry_is rules j (omega arith))
