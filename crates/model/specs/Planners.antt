-- The planners as data, `Planner`, with a table for each thing in which they differ: the counts allowed, the work bytes, the rules of a list and
-- the ratio; and the plan and the cost of each (document 01, 'The plans'; 02 §8).
use Rattle.std.specs.Prelude.{ℕ, ◌+◌, ◌*◌, Bool, true, List, length}
use Rattle.model.specs.Instance.{Instance}
use Rattle.model.specs.Counts.{all_counts, coarse_counts}
use Rattle.model.specs.CountRules.{keeps_rules}
use Rattle.model.specs.Plans.{least_plan, least_cost}

-- The planners: the exact and the coarse one, and one over a list of counts that is handed in with a ratio (02 §8: 'A rack that switches in
-- groups').
pub data Planner : Type 0 where
  exact : Planner
  coarse : Planner
  listed : (counts : List ℕ) (ratio : ℕ) → Planner

-- The counts allowed a planner in a rack of m: 'all from 0 to m or the coarse ones', or those of its list: 'The plan limited to the list'.
unfoldable pub allowed_counts : Planner → (m : ℕ) → List ℕ
allowed_counts exact m = all_counts m
allowed_counts coarse m = coarse_counts m
allowed_counts (listed l r) m = l

-- The work bytes that a planner asks for: 'at least (m + 1)T bytes for exact, 10T for coarse', and with a list 'one byte for each entry and
-- slot'.
unfoldable pub work_bytes : Planner → Instance → ℕ
work_bytes exact i = (i.modules + 1) * i.slots
work_bytes coarse i = 10 * i.slots
work_bytes (listed l r) i = length l * i.slots

-- A planner's list and ratio keep the rules (02 §8); the exact and the coarse planner have none to be judged.
abbrev pub keeps_list : Planner → Instance → Bool
keeps_list exact i = true
keeps_list coarse i = true
keeps_list (listed l r) i = keeps_rules l r i.modules

-- How many times the least cost of a sheet a planner's cost may be (document 00, condition 3): the exact planner's is the least, the
-- coarse one's 'at most twice the least', that of a list with the ratio r 'at most r times the least over all sheets'.
abbrev pub ratio_of : Planner → ℕ
ratio_of exact = 1
ratio_of coarse = 2
ratio_of (listed l r) = r

-- The plan that a planner writes: 'each plan is least among the plans that serve every load with the counts allowed it'.
unfoldable pub planned_by : Planner → Instance → List ℕ
planned_by k i = least_plan i (allowed_counts k i.modules)

-- The cost of a planner's plan (01: its 'figure').
abbrev pub planned_cost : Planner → Instance → ℕ
planned_cost k i = least_cost i (allowed_counts k i.modules)
