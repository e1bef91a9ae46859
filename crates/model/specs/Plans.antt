-- Plans: the sheet and the cost of one, and the least plan over a list of allowed counts (document 01, 'The plans'; 02 §2).
use Rattle.std.specs.Prelude.{ℕ, zero, suc, ◌+◌, ◌/◌, ◌%◌, ◌≤◌, ◌<◌, ◌≡◌, Bool, true, cond, List, [], ◌∷◌, ◌++◌, map, length, get_or, leb, ltb}
use Rattle.basics.specs.Core.{flat_map}
use Rattle.basics.specs.Tests.{every}
use Rattle.basics.specs.Lists.{tabulate, rows, keep}
use Rattle.model.specs.Instance.{Instance}
use Rattle.model.specs.MoreLight.{active_step}
use Rattle.model.specs.Counts.{can_serve}
use Rattle.model.specs.Sheets.{off, sheet_cost}

-- The step of module k (from 0) of n that share the load l: 'the first r at q + 1, the others at q'.
abbrev pub shared_step : (n l k : ℕ) → ℕ
shared_step n l k = cond (ltb k (l % n)) (l / n + 1) (l / n)

-- The byte of module k (from 0) in a slot with count n and load l: 'in a slot with count n, modules 1 to n burn', each 'at the smallest
-- such j for its step' (02 §2).
unfoldable pub module_byte : Instance → (n l k : ℕ) → ℕ
module_byte i n l k = cond (ltb k n) (active_step i (shared_step n l k)) off

-- The bytes of a slot with count n and load l, for all modules of the rack.
unfoldable pub slot_row : Instance → ℕ → ℕ → List ℕ
slot_row i n l = tabulate i.modules (module_byte i n l)

-- 'Sheet of a plan': the bytes of its slots, one slot after the other.
unfoldable pub sheet_of : Instance → List ℕ → List ℕ
sheet_of i p = rows i.slots (λ t. slot_row i (get_or p t 0) (i.load t))

-- 'A plan costs what its sheet costs.'
unfoldable pub plan_cost : Instance → List ℕ → ℕ
plan_cost i p = sheet_cost i (sheet_of i p)

-- No count of a plan is above the modules of the rack.
unfoldable pub plan_in_rack : Instance → List ℕ → Bool
plan_in_rack i p = every i.slots (λ t. leb (get_or p t 0) i.modules)

-- Each count of a plan can serve its slot's load.
unfoldable pub plan_serves : Instance → List ℕ → Bool
plan_serves i p = every i.slots (λ t. can_serve i (get_or p t 0) (i.load t))

-- The number n is one of the list.
abbrev pub Member : ℕ → List ℕ → Type 0
Member n l = (j : ℕ) × (j < length l) × (get_or l j 0 ≡ n)

-- A plan that serves every load with counts from the list.
pub record Allowed (i : Instance) (counts : List ℕ) (p : List ℕ) : Type 0 where
  pub slotwise : length p ≡ i.slots
  pub member : (t : ℕ) → t < i.slots → Member (get_or p t 0) counts
  pub served : plan_serves i p ≡ true

-- 'the smallest count in the last slot, then in the slot before it, and so on back': where the plans p and r agree in all slots
-- after t, p has no more than r in slot t.
abbrev pub NotAfter : Instance → List ℕ → List ℕ → Type 0
NotAfter i p r = (t : ℕ) → t < i.slots → ((u : ℕ) → t < u → u < i.slots → get_or p u 0 ≡ get_or r u 0) → get_or p t 0 ≤ get_or r t 0

-- The least plan over a list of allowed counts: 'a plan that serves every load at least total cost. Among equals, the smallest count
-- in the last slot, ..'; least 'among the plans that serve every load with the counts allowed it'.
pub record LeastPlan (i : Instance) (counts : List ℕ) (p : List ℕ) : Type 0 where
  pub allowed : Allowed i counts p
  pub least : (r : List ℕ) → Allowed i counts r → plan_cost i p ≤ plan_cost i r
  pub first : (r : List ℕ) → Allowed i counts r → plan_cost i r ≡ plan_cost i p → NotAfter i p r

-- All plans with t slots in tie order: the last slot's count counts most.
unfoldable pub plans_in_order : List ℕ → ℕ → List (List ℕ)
plans_in_order counts zero = [] ∷ []
plans_in_order counts (suc t) = flat_map (λ n. map (λ p. p ++ (n ∷ [])) (plans_in_order counts t)) counts

-- The first plan of least cost among `best` and then the list.
unfoldable pub cheapest : (List ℕ → ℕ) → List ℕ → List (List ℕ) → List ℕ
cheapest cost best [] = best
cheapest cost best (p ∷ ps) = cheapest cost (cond (ltb (cost p) (cost best)) p best) ps

-- The first plan of least cost in a list; the plan of no slot where the list is empty.
unfoldable pub cheapest_of : (List ℕ → ℕ) → List (List ℕ) → List ℕ
cheapest_of cost [] = []
cheapest_of cost (p ∷ ps) = cheapest cost p ps

-- The least plan as a function, for contracts and examples: of all plans in tie order that serve, the first of least cost. Where no
-- plan serves, which an accepted card rules out, it is the empty list and means nothing.
unfoldable pub least_plan : Instance → List ℕ → List ℕ
least_plan i counts = cheapest_of (plan_cost i) (keep (plan_serves i) (plans_in_order counts i.slots))

-- The least cost of a plan over a list of allowed counts.
abbrev pub least_cost : Instance → List ℕ → ℕ
least_cost i counts = plan_cost i (least_plan i counts)
