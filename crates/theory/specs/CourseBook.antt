-- The facts for the course book (document 02, §3), on shows and on cards: a show played backwards, on a rack with more modules, and two shows
-- joined; and two facts more, that the plan of least cost is the smallest in every slot, and that backwards it is the plan in reverse. What holds
-- for every list of allowed counts is stated so; on cards it holds for every planner that keeps the rules for the card's rack, as the exact and
-- the coarse one always do.
use Rattle.std.specs.Prelude.{ℕ, suc, ◌+◌, ◌≤◌, ◌<◌, ◌≡◌, refl, true, List, reverse, length, get_or, replicate}
use Rattle.basics.specs.Core.{sym, ap, ◌∙◌, le_trans, arith}
use Rattle.basics.specs.Core.{length-replicate}
use Rattle.model.specs.Answers.{number_of, cost_of}
use Rattle.model.specs.Instance.{Instance, instance_of}
use Rattle.model.specs.Sheets.{serves, sheet_cost, active_at}
use Rattle.model.specs.Thesis.{counts_cost}
use Rattle.model.specs.Plans.{Member, Allowed, plan_cost, least_plan, least_cost}
use Rattle.model.specs.Planners.{Planner, exact, coarse, listed, allowed_counts, work_bytes, planned_by, planned_cost}
use Rattle.model.specs.Calls.{Accepted}
use Rattle.model.specs.Promises.{KeepsRules, WithRoom}
use Rattle.model.specs.RelatedShows.{Reversed, LargerRack, Concatenated, PlannedAt, PlannedAs}
use Rattle.laws.specs.CountMembers.{all_member}
use Rattle.thresholds.specs.Places.{Ascending}
use Rattle.theory.specs.Hypotheses.{Plannable}
use Rattle.theory.specs.Enumeration.{least_plan_lem, least_plan_unique}
use Rattle.theory.specs.CountLists.{all_rules, planner_rules}
use Rattle.theory.specs.Condition3.{allowed_cost, by_counts_least, least_by_counts, accepted_plannable}
use Rattle.theory.specs.Outcomes.{planner_answer, always_planned, plan_written}
use Rattle.theory.specs.SmallestPlans.{least_plan_smallest, least_sheet_smallest}
use Rattle.theory.specs.AgreeingShows.{larger_plannable, larger_allowed, larger_cost}
use Rattle.theory.specs.AgreeingShows.{concatenated_plannable, concatenated_allowed, concatenated_cost}
use Rattle.theory.specs.ReversedShows.{reversed_plannable, reversed_cost, reversed_least}

-- Backwards, on shows.
module _ {i j : Instance} (ready : Plannable i) (back : Reversed i j) (counts : List ℕ) (asc : Ascending counts i.modules) where
  asc_back : Ascending counts j.modules
  asc_back = rw back.rack asc

  -- The backwards show's plan is the plan backwards.
  pub reversed_least_plan : least_plan j counts ≡ reverse (least_plan i counts)
  reversed_least_plan =
      let ready-back = reversed_plannable back ready in
      least_plan_unique j counts _ _ (least_plan_lem j counts asc_back ready-back.loads)
      (by_counts_least ready-back counts asc_back (reversed_least back counts (least_by_counts ready counts asc)))

  -- 'A show played backwards has the same least cost'.
  pub reversed_least_cost : least_cost j counts ≡ least_cost i counts
  reversed_least_cost =
      let ready-back = reversed_plannable back ready in
      let L = least_plan_lem i counts asc ready.loads in
      let B = least_plan_lem j counts asc_back ready-back.loads in
      allowed_cost ready-back counts asc_back (least_plan j counts) B.allowed ∙ ap (counts_cost j 0) reversed_least_plan ∙
      reversed_cost back L.allowed ∙ sym (allowed_cost ready counts asc (least_plan i counts) L.allowed)

-- More modules, on shows.
module _ {i j : Instance} (ready : Plannable i) (larger : LargerRack i j) where
  -- Where each count that is allowed in the rack is allowed in the larger one, the least cost there is no higher.
  pub larger_least_cost :
      (few many : List ℕ) → Ascending few i.modules → Ascending many j.modules → ((n : ℕ) → Member n few → Member n many) →
      least_cost j many ≤ least_cost i few
  larger_least_cost few many asc asc' within =
      let ready' = larger_plannable larger ready in
      let L = least_plan_lem i few asc ready.loads in
      let p = least_plan i few in
      let there = larger_allowed larger within L.allowed in
      let least = (least_plan_lem j many asc' ready'.loads).least p there in
      omega (
        arith,
        allowed_cost ready few asc p L.allowed,
        allowed_cost ready' many asc' p there,
        larger_cost larger 0 L.allowed,
      )

  -- 'The same show on a rack with more modules has a least cost no higher', for the exact planner, which is allowed all counts.
  pub larger_exact_cost : planned_cost exact j ≤ planned_cost exact i
  unfolding allowed_counts
  larger_exact_cost =
      larger_least_cost _ _ (all_rules _ ready.some).ascending (all_rules _ (larger_plannable larger ready).some).ascending
      (λ n member. (all_member j.modules n).0 (le_trans ((all_member i.modules n).1 member) larger.rack))

-- Joined, on shows: 'Two shows with equal rack, table and prices .., joined end to end, cost at most the two least costs together.'
pub concatenated_least_cost :
    {i j k : Instance} → Plannable k → Concatenated i j k → (counts : List ℕ) → Ascending counts k.modules →
    least_cost k counts ≤ least_cost i counts + least_cost j counts
concatenated_least_cost {i} {j} {k} ready both counts asc =
    let asc-first : Ascending counts i.modules = rw both.rack_first at asc in
    let asc-second : Ascending counts j.modules = rw both.rack_second at asc in
    let (first, second) = concatenated_plannable both ready in
    let P = (least_plan_lem i counts asc-first first.loads).allowed in
    let R = (least_plan_lem j counts asc-second second.loads).allowed in
    let there = concatenated_allowed both P R in
    let least = (least_plan_lem k counts asc ready.loads).least _ there in
    omega (
      arith,
      allowed_cost first counts asc-first _ P,
      allowed_cost second counts asc-second _ R,
      allowed_cost ready counts asc _ there,
      concatenated_cost both P R 0,
    )

-- A planner gives a card no more than one cost and one plan.
module _ (k : Planner) (c : List ℕ) where
  -- What holds with all buffers that are long enough holds with the shortest of them.
  at_shortest :
      {G : List ℕ → List ℕ → Type 0} → WithRoom k c G →
      G (replicate (instance_of c).slots 0) (replicate (work_bytes k (instance_of c)) 0)
  at_shortest given =
      let plan : length (replicate {A = ℕ} (instance_of c).slots 0) ≡ (instance_of c).slots = length-replicate _ 0 in
      let work : length (replicate {A = ℕ} (work_bytes k (instance_of c)) 0) ≡ work_bytes k (instance_of c) = length-replicate _ 0 in
      given _ _ (omega arith) (omega arith)

  pub planned_at_one : {x y : ℕ} → PlannedAt k c x → PlannedAt k c y → x ≡ y
  planned_at_one one other = (at_shortest one).cost_is ∙ sym (at_shortest other).cost_is

  pub planned_as_one : {p r : List ℕ} → PlannedAs k c p → PlannedAs k c r → p ≡ r
  planned_as_one one other = sym (at_shortest one).1 ∙ (at_shortest other).1

-- What a planner that keeps the rules gives for an accepted card.
module _ (k : Planner) (c : List ℕ) (given : Accepted c) (keeps : KeepsRules k (instance_of c)) where
  pub planned_at : PlannedAt k c (planned_cost k (instance_of c))
  planned_at p w room work =
      let e = planner_answer k c p w given keeps room work in
      record { number_is = sym (ap number_of e); cost_is = sym (ap cost_of e) }

  pub planned_as : PlannedAs k c (planned_by k (instance_of c))
  planned_as p w room work = let number = always_planned k c p w given keeps room work in (number, plan_written k c p w number)

-- The rules look at nothing of a show but its rack.
keeps_on : (k : Planner) (i j : Instance) → j.modules ≡ i.modules → KeepsRules k i → KeepsRules k j
keeps_on exact i j same keeps = refl
keeps_on coarse i j same keeps = refl
keeps_on (listed l r) i j same keeps = rw same keeps

-- Backwards, on cards.
module _ (k : Planner) (c d : List ℕ) (C : Accepted c) (D : Accepted d) (keeps : KeepsRules k (instance_of c))
    (back : Reversed (instance_of c) (instance_of d)) where
  ready : Plannable (instance_of c)
  ready = accepted_plannable c C

  asc : Ascending (allowed_counts k (instance_of c).modules) (instance_of c).modules
  asc = (planner_rules k _ ready.some keeps).ascending

  keeps_back : KeepsRules k (instance_of d)
  keeps_back = keeps_on k _ _ back.rack keeps

  -- The planner gives the two cards the same cost.
  pub reversed_card_cost : (x : ℕ) × PlannedAt k c x × PlannedAt k d x
  reversed_card_cost =
      let same = ap (λ m. least_cost (instance_of d) (allowed_counts k m)) back.rack ∙ reversed_least_cost ready back _ asc in
      (planned_cost k (instance_of c), planned_at k c C keeps, rw same at (planned_at k d D keeps_back))

  -- The planner's plan for the second card is its plan for the first one in reverse, byte for byte.
  pub reversed_card_plan : (p : List ℕ) × PlannedAs k c p × PlannedAs k d (reverse p)
  unfolding planned_by
  reversed_card_plan =
      let same = ap (λ m. least_plan (instance_of d) (allowed_counts k m)) back.rack ∙ reversed_least_plan ready back _ asc in
      (planned_by k (instance_of c), planned_as k c C keeps, rw same at (planned_as k d D keeps_back))

-- A planner by which more modules never cost more, on cards.
abbrev pub NeverDearer : Planner → Type 0
NeverDearer k =
    (c d : List ℕ) → Accepted c → Accepted d → LargerRack (instance_of c) (instance_of d) →
    (x y : ℕ) × PlannedAt k c x × PlannedAt k d y × (y ≤ x)

-- More modules, on cards: the exact planner gives the card with more modules no higher cost.
pub larger_card_cost : NeverDearer exact
larger_card_cost c d C D larger =
    (_, _, planned_at exact c C refl, planned_at exact d D refl, larger_exact_cost (accepted_plannable c C) larger)

-- Joined, on cards: a planner gives the joined card at most the sum of the two costs. That the joined show has at most 1,024 slots is part of
-- its card being accepted.
pub concatenated_card_cost :
    (k : Planner) (c d e : List ℕ) → Accepted c → Accepted d → Accepted e → KeepsRules k (instance_of e) →
    Concatenated (instance_of c) (instance_of d) (instance_of e) →
    (x y z : ℕ) × PlannedAt k c x × PlannedAt k d y × PlannedAt k e z × (z ≤ x + y)
concatenated_card_cost k c d e C D E keeps both =
    let ready = accepted_plannable e E in
    let bound : planned_cost k (instance_of e) ≤ planned_cost k (instance_of c) + planned_cost k (instance_of d) =
    omega (
      arith,
      concatenated_least_cost ready both _ (planner_rules k _ ready.some keeps).ascending,
      ap (λ m. least_cost (instance_of c) (allowed_counts k m)) both.rack_first,
      ap (λ m. least_cost (instance_of d) (allowed_counts k m)) both.rack_second,
    ) in
    let first = keeps_on k _ _ (sym both.rack_first) keeps in
    let second = keeps_on k _ _ (sym both.rack_second) keeps in
    (_, _, _, planned_at k c C first, planned_at k d D second, planned_at k e E keeps, bound)

-- The smallest plan, on cards: in every slot a planner's plan has at most the count of each plan with the counts allowed it that costs as
-- much.
pub smallest_card_plan :
    (k : Planner) (c : List ℕ) → Accepted c → KeepsRules k (instance_of c) →
    (x : ℕ) × (p : List ℕ) × PlannedAt k c x × PlannedAs k c p ×
    ((r : List ℕ) → Allowed (instance_of c) (allowed_counts k (instance_of c).modules) r → plan_cost (instance_of c) r ≡ x →
    (t : ℕ) → t < (instance_of c).slots → get_or p t 0 ≤ get_or r t 0)
unfolding planned_by
smallest_card_plan k c C keeps =
    let ready = accepted_plannable c C in
    (_, _, planned_at k c C keeps, planned_as k c C keeps, least_plan_smallest ready _ (planner_rules k _ ready.some keeps).ascending)

-- In every slot each sheet that serves at the exact planner's cost has at least as many active modules as its plan.
pub smallest_card_sheet :
    (c : List ℕ) → Accepted c →
    (x : ℕ) × (p : List ℕ) × PlannedAt exact c x × PlannedAs exact c p ×
    ((s : List ℕ) → serves (instance_of c) s ≡ true → sheet_cost (instance_of c) s ≡ x →
    (t : ℕ) → t < (instance_of c).slots → get_or p t 0 ≤ active_at (instance_of c) s (suc t))
unfolding planned_by allowed_counts
smallest_card_sheet c C =
    (_, _, planned_at exact c C refl, planned_as exact c C refl, least_sheet_smallest (accepted_plannable c C))
