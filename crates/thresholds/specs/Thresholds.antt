-- What the search for the least plan over a list of allowed counts computes, digit by digit of its places: `threshold_plan`. That this is the least
-- plan is `threshold_plan_lem` in theory. Level j lies between place j and place j + 1 of the list; a plan is above it in a slot if its place there is
-- above j. A round with the width b knows of each slot's place that it is in the 2 b places from `plan t` on, and finds which half it is in:
-- forward through the slots a side of one level for each, then backward the places.
use Rattle.std.specs.Prelude.{ℕ, zero, suc, ◌+◌, ◌-◌, ◌*◌, ◌^◌, min, cond, List, get_or, replicate, leb, eqb}
use Rattle.basics.specs.Lists.{tabulate}
use Rattle.basics.specs.Backwards.{back_to}
use Rattle.model.specs.Instance.{Instance}
use Rattle.model.specs.Counts.{can_serve, operating_cost}
use Rattle.model.specs.Thesis.{switching_price}
use Rattle.thresholds.specs.Places.{count_at_place, last_place}

-- What a slot says of a level. The lead is how much dearer the slots up to it make the place above the level than the place below it. The
-- side is 2 if the least plan is above the level in the slot, 0 if it is below, and 1 if it is where it is in the next slot.
pub record Verdict : Type 0 where
  pub lead : ℕ
  pub side : ℕ

-- One if x is less than y, and otherwise 0.
unfoldable pub is_less : ℕ → ℕ → ℕ
is_less x y = cond (leb y x) 0 1

-- The verdict where the place above the level costs `upper` and the place below it `lower`, and rising over the level costs w.
abbrev pub weighed : (w upper lower : ℕ) → Verdict
weighed w upper lower = record { lead = min w (upper - lower); side = is_less upper lower + is_less upper (lower + w) }

-- The price of rising over level j. It is 0 beyond the list.
abbrev pub level_price : Instance → List ℕ → ℕ → ℕ
level_price i counts j = switching_price i * (count_at_place counts (j + 1) - count_at_place counts j)

-- The verdict of a slot with load l on level j, by the lead before it. No plan is above a level beyond the list, and every plan that
-- serves is above one whose place below cannot serve.
unfoldable pub judge : Instance → List ℕ → (j l lead : ℕ) → Verdict
judge i counts j l lead =
    cond (leb (last_place counts) j) (record { lead = 0; side = 0 })
    (cond (can_serve i (count_at_place counts j) l)
    (weighed (level_price i counts j) (lead + operating_cost i (count_at_place counts (j + 1)) l) (operating_cost i (count_at_place counts j) l))
    (record { lead = 0; side = 2 }))

-- The lead of level j before the first slot, from a start count.
unfoldable pub first_lead : Instance → List ℕ → (start j : ℕ) → ℕ
first_lead i counts start j = min (level_price i counts j) (switching_price i * (count_at_place counts (j + 1) - start))

-- The lead of a level with the price w, where the plan so far is at `before` in the slot before and `here` in this one. If the two are
-- equal, the slot before has the same level, and its lead. If not, the slot before is known to be above the level, or below it.
unfoldable pub carried : (w before here lead : ℕ) → ℕ
carried w before here lead = cond (eqb here before) lead (cond (leb here before) 0 w)

-- The place after a round with the width b, by the side found and the next slot's place after the round.
unfoldable pub raised_place : (b here side next : ℕ) → ℕ
raised_place b here side next = cond (leb 2 (side + is_less (here + b - 1) next)) (here + b) here

-- The level that a round with the width b judges in slot t, for a plan so far: the middle one of the slot's 2 b places.
abbrev pub level_at : (b : ℕ) → (plan : ℕ → ℕ) → (t : ℕ) → ℕ
level_at b plan t = plan t + b - 1

-- Forward through the slots, for a plan so far.
module _ (i : Instance) (counts : List ℕ) (start b : ℕ) (plan : ℕ → ℕ) where
  -- The lead before slot t of the level that is judged there.
  unfoldable pub lead_before : ℕ → ℕ
  lead_before zero = first_lead i counts start (level_at b plan 0)
  lead_before (suc t) =
      carried (level_price i counts (level_at b plan (suc t))) (plan t) (plan (suc t))
      (judge i counts (level_at b plan t) (i.load t) (lead_before t)).lead

  -- The side that is found in slot t.
  unfoldable pub side_at : ℕ → ℕ
  side_at t = (judge i counts (level_at b plan t) (i.load t) (lead_before t)).side

-- Backward through the slots, for a plan so far and the sides.
module _ (slots b : ℕ) (plan sides : ℕ → ℕ) where
  -- The place in slot t after the round. After the last slot it is 0.
  abbrev pub raised_at : ℕ → ℕ
  raised_at = back_to slots (λ t next. raised_place b (plan t) (sides t) next)

-- An entry of a plan or of sides, by the slot.
abbrev pub in_slot : List ℕ → ℕ → ℕ
in_slot l t = get_or l t 0

-- The sides that a round finds.
unfoldable pub forward : Instance → (counts : List ℕ) → (start b : ℕ) → List ℕ → List ℕ
forward i counts start b plan = tabulate i.slots (side_at i counts start b (in_slot plan))

-- The places after a round, by its sides.
unfoldable pub backward : (slots b : ℕ) → (plan sides : List ℕ) → List ℕ
backward slots b plan sides = tabulate slots (raised_at slots b (in_slot plan) (in_slot sides))

module _ (i : Instance) (counts : List ℕ) (start : ℕ) where
  -- A round with the width b.
  abbrev pub round : ℕ → List ℕ → List ℕ
  round b plan = backward i.slots b plan (forward i counts start b plan)

  -- The rounds with the widths 2 ^ (e - 1), .., 2, 1.
  unfoldable pub rounds : ℕ → List ℕ → List ℕ
  rounds zero plan = plan
  rounds (suc e) plan = rounds e (round (2 ^ e) plan)

  -- The plan found in e rounds: the counts at the places.
  unfoldable pub threshold_plan : ℕ → List ℕ
  threshold_plan e = tabulate i.slots (λ t. count_at_place counts (in_slot (rounds e (replicate i.slots 0)) t))
