-- Where the points of a sheet went (document 02, §7): its cost above the least cost in three parts, and what each part being 0 says.
use Rattle.std.specs.Prelude.{ℕ, suc, ◌+◌, ◌-◌, ◌*◌, ◌≤◌, ◌<◌, ◌≡◌, true, cond, List, eqb}
use Rattle.basics.specs.Sums.{sum}
use Rattle.model.specs.Instance.{Instance}
use Rattle.model.specs.Counts.{operating_cost, all_counts}
use Rattle.model.specs.Sheets.{is_off, state_at, sheet_length, serves, sheet_operating_cost, sheet_switching_cost, sheet_cost, counts_of}
use Rattle.model.specs.Thesis.{count_at}
use Rattle.model.specs.Plans.{Allowed, plan_cost}
use Rattle.model.specs.Planners.{exact, planned_cost}

-- The operating cost of counts: 'the least running cost for its own counts' is 01's running cost of each slot's count and load, with G in
-- place of F (02 §2), summed over the slots. That no sheet that serves with these counts has a lower one is `running_least` in
-- theory.
unfoldable pub counts_operating_cost : Instance → (counts : List ℕ) → ℕ
counts_operating_cost i p = sum i.slots (λ t. operating_cost i (count_at 0 p (suc t)) (i.load t))

-- The switching cost 'of its counts alone': the warm-up price for each module by which the count rises, the cool-down price for each by which
-- it falls, into each slot and after the last. Before the first slot the count is 0, and so it is after the last of a list of T counts.
unfoldable pub counts_switching_cost : Instance → (counts : List ℕ) → ℕ
counts_switching_cost i p =
    sum (i.slots + 1)
    (λ t. i.power_up * (count_at 0 p (suc t) - count_at 0 p t) + i.power_down * (count_at 0 p t - count_at 0 p (suc t)))

-- 'Spread: its running cost less the least running cost for its own counts.' Of a sheet that serves a show which can be planned nothing is cut
-- off, here and in the next two (`spread_whole`, `switching_at_least` and `counts_whole` in theory).
unfoldable pub excess_operating_cost : Instance → (sheet : List ℕ) → ℕ
excess_operating_cost i s = sheet_operating_cost i s - counts_operating_cost i (counts_of i s)

-- 'Swaps: its switching cost less that of its counts alone.'
unfoldable pub excess_switching_cost : Instance → (sheet : List ℕ) → ℕ
excess_switching_cost i s = sheet_switching_cost i s - counts_switching_cost i (counts_of i s)

-- 'Counts: the cost of its counts as a plan less the least cost.'
unfoldable pub excess_of_counts : Instance → (sheet : List ℕ) → ℕ
excess_of_counts i s = plan_cost i (counts_of i s) - planned_cost exact i

-- Two sheets have the same modules active in the same slots. Slot t (from 0) is time t + 1, here and below.
abbrev pub SameActive : Instance → (s r : List ℕ) → Type 0
SameActive i s r = (t k : ℕ) → t < i.slots → k < i.modules → is_off (state_at i r (suc t) k) ≡ is_off (state_at i s (suc t) k)

-- Changing 'the spread with its burning modules held' saves nothing: of all sheets that serve, with the same modules active in the same slots,
-- none costs less.
abbrev pub NoBetterSpread : Instance → (sheet : List ℕ) → Type 0
NoBetterSpread i s = (r : List ℕ) → serves i r ≡ true → SameActive i s r → sheet_cost i s ≤ sheet_cost i r

-- Changing 'the choice of modules with its counts held' saves nothing: of all patterns with the same count in each slot none has a lower
-- switching cost. A pattern says of each module in each slot whether it is off. It is given as m × T bytes of any value, of which only those
-- that are 255 stand for off: the switching cost and the counts see nothing else of a byte.
abbrev pub NoBetterChoice : Instance → (sheet : List ℕ) → Type 0
NoBetterChoice i s =
    (pattern : List ℕ) → sheet_length i pattern ≡ true → counts_of i pattern ≡ counts_of i s →
    sheet_switching_cost i s ≤ sheet_switching_cost i pattern

-- How often a byte stands in a slot of a sheet.
unfoldable pub how_often : Instance → (sheet : List ℕ) → (slot byte : ℕ) → ℕ
how_often i s t b = sum i.modules (λ k. cond (eqb (state_at i s (suc t) k) b) 1 0)

-- Two sheets have the same steps in each slot, in whatever order: each byte stands there equally often.
abbrev pub SameSteps : Instance → (s r : List ℕ) → Type 0
SameSteps i s r = (t b : ℕ) → t < i.slots → how_often i r t b ≡ how_often i s t b

-- The same of sheets: of all sheets that serve, with the same steps in each slot, though perhaps on other modules, none costs less.
abbrev pub NoBetterOrder : Instance → (sheet : List ℕ) → Type 0
NoBetterOrder i s = (r : List ℕ) → serves i r ≡ true → SameSteps i s r → sheet_cost i s ≤ sheet_cost i r

-- 'the counts, if no plan costs less': of all plans that serve, over all counts of the rack, none costs less than the sheet's counts as a
-- plan.
abbrev pub NoBetterPlan : Instance → (sheet : List ℕ) → Type 0
NoBetterPlan i s = (plan : List ℕ) → Allowed i (all_counts i.modules) plan → plan_cost i (counts_of i s) ≤ plan_cost i plan

-- No sheet that serves costs less.
abbrev pub NoBetterSheet : Instance → (sheet : List ℕ) → Type 0
NoBetterSheet i s = (r : List ℕ) → serves i r ≡ true → sheet_cost i s ≤ sheet_cost i r
