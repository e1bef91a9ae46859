-- Columns are convex, `column_bends`. So the verdict of a slot on a level, with the column's difference there for the right lead, is right about
-- the searched plan: `judged_at`, `next_slope`.
use Rattle.std.specs.Prelude.{ℕ, zero, suc, ◌+◌, ◌-◌, ◌*◌, ◌≤◌, ◌<◌, min, ◌≡◌, List, length}
use Rattle.basics.specs.Core.{⊎_elim, le_of_lt, mul-le-mul_left, arith}
use Rattle.basics.specs.Numbers.{le_or_lt}
use Rattle.basics.specs.Backwards.{back_step, back_all}
use Rattle.model.specs.Instance.{Instance}
use Rattle.model.specs.Thesis.{switching_price}
use Rattle.thresholds.specs.Places.{count_at_place, Ascending}
use Rattle.thresholds.specs.Thresholds.{level_price, judge, first_lead}
use Rattle.laws.specs.Tables.{Convex}
use Rattle.theory.specs.Hypotheses.{LoadsFit}
use Rattle.theory.specs.Columns.{column, selection, place_in}
use Rattle.theory.specs.SlotColumns.{by_way, column_best, column_rises}
use Rattle.theory.specs.ConvexValues.{middle_of_kink}
use Rattle.theory.specs.NearLeads.{Judged}
use Rattle.theory.specs.Levels.{Bends, slope_after, judged, after_convex}

-- How much dearer the first t slots make place j + 1 than place j.
abbrev pub slope : Instance → (counts : List ℕ) → (start t j : ℕ) → ℕ
slope i counts start t j = column i counts start t (j + 1) - column i counts start t j

-- From x to y the price of what is above s rises by the price of y - x, or of y - s if that is less.
held_rise : (price x y s : ℕ) → x ≤ y → price * (y - s) - price * (x - s) ≡ min (price * (y - x)) (price * (y - s))
held_rise price x y s h =
    ⊎_elim
    (λ (g : s ≤ x). omega (arith, by_way price s x y g h))
    (λ (g : x < s).
    let none : x - s ≡ 0 = omega arith in
    let less : y - s ≤ y - x = omega arith in
    rw none (omega (arith, mul-le-mul_left price less)))
    (le_or_lt s x)

-- Before the first slot the slope is the first lead.
pub first_slope :
    (i : Instance) (counts : List ℕ) (start : ℕ) → Ascending counts i.modules → (j : ℕ) → j + 1 < length counts →
    slope i counts start 0 j ≡ first_lead i counts start j
unfolding column first_lead
first_slope i counts start asc j inside =
    held_rise (switching_price i) (count_at_place counts j) (count_at_place counts (j + 1)) start (le_of_lt (asc.rises j inside))

-- The searched plan's places are places of the list.
pub place_inside :
    (i : Instance) (counts : List ℕ) (start : ℕ) → Ascending counts i.modules → LoadsFit i → (t : ℕ) → t ≤ i.slots →
    place_in i counts start t < length counts
place_inside i counts start asc loads =
    back_all i.slots (selection i counts start) (λ j. j < length counts) (omega (arith, asc.two))
    (λ t next h inside. (column_best i counts start asc loads t h).chosen_in next inside)

module _ (i : Instance) (counts : List ℕ) (start : ℕ) (asc : Ascending counts i.modules) (loads : LoadsFit i)
    (convex : Convex i.top_step i.table) where
  -- Every column is convex.
  column_bends : (t : ℕ) → t ≤ i.slots → (k : ℕ) → k + 1 + 1 < length counts → Bends counts (column i counts start t) k
  unfolding column
  column_bends zero h k inside =
      let x = count_at_place counts k in
      let y = count_at_place counts (k + 1) in
      let z = count_at_place counts (k + 1 + 1) in
      let low : x < y = asc.rises k (omega arith) in
      let high : y < z = asc.rises (k + 1) inside in
      let kink =
      middle_of_kink (switching_price i) (z - y) (y - x) (z - start) (y - start) (x - start) (λ some. omega arith) (omega arith) in
      omega arith
  column_bends (suc t) h k inside =
      after_convex asc (column_best i counts start asc loads t h) convex (column_bends t (omega arith)) k inside

  -- Over a level a column rises by its slope.
  slope_up :
      (t j : ℕ) → t ≤ i.slots → j + 1 < length counts →
      column i counts start t (j + 1) ≡ column i counts start t j + slope i counts start t j
  slope_up t j h inside = omega (arith, column_rises i counts start asc loads t j (j + 1) h (omega arith) inside)

  -- The slope after a slot is the lead that its verdict gives.
  pub next_slope :
      (t j : ℕ) → t < i.slots → j + 1 < length counts →
      slope i counts start (suc t) j ≡ (judge i counts j (i.load t) (slope i counts start t j)).lead
  next_slope t j h inside =
      let best = column_best i counts start asc loads t h in
      let rise = slope_after asc best convex (column_bends t (omega arith)) j inside _ (slope_up t j (omega arith) inside) in
      omega arith

  -- The verdict of slot t on level j is right about the searched plan.
  pub judged_at :
      (t j : ℕ) → t < i.slots → j + 1 < length counts →
      Judged j (place_in i counts start t) (place_in i counts start (suc t)) (level_price i counts j) (slope i counts start t j)
      (judge i counts j (i.load t))
  judged_at t j h inside =
      let best = column_best i counts start asc loads t h in
      rw (back_step i.slots (selection i counts start) t h)
      (judged asc best convex (column_bends t (omega arith)) j inside _ (slope_up t j (omega arith) inside) _
      (place_inside i counts start asc loads (suc t) h))
