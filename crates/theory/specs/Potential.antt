-- A column between its places: the straight lines through its values at neighbouring counts.
use Rattle.std.specs.Prelude.{ℕ, ◌+◌, ◌-◌, ◌*◌, ◌≤◌, ◌<◌, ◌≡◌, List, length}
use Rattle.basics.specs.Core.{ap, ⊎_elim, le_dest, le_of_lt, mul-le-mul_left, le_of_mul-le-mul_left, arith}
use Rattle.basics.specs.Numbers.{le_or_lt}
use Rattle.basics.specs.Products.{line_moved}
use Rattle.basics.specs.Rising.{between}
use Rattle.thresholds.specs.Places.{count_at_place, last_place, Ascending, count_rises}

-- A column that rises with the places, by at most the price a module.
pub record Gradual (price : ℕ) (counts : List ℕ) (f : ℕ → ℕ) : Type 0 where
  pub rises : (j k : ℕ) → j ≤ k → k < length counts → f j ≤ f k
  pub slope : (j k : ℕ) → j ≤ k → k < length counts → f k ≤ f j + price * (count_at_place counts k - count_at_place counts j)

-- Two neighbouring counts around y, and y's distances to them.
pub record Block (counts : List ℕ) (y : ℕ) : Type 0 where
  pub place : ℕ
  pub inside : place + 1 < length counts
  pub under : ℕ
  pub over : ℕ
  pub from : count_at_place counts place + under ≡ y
  pub to : y + over ≡ count_at_place counts (place + 1)

-- The distance of the two counts of a block.
abbrev pub width : {counts : List ℕ} {y : ℕ} → Block counts y → ℕ
width s = s.under + s.over

-- The line through a column's values at the two counts of a block, taken at y and multiplied by the width.
abbrev pub line_at : {counts : List ℕ} {y : ℕ} → Block counts y → (ℕ → ℕ) → ℕ
line_at s f = s.over * f s.place + s.under * f (s.place + 1)

-- The line through a column's values is at most c at y.
pub record LineBelow (counts : List ℕ) (f : ℕ → ℕ) (y c : ℕ) : Type 0 where
  pub line : (s : Block counts y) → line_at s f ≤ width s * c

-- The line through the counts themselves, taken at y, is y.
pub line_of_counts : {counts : List ℕ} {y : ℕ} (s : Block counts y) → line_at s (count_at_place counts) ≡ width s * y
line_of_counts s = omega (arith, ap (λ (n : ℕ). s.over * n) s.from, ap (λ (n : ℕ). s.under * n) s.to)

module _ {counts : List ℕ} {m : ℕ} (asc : Ascending counts m) where
  -- Every y in the rack lies in a block.
  block : (y : ℕ) → y ≤ m → Block counts y
  block y h =
      let last : last_place counts - 1 + 1 ≡ last_place counts = omega arith in
      let (j, in_List, low, high) = between (count_at_place counts) y (last_place counts - 1) (omega arith) (rw last (omega arith)) in
      let (u, from) = le_dest low in
      let (w, to) = le_dest high in
      record { place = j; inside = omega arith; under = u; over = w; from = from; to = to }

  module _ {price : ℕ} {f : ℕ → ℕ} (column : Gradual price counts f) where
    slope_by : (j k d : ℕ) → j ≤ k → k < length counts → count_at_place counts k ≤ count_at_place counts j + d → f k ≤ f j + price * d
    slope_by j k d h b near =
        let less : count_at_place counts k - count_at_place counts j ≤ d = omega arith in
        omega (arith, column.slope j k h b, mul-le-mul_left price less)

    -- A place j whose count is at most d above y stands before y's block or after it.
    module _ {y c : ℕ} (below : LineBelow counts f y c) (j d : ℕ) (b : j < length counts) (near : count_at_place counts j ≤ y + d) where
      value_before : (s : Block counts y) → j ≤ s.place → width s * f j ≤ width s * (c + price * d)
      value_before s before =
          let low = column.rises j s.place before (omega arith) in
          let high = column.rises j (s.place + 1) (omega arith) s.inside in
          omega (arith, below.line s, mul-le-mul_left s.over low, mul-le-mul_left s.under high)

      value_after : (s : Block counts y) → s.place < j → width s * f j ≤ width s * (c + price * d)
      value_after s after =
          let reach : s.over ≤ d = omega (arith, count_rises asc (s.place + 1) j (omega arith) b) in
          let (e, rest) = le_dest reach in
          let low = mul-le-mul_left s.over (slope_by s.place j (s.under + d) (omega arith) b (omega arith)) in
          let high = mul-le-mul_left s.under (slope_by (s.place + 1) j e (omega arith) b (omega arith)) in
          omega (arith, below.line s, ap (λ (n : ℕ). s.under * price * n) rest)

      -- At place j the column is at most the bound and the price of d modules.
      pub value_below : y ≤ m → f j ≤ c + price * d
      value_below h =
          let s : Block counts y = block y h in
          let some : 0 < width s = omega (arith, asc.rises s.place s.inside) in
          le_of_mul-le-mul_left (⊎_elim (value_before s) (value_after s) (le_or_lt j s.place)) some

    module _ {y z c : ℕ} (d : ℕ) (h : y ≤ m) (near : z ≤ y + d) (below : LineBelow counts f y c) (t : Block counts z) where
      -- The block of z ends at y or before it.
      move_before : count_at_place counts (t.place + 1) ≤ y → line_at t f ≤ width t * (c + price * d)
      move_before before =
          let low = value_below below t.place 0 (omega arith) (omega arith) h in
          let high = value_below below (t.place + 1) 0 t.inside (omega arith) h in
          omega (arith, mul-le-mul_left t.over low, mul-le-mul_left t.under high)

      -- The block of z begins at y or after it.
      move_after : y ≤ count_at_place counts t.place → line_at t f ≤ width t * (c + price * d)
      move_after after =
          let (e, gap) = le_dest after in
          let low = value_below below t.place e (omega arith) (omega arith) h in
          let high = value_below below (t.place + 1) (e + width t) t.inside (omega arith) h in
          let reach : e + t.under ≤ d = omega arith in
          omega (arith, mul-le-mul_left t.over low, mul-le-mul_left t.under high, mul-le-mul_left (width t * price) reach)

      -- The block of z has y inside.
      move_within :
          count_at_place counts t.place < y → y < count_at_place counts (t.place + 1) → line_at t f ≤ width t * (c + price * d)
      move_within after before =
          let (u, from) = le_dest (le_of_lt after) in
          let (w, to) = le_dest (le_of_lt before) in
          let s : Block counts y = record { place = t.place; inside = t.inside; under = u; over = w; from = from; to = to } in
          let rise = column.rises t.place (t.place + 1) (omega arith) t.inside in
          let slope = slope_by t.place (t.place + 1) (width s) (omega arith) t.inside (omega arith) in
          line_moved _ _ c u w price (below.line s) rise slope t.under t.over d (omega arith) (omega arith)

      move_ahead : y < count_at_place counts (t.place + 1) → line_at t f ≤ width t * (c + price * d)
      move_ahead ahead =
          ⊎_elim
          move_after
          (λ (behind : count_at_place counts t.place < y). move_within behind ahead)
          (le_or_lt y (count_at_place counts t.place))

    -- Moving y up by d raises the bound by the price of d modules; moving it down does not.
    pub move : {y z c : ℕ} (d : ℕ) → y ≤ m → z ≤ y + d → LineBelow counts f y c → LineBelow counts f z (c + price * d)
    move {y} {z} {c} d h near below = record { line = at }
      where
        at : (t : Block counts z) → line_at t f ≤ width t * (c + price * d)
        at t =
            ⊎_elim
            (move_before d h near below t)
            (move_ahead d h near below t)
            (le_or_lt (count_at_place counts (t.place + 1)) y)
