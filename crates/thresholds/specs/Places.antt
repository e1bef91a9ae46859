-- Lists of allowed counts that ascend from 0 to m, `Ascending`, how fast they grow, `GrowsBy`, and laws of their places. A place is an index of the
-- list.
use Rattle.std.specs.Prelude.{ℕ, zero, suc, ◌+◌, ◌-◌, ◌*◌, ◌≤◌, ◌<◌, ◌≡◌, true, List, length, get_or}
use Rattle.basics.specs.Core.{⊎_elim, add-one, arith, le-leb}
use Rattle.basics.specs.Numbers.{le_or_lt}
use Rattle.basics.specs.Members.{InOrder, rising_in_order, in_order_at, in_order_le}
use Rattle.model.specs.Instance.{Instance}
use Rattle.model.specs.Counts.{can_serve}

-- The count at a place.
abbrev pub count_at_place : List ℕ → ℕ → ℕ
count_at_place counts j = get_or counts j 0

-- The last place of a list.
abbrev pub last_place : List ℕ → ℕ
last_place counts = length counts - 1

-- A list of allowed counts: strictly ascending from 0 to m, with at least one count after 0.
pub record Ascending (counts : List ℕ) (m : ℕ) : Type 0 where
  pub two : 2 ≤ length counts
  pub first : count_at_place counts 0 ≡ 0
  pub last : count_at_place counts (last_place counts) ≡ m
  pub rises : (j : ℕ) → j + 1 < length counts → count_at_place counts j < count_at_place counts (j + 1)

-- A list of allowed counts in which each count is at most r times one more than the count before it.
abbrev pub GrowsBy : (r : ℕ) → List ℕ → Type 0
GrowsBy r counts = (j : ℕ) → j + 1 < length counts → count_at_place counts (j + 1) ≤ r * (count_at_place counts j + 1)

module _ {counts : List ℕ} {m : ℕ} (asc : Ascending counts m) where
  in_order : InOrder ◌<◌ counts
  in_order = rising_in_order counts asc.rises

  -- A ratio by which the counts grow is at least 1, since the first count after 0 is at most that.
  pub ratio_some : {r : ℕ} → GrowsBy r counts → 1 ≤ r
  ratio_some gaps =
      let more : 1 < length counts = omega (arith, asc.two) in
      omega (arith, asc.rises 0 more, rw asc.first at (gaps 0 more))

  -- A higher place has no lower count.
  pub count_rises : (j k : ℕ) → j ≤ k → k < length counts → count_at_place counts j ≤ count_at_place counts k
  count_rises = in_order_le in_order

  -- Of two counts the lower stands at the lower place.
  pub place_below : (j k : ℕ) → j < length counts → count_at_place counts j ≤ count_at_place counts k → j ≤ k
  place_below j k inside h =
      ⊎_elim (λ (g : j ≤ k). g) (λ (g : k < j). omega (arith, in_order_at in_order 0 k j g inside)) (le_or_lt j k)

  pub last_inside : last_place counts < length counts
  last_inside = omega (arith, asc.two)

  -- The last place is the full rack, which serves every load that fits it.
  pub last_serves :
      (i : Instance) (l : ℕ) → l ≤ m * i.top_step → can_serve i (count_at_place counts (last_place counts)) l ≡ true
  unfolding can_serve
  last_serves i l fits = rw asc.last (le-leb l (m * i.top_step) fits)

  -- No count exceeds the rack.
  pub count_fits : (j : ℕ) → j < length counts → count_at_place counts j ≤ m
  count_fits j inside = omega (arith, asc.last, count_rises j (last_place counts) (omega arith) last_inside)

  -- No place is above its count.
  place_fits : (j : ℕ) → j < length counts → j ≤ count_at_place counts j
  place_fits zero inside = omega arith
  place_fits (suc j) inside =
      let next : j + 1 ≤ count_at_place counts (j + 1) = omega (arith, place_fits j (omega arith), asc.rises j (omega arith)) in
      rw (add-one j) at next

  -- So the list has no more entries than there are counts from 0 to m.
  pub length_fits : length counts ≤ m + 1
  length_fits = omega (arith, asc.last, place_fits (last_place counts) last_inside)
