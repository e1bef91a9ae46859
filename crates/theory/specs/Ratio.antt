-- Over a list of allowed counts that grow by r, `GrowsBy`, the least cost by counts, from any start count, is at most r times what every plan that
-- serves costs with the price of the start: `ratio` (compare thesis 5.5, 5.11).
use Rattle.std.specs.Prelude.{ℕ, zero, suc, ◌+◌, ◌-◌, ◌*◌, ◌≤◌, ◌<◌, min, ◌≡◌, true, List, length, get_or}
use Rattle.basics.specs.Core.{ap, ⊎_elim, sub_self, sub-le, min-le_left, min-le_right}
use Rattle.basics.specs.Core.{mul-zero, add-zero, zero-add, le_refl, le_trans, mul-le-mul_left, mul-le-mul_right, le_of_mul-le-mul_left, arith}
use Rattle.basics.specs.Core.{leb-true, le-leb}
use Rattle.basics.specs.Numbers.{le_or_lt}
use Rattle.basics.specs.Tests.{every_at}
use Rattle.basics.specs.Sums.{sum}
use Rattle.model.specs.Instance.{Instance}
use Rattle.model.specs.Counts.{can_serve, operating_cost}
use Rattle.model.specs.Thesis.{switching_price, count_at, slot_cost, counts_cost}
use Rattle.model.specs.Plans.{plan_serves}
use Rattle.thresholds.specs.Places.{count_at_place, Ascending, GrowsBy, ratio_some, count_fits}
use Rattle.theory.specs.Columns.{column, searched_cost}
use Rattle.theory.specs.Hypotheses.{LoadsFit, cost_of_first}
use Rattle.theory.specs.SlotColumns.{column_best, column_rises, column_slope}
use Rattle.theory.specs.Average.{average_falls}
use Rattle.theory.specs.Potential.{Gradual, Block, width, line_at, LineBelow, line_of_counts, value_below, move}

module _ (i : Instance) (counts : List ℕ) (start : ℕ) (asc : Ascending counts i.modules) (loads : LoadsFit i)
    (r : ℕ) (gaps : GrowsBy r counts) where
  -- The column after t slots.
  abbrev after : ℕ → ℕ → ℕ
  after t = column i counts start t

  gradual : (t : ℕ) → t ≤ i.slots → Gradual (switching_price i) counts (after t)
  gradual t h =
      record { rises = λ j k. column_rises i counts start asc loads t j k h; slope = λ j k. column_slope i counts start asc loads t j k h }

  -- The point at which the column is compared with a plan that has the count x: r times x, or the full rack.
  abbrev point : ℕ → ℕ
  point x = min (r * x) i.modules

  -- Before the first slot the column is at most the price of the count.
  start_at_most : (k : ℕ) → after 0 k ≤ switching_price i * count_at_place counts k
  unfolding column
  start_at_most k = mul-le-mul_left (switching_price i) (sub-le _ start)

  -- Before the first slot the line at the start's point is at most r times the price of the start.
  line_start : LineBelow counts (after 0) (point start) (r * (switching_price i * start))
  line_start = record { line = at }
    where
      at : (s : Block counts (point start)) → line_at s (after 0) ≤ width s * (r * (switching_price i * start))
      at s =
          let price = switching_price i in
          omega (
            arith,
            mul-le-mul_left s.over (start_at_most s.place),
            mul-le-mul_left s.under (start_at_most (s.place + 1)),
            ap (λ (n : ℕ). price * n) (line_of_counts s),
            mul-le-mul_left (price * width s) (min-le_left (r * start) i.modules),
          )

  -- One slot, which the count x can serve.
  module _ (t : ℕ) (h : t < i.slots) (x : ℕ) (in_rack : x ≤ i.modules) (fits : i.load t ≤ x * i.top_step) where
    abbrev cost : ℕ → ℕ
    cost n = operating_cost i n (i.load t)

    abbrev costs : ℕ → ℕ
    costs k = cost (count_at_place counts k)

    -- Of the two counts around the point those that weigh are at least x: where the lower one is less, the point is the upper one.
    upper_alone : (s : Block counts (point x)) → count_at_place counts s.place < x → s.over ≡ 0
    upper_alone s less =
        omega (arith, gaps s.place s.inside, mul-le-mul_left r less, count_fits asc (s.place + 1) s.inside)

    line_le :
        (s : Block counts (point x)) (f g : ℕ → ℕ) → ((k : ℕ) → k < length counts → x ≤ count_at_place counts k → f k ≤ g k) →
        line_at s f ≤ line_at s g
    line_le s f g le =
        let high = mul-le-mul_left s.under (le (s.place + 1) s.inside (omega (arith, mul-le-mul_right x (ratio_some asc gaps)))) in
        ⊎_elim
        (λ (above : x ≤ count_at_place counts s.place). omega (arith, mul-le-mul_left s.over (le s.place (omega arith) above)))
        (λ (less : count_at_place counts s.place < x). rw (upper_alone s less) (omega arith))
        (le_or_lt x (count_at_place counts s.place))

    -- A place costs at most what serving and staying there costs.
    stay : (k : ℕ) → k < length counts → x ≤ count_at_place counts k → after (suc t) k ≤ after t k + costs k
    unfolding can_serve
    stay k b above =
        let serves = le-leb _ _ (le_trans fits (mul-le-mul_right i.top_step above)) in
        simp (sub_self, mul-zero, add-zero) at ((column_best i counts start asc loads t h).at_most k k b b serves)

    costs_fall : (k : ℕ) → k < length counts → x ≤ count_at_place counts k → x * costs k ≤ count_at_place counts k * cost x
    costs_fall k b above = average_falls i x (count_at_place counts k) (i.load t) above fits

    -- Where no module has to be active, serving from the counts around the point costs nothing.
    costs_none : (s : Block counts (point x)) → x ≤ 0 → line_at s costs ≤ width s * (r * cost x)
    unfolding operating_cost
    costs_none s none =
        let small : point x ≤ 0 = omega (arith, mul-le-mul_left r none) in
        let lower : count_at_place counts s.place ≡ 0 = omega arith in
        let under : s.under ≡ 0 = omega arith in
        rw (lower, under) (omega arith)

    -- Serving from the counts around the point costs at most r times as much as from x.
    costs_some : (s : Block counts (point x)) → 0 < x → line_at s costs ≤ width s * (r * cost x)
    costs_some s some =
        let average = line_le s (λ k. x * costs k) (λ k. count_at_place counts k * cost x) costs_fall in
        let small = mul-le-mul_left (cost x * width s) (min-le_left (r * x) i.modules) in
        le_of_mul-le-mul_left {k = x} (omega (arith, ap (λ (n : ℕ). cost x * n) (line_of_counts s))) some

    -- The slot raises the bound by r times the cost of x.
    line_served : {c : ℕ} → LineBelow counts (after t) (point x) c → LineBelow counts (after (suc t)) (point x) (c + r * cost x)
    line_served {c} below = record { line = at }
      where
        at : (s : Block counts (point x)) → line_at s (after (suc t)) ≤ width s * (c + r * cost x)
        at s =
            let served = line_le s (after (suc t)) (λ k. after t k + costs k) stay in
            omega (arith, below.line s, ⊎_elim (costs_none s) (costs_some s) (le_or_lt x 0))

  module _ (p : List ℕ) (in_rack : (t : ℕ) → t < i.slots → get_or p t 0 ≤ i.modules) (served : plan_serves i p ≡ true) where
    -- After t slots the line at the point of the plan's last count is at most r times what the plan has cost.
    line_after :
        (t : ℕ) → t ≤ i.slots →
        LineBelow counts (after t) (point (count_at start p t)) (r * (cost_of_first i start p t + switching_price i * start))
    unfolding sum count_at slot_cost plan_serves can_serve
    line_after zero h = rw zero-add line_start
    line_after (suc t) h =
        let price = switching_price i in
        let x = count_at start p t in
        let z = get_or p t 0 in
        let e = z - x in
        let cost = operating_cost i z (i.load t) in
        let up : z ≤ x + e = omega arith in
        let near : point z ≤ point x + r * e = omega (arith, mul-le-mul_left r up) in
        let before = line_after t (omega arith) in
        let moved = move asc (gradual t (omega arith)) (r * e) (min-le_right (r * x) i.modules) near before in
        let served-so = line_served t h z (in_rack t h) (leb-true _ _ (every_at i.slots _ served t h)) moved in
        let paid = cost_of_first i start p t in
        let bound : r * (paid + price * start) + price * (r * e) + r * cost ≡ r * (paid + (cost + price * e) + price * start) =
        omega arith in
        rw bound at served-so

-- The least cost over the list, from any start, is at most r times what any plan that serves costs with the price of the start.
pub ratio :
    (i : Instance) (counts : List ℕ) (start : ℕ) → Ascending counts i.modules → (r : ℕ) → GrowsBy r counts →
    (p : List ℕ) → ((t : ℕ) → t < i.slots → get_or p t 0 ≤ i.modules) → plan_serves i p ≡ true →
    searched_cost i counts start ≤ r * (counts_cost i start p + switching_price i * start)
unfolding searched_cost counts_cost plan_serves can_serve
ratio i counts start asc r gaps p in_rack served =
    let loads : LoadsFit i =
    λ t h. le_trans (leb-true _ _ (every_at i.slots _ served t h)) (mul-le-mul_right i.top_step (in_rack t h)) in
    let full = le_refl i.slots in
    let end = line_after i counts start asc loads r gaps p in_rack served i.slots full in
    let slow = gradual i counts start asc loads r gaps i.slots full in
    omega (arith, value_below asc slow end 0 0 (omega arith) (omega arith) (min-le_right _ _))
