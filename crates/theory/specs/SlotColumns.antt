-- One slot's choice is the least over all places that serve, and the smallest place that attains it: `slot_best`, `column_best`. So a column rises
-- with the place, by at most the switching price a module: `column_rises`, `column_slope`.
use Rattle.std.specs.Prelude.{ℕ, zero, suc, ◌+◌, ◌-◌, ◌*◌, ◌≤◌, ◌<◌, ◌≡◌, refl, Bool, true, false, cond, List, length}
use Rattle.basics.specs.Core.{sym, ap, ◌∙◌, false≢true}
use Rattle.basics.specs.Core.{mul-le-mul_left, arith}
use Rattle.model.specs.Instance.{Instance}
use Rattle.model.specs.Counts.{can_serve}
use Rattle.model.specs.Thesis.{switching_price}
use Rattle.thresholds.specs.Places.{count_at_place, last_place, Ascending, count_rises, last_inside, last_serves}
use Rattle.theory.specs.Columns.{Choice, cheaper, served_up_to, served_at, served_or_above, from_top, best_place, column, selection}
use Rattle.theory.specs.Hypotheses.{LoadsFit, SlotBest}
use Rattle.theory.specs.Choices.{Best, best_here, best_skip}

-- One slot with load l, after a column.
module _
    (i : Instance) (counts : List ℕ) (asc : Ascending counts i.modules) (l : ℕ) (fits : l ≤ i.modules * i.top_step) (before : ℕ → ℕ) where
  abbrev Serves : ℕ → Type 0
  Serves k = (k < length counts) × (can_serve i (count_at_place counts k) l ≡ true)

  -- From the last place down to place n the best of the places there is found.
  from_top_best :
      (j d n : ℕ) → n + d ≡ last_place counts → Best (λ k. (n ≤ k) × Serves k) (served_up_to i counts l before j) (from_top i counts l before j d)
  unfolding from_top served_or_above
  from_top_best j zero n e =
      record {
        found = (omega arith, (last_inside asc, last_serves asc i l fits));
        cost_is = refl;
        least = λ k h. let same : k ≡ last_place counts = omega arith in rw same (omega arith);
        first = λ k h _. omega arith;
      }
  from_top_best j (suc d) n e =
      let here : last_place counts - suc d ≡ n = omega arith in
      rw here (pick (can_serve i (count_at_place counts n) l) refl (from_top_best j d (suc n) (omega arith)))
    where
      rest : Choice
      rest = from_top i counts l before j d

      pick :
          (b : Bool) → can_serve i (count_at_place counts n) l ≡ b → Best (λ k. (n < k) × Serves k) (served_up_to i counts l before j) rest →
          Best (λ k. (n ≤ k) × Serves k) (served_up_to i counts l before j) (cond b (cheaper (served_at i counts l before j n) rest) rest)
      pick true can above = best_here n (omega arith, can) above
      pick false cannot above = best_skip n (λ h. false≢true (sym cannot ∙ h.1)) above

  -- A slot's choice is the least over all places that serve, and the smallest place that attains it.
  pub slot_best : SlotBest i counts l before (λ j. (best_place i counts l before j).cost) (λ j. (best_place i counts l before j).at)
  unfolding best_place
  slot_best =
      record {
        at_most = λ j k h inside serves. (best j).least k (omega arith, (inside, serves));
        chosen_in = λ j h. (best j).found.1.0;
        chosen_serves = λ j h. (best j).found.1.1;
        attained = λ j h. (best j).cost_is;
        smallest = λ j k h inside serves e. (best j).first k (omega arith, (inside, serves)) (sym e);
      }
    where
      best :
          (j : ℕ) →
          Best (λ k. (0 ≤ k) × Serves k) (served_up_to i counts l before j) (from_top i counts l before j (last_place counts))
      best j = from_top_best j (last_place counts) 0 (omega arith)

-- Switching on directly costs no more than by way of another count.
triangle : (b x y z : ℕ) → b * (x - z) ≤ b * (y - z) + b * (x - y)
triangle b x y z = let less : x - z ≤ y - z + (x - y) = omega arith in omega (arith, mul-le-mul_left b less)

-- Switching on from x to z costs as much by way of a count y between them.
pub by_way : (b x y z : ℕ) → x ≤ y → y ≤ z → b * (z - x) ≡ b * (z - y) + b * (y - x)
by_way b x y z low high = let parts : z - x ≡ z - y + (y - x) = omega arith in omega (arith, ap (λ (n : ℕ). b * n) parts)

-- Laws of the column after a slot.
module _ {i : Instance} {counts : List ℕ} {l : ℕ} {before after chosen : ℕ → ℕ} (best : SlotBest i counts l before after chosen) where
  -- On an ascending list the column after a slot rises with the place.
  pub after_rises : Ascending counts i.modules → (j k : ℕ) → j ≤ k → k < length counts → after j ≤ after k
  after_rises asc j k h inside =
      let c = chosen k in
      let low = count_rises asc j k h inside in
      let less : count_at_place counts j - count_at_place counts c ≤ count_at_place counts k - count_at_place counts c = omega arith in
      omega (
        arith,
        best.at_most j c (omega arith) (best.chosen_in k inside) (best.chosen_serves k inside),
        best.attained k inside,
        mul-le-mul_left (switching_price i) less,
      )

  -- The column after a slot rises by at most the switching price a module.
  pub after_slope :
      (j k : ℕ) → j ≤ k → k < length counts →
      after k ≤ after j + switching_price i * (count_at_place counts k - count_at_place counts j)
  after_slope j k h inside =
      let c = chosen j in
      let here : j < length counts = omega arith in
      omega (
        arith,
        best.at_most k c inside (best.chosen_in j here) (best.chosen_serves j here),
        best.attained j here,
        triangle (switching_price i) (count_at_place counts k) (count_at_place counts j) (count_at_place counts c),
      )

-- The columns from a start count.
module _ (i : Instance) (counts : List ℕ) (start : ℕ) (asc : Ascending counts i.modules) (loads : LoadsFit i) where
  -- Each slot's column and selections are the best of the places after the column before it.
  pub column_best :
      (t : ℕ) → t < i.slots →
      SlotBest i counts (i.load t) (column i counts start t) (column i counts start (suc t)) (selection i counts start t)
  unfolding column selection
  column_best t h = slot_best i counts asc (i.load t) (loads t h) (column i counts start t)

  -- A column rises with the place.
  pub column_rises :
      (t j k : ℕ) → t ≤ i.slots → j ≤ k → k < length counts → column i counts start t j ≤ column i counts start t k
  unfolding column
  column_rises zero j k h le inside =
      let low = count_rises asc j k le inside in
      mul-le-mul_left (switching_price i) (omega arith)
  column_rises (suc t) j k h le inside = after_rises (column_best t h) asc j k le inside

  -- A column rises by at most the switching price a module.
  pub column_slope :
      (t j k : ℕ) → t ≤ i.slots → j ≤ k → k < length counts →
      column i counts start t k ≤ column i counts start t j + switching_price i * (count_at_place counts k - count_at_place counts j)
  unfolding column
  column_slope zero j k h le inside = triangle (switching_price i) (count_at_place counts k) (count_at_place counts j) start
  column_slope (suc t) j k h le inside = after_slope (column_best t h) j k le inside
