-- The dynamic program over a list of allowed counts gives the least plan by counts from a start count, first in tie order: `searched_least`, and
-- its cost: `searched_cost_lem`.
use Rattle.std.specs.Prelude.{ℕ, zero, suc, ◌+◌, ◌-◌, ◌*◌, ◌≤◌, ◌<◌, ◌≡◌, refl, List, [], ◌∷◌, ◌++◌, length, get_or}
use Rattle.basics.specs.Core.{sym, ◌∙◌, not-suc-le-zero, zero-sub, mul-zero}
use Rattle.basics.specs.Core.{arith, get_or_at}
use Rattle.basics.specs.Sums.{sum}
use Rattle.basics.specs.Members.{snoc_before, snoc_length}
use Rattle.model.specs.Instance.{Instance}
use Rattle.model.specs.Plans.{Allowed}
use Rattle.model.specs.Thesis.{switching_price, count_at, slot_cost, counts_cost}
use Rattle.thresholds.specs.Places.{count_at_place, Ascending, count_rises, place_below}
use Rattle.theory.specs.Columns.{column, selection, way_back, searched_plan, searched_cost}
use Rattle.theory.specs.Hypotheses.{LoadsFit, cost_of_first, LeastByCounts}
use Rattle.theory.specs.PlacedPlans.{Placed, placed_snoc, placed_of, allowed_of}
use Rattle.theory.specs.SlotColumns.{column_best}
use Rattle.theory.specs.Ties.{NotAfterIn, not_after_suc, not_after_same}

module _ (i : Instance) (start : ℕ) where
  -- The count after t slots depends on the first t slots alone.
  pub count_same : (t : ℕ) (p r : List ℕ) → ((u : ℕ) → u < t → get_or p u 0 ≡ get_or r u 0) → count_at start p t ≡ count_at start r t
  unfolding count_at
  count_same zero p r same = refl
  count_same (suc t) p r same = same t (omega arith)

  -- The cost of the first 0 slots is 0.
  cost_none : (p : List ℕ) → cost_of_first i start p 0 ≡ 0
  unfolding sum
  cost_none p = refl

  -- The cost of the first t slots depends on those alone.
  cost_same : (t : ℕ) (p r : List ℕ) → ((u : ℕ) → u < t → get_or p u 0 ≡ get_or r u 0) → cost_of_first i start p t ≡ cost_of_first i start r t
  unfolding sum
  cost_same zero p r same = refl
  cost_same (suc t) p r same =
      rw (cost_same t p r (λ u h. same u (omega arith)), count_same t p r (λ u h. same u (omega arith)), count_same (suc t) p r same)

  -- One slot more adds its cost.
  cost_snoc :
      (t : ℕ) (p : List ℕ) (x : ℕ) → length p ≡ t →
      cost_of_first i start (p ++ (x ∷ [])) (suc t) ≡ cost_of_first i start p t + slot_cost i (count_at start p t) x (i.load t)
  unfolding sum count_at
  cost_snoc t p x e =
      let before : (u : ℕ) → u < t → get_or (p ++ (x ∷ [])) u 0 ≡ get_or p u 0 = λ u h. snoc_before p x 0 t u e h in
      rw (cost_same t (p ++ (x ∷ [])) p before, count_same t (p ++ (x ∷ [])) p before, get_or_at p x [] 0 t e)

-- The way back has a count for each slot.
pub way_back_length : (i : Instance) (counts : List ℕ) (start t j : ℕ) → length (way_back i counts start t j) ≡ t
unfolding way_back
way_back_length i counts start zero j = refl
way_back_length i counts start (suc t) j =
    let c = selection i counts start t j in
    snoc_length (way_back i counts start t c) _ t (way_back_length i counts start t c)

module _ (i : Instance) (counts : List ℕ) (start : ℕ) (asc : Ascending counts i.modules) (loads : LoadsFit i) where
  -- The cost of a plan's first t slots and the price of switching on from its count there up to place j.
  abbrev cost_to : List ℕ → ℕ → ℕ → ℕ
  cost_to p t j = cost_of_first i start p t + switching_price i * (count_at_place counts j - count_at start p t)

  -- No plan costs less than the column says.
  column_below :
      (t : ℕ) → t ≤ i.slots → (p : List ℕ) → Placed i counts p t → (j : ℕ) → j < length counts →
      column i counts start t j ≤ cost_to p t j
  unfolding column sum count_at slot_cost
  column_below zero h p placed j inside = omega arith
  column_below (suc t) h p placed j inside =
      let (k, within, here, serves) = placed t (omega arith) in
      rw (sym here)
      (omega (
        arith,
        column_below t (omega arith) p (λ u g. placed u (omega arith)) k within,
        (column_best i counts start asc loads t h).at_most j k inside within serves,
      ))

  -- The counts of the way back stand at places that serve.
  way_back_placed : (t j : ℕ) → t ≤ i.slots → j < length counts → Placed i counts (way_back i counts start t j) t
  unfolding way_back
  way_back_placed zero j h inside = λ u g. absurd (not-suc-le-zero g)
  way_back_placed (suc t) j h inside =
      let c = selection i counts start t j in
      let best = column_best i counts start asc loads t h in
      let within = best.chosen_in j inside in
      placed_snoc i counts (way_back i counts start t c) t c (way_back_length i counts start t c) (way_back_placed t c (omega arith) within) within
      (best.chosen_serves j inside)

  -- The way back costs what the column says.
  way_back_cost : (t j : ℕ) → t ≤ i.slots → j < length counts → cost_to (way_back i counts start t j) t j ≡ column i counts start t j
  unfolding way_back column count_at slot_cost
  way_back_cost zero j h inside = omega (arith, cost_none i start [])
  way_back_cost (suc t) j h inside =
      let c = selection i counts start t j in
      let best = column_best i counts start asc loads t h in
      let p = way_back i counts start t c in
      let whole = way_back_length i counts start t c in
      rw (get_or_at p (count_at_place counts c) [] 0 t whole)
      (omega (
        arith,
        cost_snoc i start t p (count_at_place counts c) whole,
        way_back_cost t c (omega arith) (best.chosen_in j inside),
        best.attained j inside,
      ))

  -- The way back is first in tie order among the plans that cost as much.
  way_back_first :
      (t j : ℕ) → t ≤ i.slots → j < length counts → (r : List ℕ) → Placed i counts r t →
      cost_to r t j ≡ column i counts start t j → NotAfterIn t (way_back i counts start t j) r
  unfolding way_back column sum count_at slot_cost
  way_back_first zero j h inside r placed equal = λ u g. absurd (not-suc-le-zero g)
  way_back_first (suc t) j h inside r placed equal =
      let c = selection i counts start t j in
      let best = column_best i counts start asc loads t h in
      let n = count_at_place counts c in
      let p = way_back i counts start t c in
      let whole = way_back_length i counts start t c in
      let last = get_or_at p n [] 0 t whole in
      let (k, within, here, serves) = placed t (omega arith) in
      let earlier : Placed i counts r t = λ u g. placed u (omega arith) in
      let bound = column_below t (omega arith) r earlier k within in
      let choice = best.at_most j k inside within serves in
      let cost = rw (sym here) at equal in
      let tight : cost_to r t k ≡ column i counts start t k = omega arith in
      let low : c ≤ k = best.smallest j k inside within serves (omega arith) in
      not_after_suc t (p ++ (n ∷ [])) r
      (omega (arith, count_rises asc c k low within))
      (λ e.
      let same : c ≡ k = omega (arith, place_below asc k c within (omega arith)) in
      not_after_same t (p ++ (n ∷ [])) p r r (λ u g. snoc_before p n 0 t u whole g) (λ u g. refl)
      (way_back_first t c (omega arith) (best.chosen_in j inside) r earlier (rw same tight)))

  cost_to_first : (p : List ℕ) → cost_to p i.slots 0 ≡ counts_cost i start p
  unfolding counts_cost
  cost_to_first p = rw (asc.first, zero-sub, mul-zero) (omega arith)

  first_inside : 0 < length counts
  first_inside = omega (arith, asc.two)

  -- The cost of the dynamic program is that of its plan.
  pub searched_cost_lem : searched_cost i counts start ≡ counts_cost i start (searched_plan i counts start)
  unfolding searched_cost searched_plan
  searched_cost_lem =
      sym (way_back_cost i.slots 0 (omega arith) first_inside) ∙ cost_to_first (way_back i counts start i.slots 0)

  -- No allowed plan costs less by counts.
  searched_below : (r : List ℕ) → Allowed i counts r → searched_cost i counts start ≤ counts_cost i start r
  unfolding searched_cost
  searched_below r a =
      omega (
        arith,
        column_below i.slots (omega arith) r (placed_of i counts a) 0 first_inside,
        cost_to_first r,
      )

  -- The plan of the dynamic program is the least by counts, first in tie order (thesis 4.12).
  pub searched_least : LeastByCounts i counts start (searched_plan i counts start)
  unfolding searched_plan searched_cost
  searched_least =
      record {
        allowed =
            allowed_of i counts (way_back i counts start i.slots 0) (way_back_length i counts start i.slots 0)
            (way_back_placed i.slots 0 (omega arith) first_inside);
        least = λ r a. omega (arith, searched_cost_lem, searched_below r a);
        first =
            λ r a e.
            way_back_first i.slots 0 (omega arith) first_inside r (placed_of i counts a) (cost_to_first r ∙ e ∙ sym searched_cost_lem);
      }
