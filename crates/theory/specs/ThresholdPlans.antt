-- The plan that is found digit by digit is the searched plan, `threshold_searched`, so it is the least plan by counts, `threshold_least`.
use Rattle.std.specs.Prelude.{ℕ, zero, suc, ◌^◌, ◌≤◌, ◌<◌, ◌≡◌, List, [], get_or}
use Rattle.basics.specs.Core.{sym, ap, ◌∙◌, ⊎_elim, le_of_lt, not-suc-le-zero, arith, get_or_at}
use Rattle.basics.specs.Numbers.{le_or_lt}
use Rattle.basics.specs.Backwards.{back_end, back_step}
use Rattle.basics.specs.Lists.{equal_tabulate}
use Rattle.basics.specs.Members.{snoc_before}
use Rattle.model.specs.Instance.{Instance}
use Rattle.thresholds.specs.Places.{count_at_place, last_place, Ascending}
use Rattle.thresholds.specs.Thresholds.{threshold_plan}
use Rattle.laws.specs.Tables.{Convex}
use Rattle.theory.specs.Hypotheses.{LoadsFit, LeastByCounts}
use Rattle.theory.specs.Columns.{selection, way_back, searched_plan, place_in}
use Rattle.theory.specs.Least.{way_back_length, searched_least}
use Rattle.theory.specs.Rounds.{rounds_found}

module _ (i : Instance) (counts : List ℕ) (start : ℕ) (asc : Ascending counts i.modules) (loads : LoadsFit i)
    (convex : Convex i.top_step i.table) where
  -- The way back from the searched plan's place after t slots has the counts at its places before.
  way_back_entry :
      (t u : ℕ) → t ≤ i.slots → u < t →
      get_or (way_back i counts start t (place_in i counts start t)) u 0 ≡ count_at_place counts (place_in i counts start u)
  unfolding way_back
  way_back_entry zero u h g = absurd (not-suc-le-zero g)
  way_back_entry (suc t) u h g =
      let before = way_back i counts start t (place_in i counts start t) in
      let count = count_at_place counts (place_in i counts start t) in
      let size = way_back_length i counts start t (place_in i counts start t) in
      rw (sym (back_step i.slots (selection i counts start) t h))
      (⊎_elim
      (λ (last : t ≤ u).
      let same : u ≡ t = omega arith in
      rw same (get_or_at before count [] 0 t size))
      (λ (earlier : u < t). snoc_before before count 0 t u size earlier ∙ way_back_entry t u (omega arith) earlier)
      (le_or_lt t u))

  -- The plan found in e rounds is the searched plan, if the list has at most 2 ^ e places.
  pub threshold_searched : (e : ℕ) → last_place counts < 2 ^ e → threshold_plan i counts start e ≡ searched_plan i counts start
  unfolding threshold_plan searched_plan
  threshold_searched e wide =
      sym
      (equal_tabulate
      (way_back_length i counts start i.slots 0)
      (λ t h.
      ap (λ (j : ℕ). get_or (way_back i counts start i.slots j) t 0) (sym (back_end i.slots (selection i counts start))) ∙
      way_back_entry i.slots t (omega arith) h ∙
      ap (count_at_place counts) (sym (rounds_found i counts start asc loads convex e wide t (le_of_lt h)))))

  -- The plan found in e rounds is the least plan by counts, first in tie order.
  pub threshold_least : (e : ℕ) → last_place counts < 2 ^ e → LeastByCounts i counts start (threshold_plan i counts start e)
  threshold_least e wide = rw (threshold_searched e wide) (searched_least i counts start asc loads)
