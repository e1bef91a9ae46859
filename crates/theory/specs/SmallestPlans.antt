-- Of all plans of least cost the one that the tie rule chooses is the smallest in every slot, `least_plan_smallest`, and no sheet that serves at
-- the least cost has fewer modules active in a slot, `least_sheet_smallest`. The reason: of two plans the slot-wise smaller one and the slot-wise
-- larger one together cost no more than the two, since the price of a rise is convex in the difference of two counts.
use Rattle.std.specs.Prelude.{ℕ, zero, suc, ◌+◌, ◌-◌, ◌≤◌, ◌<◌, min, max, ◌≡◌, true, List, get_or}
use Rattle.basics.specs.Core.{sym, ◌∙◌, ⊎_elim, le_of_lt, min-le_left, min-le_right}
use Rattle.basics.specs.Core.{min-eq_left, min-eq_right, max-eq_left, max-eq_right, mul-le-mul_left, arith}
use Rattle.basics.specs.Numbers.{le_or_lt}
use Rattle.basics.specs.Sums.{sum, sum_mono, sum_add}
use Rattle.basics.specs.Lists.{tabulate, length_tabulate, get_or_tabulate}
use Rattle.model.specs.Instance.{Instance}
use Rattle.model.specs.Counts.{can_serve, operating_cost, all_counts}
use Rattle.model.specs.Sheets.{serves, sheet_cost, active_at, counts_of}
use Rattle.model.specs.Thesis.{switching_price, count_at, slot_cost, counts_cost}
use Rattle.model.specs.Plans.{Member, Allowed, plan_cost, least_plan, least_cost}
use Rattle.thresholds.specs.Places.{Ascending}
use Rattle.theory.specs.Hypotheses.{Plannable, LeastByCounts}
use Rattle.theory.specs.PlacedPlans.{allowed_serves, serves_allowed}
use Rattle.theory.specs.Ties.{not_after_equal}
use Rattle.theory.specs.Enumeration.{least_plan_lem}
use Rattle.theory.specs.CountLists.{all_rules}
use Rattle.theory.specs.Condition3.{allowed_cost, least_by_counts, sheet_counts_allowed, sheet_counts_cost}

-- What holds of two numbers in either order, the smaller one first, holds of their minimum and maximum.
sorted : (a b : ℕ) (G : ℕ → ℕ → Type 0) → (a ≤ b → G a b) → (b ≤ a → G b a) → G (min a b) (max a b)
sorted a b G this other =
    ⊎_elim
    (λ (h : a ≤ b). rw (min-eq_left h, max-eq_right h) (this h))
    (λ (h : b < a). let l = le_of_lt h in rw (min-eq_right l, max-eq_left l) (other l))
    (le_or_lt a b)

-- What rises from the smaller to the smaller and from the larger to the larger count is together at most the two rises: a rise is convex
-- in the difference of the two counts.
rises_sorted : (a b x y : ℕ) → (min x y - min a b) + (max x y - max a b) ≤ (x - a) + (y - b)
rises_sorted a b x y =
    sorted a b (λ s l. (min x y - s) + (max x y - l) ≤ (x - a) + (y - b))
    (λ g. sorted x y (λ u v. (u - a) + (v - b) ≤ (x - a) + (y - b)) (λ h. omega arith) (λ h. omega arith))
    (λ g. sorted x y (λ u v. (u - b) + (v - a) ≤ (x - a) + (y - b)) (λ h. omega arith) (λ h. omega arith))

module _ (i : Instance) where
  -- Two counts cost as much to operate as the smaller and the larger of them.
  operating_sorted : (x y l : ℕ) → operating_cost i (min x y) l + operating_cost i (max x y) l ≡ operating_cost i x l + operating_cost i y l
  operating_sorted x y l =
      sorted x y (λ s q. operating_cost i s l + operating_cost i q l ≡ operating_cost i x l + operating_cost i y l)
      (λ h. omega arith) (λ h. omega arith)

  -- A slot with the smaller counts and one with the larger counts together cost no more than the two slots.
  slot_sorted : (a b x y l : ℕ) → slot_cost i (min a b) (min x y) l + slot_cost i (max a b) (max x y) l ≤ slot_cost i a x l + slot_cost i b y l
  unfolding slot_cost
  slot_sorted a b x y l =
      omega (arith, operating_sorted x y l, mul-le-mul_left (switching_price i) (rises_sorted a b x y))

  -- The plan that has in each slot the count that f makes of those of two plans.
  abbrev pub slotwise : (f : ℕ → ℕ → ℕ) (p r : List ℕ) → List ℕ
  slotwise f p r = tabulate i.slots (λ t. f (get_or p t 0) (get_or r t 0))

  slotwise_count :
      (f : ℕ → ℕ → ℕ) (start : ℕ) (p r : List ℕ) → start ≡ f start start → (t : ℕ) → t ≤ i.slots →
      count_at start (slotwise f p r) t ≡ f (count_at start p t) (count_at start r t)
  unfolding count_at
  slotwise_count f start p r same zero h = same
  slotwise_count f start p r same (suc t) h = get_or_tabulate i.slots _ t 0 h

  -- Where f chooses one of two counts, it makes an allowed plan of two allowed plans.
  slotwise_allowed :
      (f : ℕ → ℕ → ℕ) → ((x y : ℕ) (G : ℕ → Type 0) → G x → G y → G (f x y)) → {counts p r : List ℕ} → Allowed i counts p →
      Allowed i counts r → Allowed i counts (slotwise f p r)
  slotwise_allowed f choice {counts} {p} {r} P R =
      serves_allowed i counts (slotwise f p r) (length_tabulate i.slots _)
      (λ t h.
      rw (get_or_tabulate i.slots (λ t. f (get_or p t 0) (get_or r t 0)) t 0 h)
      (choice (get_or p t 0) (get_or r t 0) (λ n. Member n counts × (can_serve i n (i.load t) ≡ true))
      (P.member t h, allowed_serves i counts P t h) (R.member t h, allowed_serves i counts R t h)))

  -- The slot-wise smaller and the slot-wise larger of two plans together cost no more than the two.
  pub slotwise_cost :
      (start : ℕ) (p r : List ℕ) →
      counts_cost i start (slotwise min p r) + counts_cost i start (slotwise max p r) ≤ counts_cost i start p + counts_cost i start r
  unfolding counts_cost
  slotwise_cost start p r =
      let slot : List ℕ → ℕ → ℕ = λ q t. slot_cost i (count_at start q t) (count_at start q (suc t)) (i.load t) in
      let s = slotwise min p r in
      let q = slotwise max p r in
      let both : sum i.slots (λ t. slot s t + slot q t) ≤ sum i.slots (λ t. slot p t + slot r t) =
      sum_mono i.slots
      (λ t h.
      rw (
        slotwise_count min start p r (omega arith) t (le_of_lt h),
        slotwise_count min start p r (omega arith) (suc t) h,
        slotwise_count max start p r (omega arith) t (le_of_lt h),
        slotwise_count max start p r (omega arith) (suc t) h,
      )
      (slot_sorted _ _ _ _ (i.load t))) in
      omega (arith, sum_add i.slots (slot s) (slot q), sum_add i.slots (slot p) (slot r))

  -- The least plan by counts, from any start and over any list of allowed counts, has in every slot at most the count of every other
  -- allowed plan that costs as much.
  pub smallest_by_counts :
      (counts : List ℕ) (start : ℕ) {p : List ℕ} → LeastByCounts i counts start p → (r : List ℕ) → Allowed i counts r →
      counts_cost i start r ≡ counts_cost i start p → (t : ℕ) → t < i.slots → get_or p t 0 ≤ get_or r t 0
  smallest_by_counts counts start {p} L r R same t h = rw p_smaller (smaller_below t h).1
    where
      smaller : List ℕ
      smaller = slotwise min p r

      smaller_below : (t : ℕ) → t < i.slots → (get_or smaller t 0 ≤ get_or p t 0) × (get_or smaller t 0 ≤ get_or r t 0)
      smaller_below t h = rw (get_or_tabulate i.slots (λ t. min (get_or p t 0) (get_or r t 0)) t 0 h) (min-le_left _ _, min-le_right _ _)

      smaller_allowed : Allowed i counts smaller
      smaller_allowed = slotwise_allowed min (λ x y G a b. sorted x y (λ s l. G s) (λ _. a) (λ _. b)) L.allowed R

      larger_allowed : Allowed i counts (slotwise max p r)
      larger_allowed = slotwise_allowed max (λ x y G a b. sorted x y (λ s l. G l) (λ _. b) (λ _. a)) L.allowed R

      p_smaller : p ≡ smaller
      p_smaller =
          let as-cheap : counts_cost i start smaller ≡ counts_cost i start p =
          omega (arith, slotwise_cost start p r, L.least smaller smaller_allowed, L.least (slotwise max p r) larger_allowed) in
          not_after_equal i.slots p smaller L.allowed.slotwise smaller_allowed.slotwise
          (L.first smaller smaller_allowed as-cheap) (λ u g _. (smaller_below u g).0)

module _ {i : Instance} (ready : Plannable i) where
  -- The least plan over any ascending list of allowed counts has in every slot at most the count of every other allowed plan that costs as
  -- much.
  pub least_plan_smallest :
      (counts : List ℕ) → Ascending counts i.modules → (r : List ℕ) → Allowed i counts r → plan_cost i r ≡ least_cost i counts →
      (t : ℕ) → t < i.slots → get_or (least_plan i counts) t 0 ≤ get_or r t 0
  least_plan_smallest counts asc r R same =
      let L = least_plan_lem i counts asc ready.loads in
      let cost = allowed_cost ready counts asc in
      smallest_by_counts i counts 0 (least_by_counts ready counts asc) r R
      (sym (cost r R) ∙ same ∙ cost (least_plan i counts) L.allowed)

  -- A sheet that serves at the least cost has in every slot at least as many active modules as the least plan over all counts.
  pub least_sheet_smallest :
      (s : List ℕ) → serves i s ≡ true → sheet_cost i s ≡ least_cost i (all_counts i.modules) →
      (t : ℕ) → t < i.slots → get_or (least_plan i (all_counts i.modules)) t 0 ≤ active_at i s (suc t)
  unfolding counts_of
  least_sheet_smallest s e same t h =
      let asc = (all_rules i.modules ready.some).ascending in
      let allowed = sheet_counts_allowed ready s e in
      let least = (least_plan_lem i (all_counts i.modules) asc ready.loads).least (counts_of i s) allowed in
      let cost : plan_cost i (counts_of i s) ≡ least_cost i (all_counts i.modules) = omega (arith, sheet_counts_cost ready s e) in
      rw (get_or_tabulate i.slots (λ t. active_at i s (suc t)) t 0 h) at
      (least_plan_smallest (all_counts i.modules) asc (counts_of i s) allowed cost t h)
