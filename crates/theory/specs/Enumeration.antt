-- The function `least_plan`, which gives the first of the cheapest plans in an enumeration of all plans in tie order, gives the least plan,
-- `least_plan_lem`, and there is only one least plan, `least_plan_unique`.
use Rattle.std.specs.Prelude.{ℕ, zero, suc, ◌+◌, ◌≤◌, ◌<◌, ◌≡◌, refl, Bool, true, false, cond, List, [], ◌∷◌, ◌++◌, map, length, get_or, take, replicate, ltb}
use Rattle.basics.specs.Core.{sym, ap, ◌∙◌, ⊎_elim}
use Rattle.basics.specs.Core.{Memᴰ, mem_head, mem_tail, mem_not_nil, mem_cases_cons, mem_eq_of_singleton}
use Rattle.basics.specs.Core.{mem_cast, mem_map, not-suc-le-zero, arith, length-replicate, get_or-replicate, get_or_at}
use Rattle.basics.specs.Core.{take_all, take-suc, length-take-le, get_or-take, ltb-true, ltb-false}
use Rattle.basics.specs.Numbers.{le_or_lt}
use Rattle.basics.specs.Lists.{keep}
use Rattle.basics.specs.Members.{InOrder, none, next, member_at, place_of, snoc_before, snoc_length, rising_in_order}
use Rattle.basics.specs.Members.{to_keep, from_keep, in_order_keep, from_map, in_order_map, to_flat_map, from_flat_map, in_order_flat_map}
use Rattle.model.specs.Instance.{Instance}
use Rattle.model.specs.Plans.{Allowed, Member, LeastPlan, plan_cost, plan_serves, plans_in_order, cheapest, cheapest_of, least_plan}
use Rattle.thresholds.specs.Places.{last_place, Ascending, last_inside, last_serves}
use Rattle.theory.specs.Hypotheses.{LoadsFit}
use Rattle.theory.specs.PlacedPlans.{allowed_of}
use Rattle.theory.specs.Ties.{NotAfterIn, not_after_snoc, not_after_equal}

-- What `cheapest` finds in a list whose elements stand in a relation R to those after them.
module _ (cost : List ℕ → ℕ) (R : List ℕ → List ℕ → Type 0) where
  -- The element p is the cheapest of a list, before all others that cost as much.
  record CheapestIn (l : List (List ℕ)) (p : List ℕ) : Type 0 where
    member : Memᴰ p l
    least : (q : List ℕ) → Memᴰ q l → cost p ≤ cost q
    first : (q : List ℕ) → Memᴰ q l → cost q ≡ cost p → R p q

  -- The element p is the cheapest of a list, and its head if that costs as much.
  record CheapestFrom (best : List ℕ) (ps : List (List ℕ)) (p : List ℕ) : Type 0 where
    cheapest_in : CheapestIn (best ∷ ps) p
    keeps : cost best ≡ cost p → p ≡ best

  -- A cheaper element takes the place of the best so far.
  replaced : {best q p : List ℕ} {ps : List (List ℕ)} → cost q < cost best → CheapestFrom q ps p → CheapestFrom best (q ∷ ps) p
  replaced {best} {q} {p} {ps} less C =
      record {
        cheapest_in =
            record {
              member = mem_tail C.cheapest_in.member;
              least =
                  λ x m.
                  ⊎_elim
                  (λ (e : x ≡ best). omega (arith, dearer, ap cost e))
                  (C.cheapest_in.least x)
                  (mem_cases_cons m);
              first =
                  λ x m same.
                  ⊎_elim
                  (λ (e : x ≡ best). absurd (omega (arith, dearer, ap cost e)))
                  (λ (n : Memᴰ x (q ∷ ps)). C.cheapest_in.first x n same)
                  (mem_cases_cons m);
            };
        keeps = λ same. absurd (omega (arith, dearer));
      }
    where
      dearer : cost p < cost best
      dearer = omega (arith, C.cheapest_in.least q (mem_head refl))

  -- An element that is no cheaper changes nothing.
  kept :
      {best q p : List ℕ} {ps : List (List ℕ)} → cost best ≤ cost q → R best q → CheapestFrom best ps p →
      CheapestFrom best (q ∷ ps) p
  kept {best} {q} {p} {ps} no_less before C =
      record {
        cheapest_in =
            record {
              member =
                  ⊎_elim (λ (e : p ≡ best). mem_head e) (λ (m : Memᴰ p ps). mem_tail (mem_tail m))
                  (mem_cases_cons C.cheapest_in.member);
              least = λ x m. split x m (cost p ≤ cost x) (C.cheapest_in.least x) (λ e. omega (arith, below, ap cost e));
              first =
                  λ x m same.
                  split x m (R p x)
                  (λ n. C.cheapest_in.first x n same)
                  (λ e. rw (C.keeps (omega (arith, below, ap cost e)), e) before);
            };
        keeps = C.keeps;
      }
    where
      below : cost p ≤ cost best
      below = C.cheapest_in.least best (mem_head refl)

      split : (x : List ℕ) → Memᴰ x (best ∷ q ∷ ps) → (G : Type 0) → (Memᴰ x (best ∷ ps) → G) → (x ≡ q → G) → G
      split x m G old new =
          ⊎_elim
          (λ (e : x ≡ best). old (mem_head e))
          (λ (n : Memᴰ x (q ∷ ps)). ⊎_elim new (λ (k : Memᴰ x ps). old (mem_tail k)) (mem_cases_cons n))
          (mem_cases_cons m)

  cheapest_from :
      ((p : List ℕ) → R p p) → (best : List ℕ) (ps : List (List ℕ)) → ((q : List ℕ) → Memᴰ q ps → R best q) → InOrder R ps →
      CheapestFrom best ps (cheapest cost best ps)
  unfolding cheapest
  cheapest_from self best [] ahead order =
      record {
        cheapest_in =
            record {
              member = mem_head refl;
              least = λ q m. rw (mem_eq_of_singleton m) (omega arith);
              first = λ q m _. rw (mem_eq_of_singleton m) (self best);
            };
        keeps = λ _. refl;
      }
  cheapest_from self best (q ∷ ps) ahead (next later order) =
      go (ltb (cost q) (cost best)) refl (cheapest_from self q ps later order)
      (cheapest_from self best ps (λ y m. ahead y (mem_tail m)) order)
    where
      go :
          (b : Bool) → ltb (cost q) (cost best) ≡ b → CheapestFrom q ps (cheapest cost q ps) →
          CheapestFrom best ps (cheapest cost best ps) → CheapestFrom best (q ∷ ps) (cheapest cost (cond b q best) ps)
      go true e new old = replaced (ltb-true (cost q) (cost best) e) new
      go false e new old = kept (ltb-false (cost q) (cost best) e) (ahead q (mem_head refl)) old

  -- Of a list in order that is not empty `cheapest_of` gives the first of the cheapest.
  cheapest_of_lem :
      ((p : List ℕ) → R p p) → (l : List (List ℕ)) (r : List ℕ) → Memᴰ r l → InOrder R l →
      CheapestIn l (cheapest_of cost l)
  unfolding cheapest_of
  cheapest_of_lem self [] r m order = absurd (mem_not_nil m)
  cheapest_of_lem self (p ∷ ps) r m (next first order) = (cheapest_from self p ps first order).cheapest_in

module _ (counts : List ℕ) where
  -- A plan of t slots with counts from the list.
  abbrev PlanFrom : ℕ → List ℕ → Type 0
  PlanFrom t p = (length p ≡ t) × ((u : ℕ) → u < t → Member (get_or p u 0) counts)

  -- The enumerated plans of t slots, each with the count n after them.
  abbrev then_count : ℕ → ℕ → List (List ℕ)
  then_count t n = map (λ p. p ++ (n ∷ [])) (plans_in_order counts t)

  -- The enumeration holds plans of t slots with counts from the list only.
  enumerated : (t : ℕ) (p : List ℕ) → Memᴰ p (plans_in_order counts t) → PlanFrom t p
  unfolding plans_in_order
  enumerated zero p m = (ap length (mem_eq_of_singleton m), λ u h. absurd (not-suc-le-zero h))
  enumerated (suc t) p m =
      let (n, of-counts, longer) = from_flat_map (then_count t) counts m in
      let (q, shorter, e) = from_map (λ p. p ++ (n ∷ [])) (plans_in_order counts t) longer in
      let (size, members) = enumerated t q shorter in
      let member : (u : ℕ) → u < suc t → Member (get_or (q ++ (n ∷ [])) u 0) counts =
      λ u h.
      ⊎_elim
      (λ (last : t ≤ u). rw (get_or_at q n [] 0 u (omega arith)) (place_of 0 of-counts))
      (λ (before : u < t). rw (snoc_before q n 0 t u size before) (members u before))
      (le_or_lt t u) in
      rw e (snoc_length q n t size, member)

  -- The enumeration holds all plans of t slots with counts from the list.
  enumerates : (t : ℕ) (p : List ℕ) → PlanFrom t p → Memᴰ p (plans_in_order counts t)
  unfolding plans_in_order
  enumerates zero [] over = mem_head refl
  enumerates zero (x ∷ xs) (size, members) = absurd (omega arith)
  enumerates (suc t) p (size, members) =
      let (k, inside, here) = members t (omega arith) in
      let n = get_or p t 0 in
      let whole : p ≡ take t p ++ (n ∷ []) = sym (take_all (suc t) p (omega arith)) ∙ take-suc p t 0 (omega arith) in
      let front : PlanFrom t (take t p) =
      (length-take-le t p (omega arith), λ u h. rw (get_or-take t p u 0 h) (members u (omega arith))) in
      let longer = mem_map (λ p. p ++ (n ∷ [])) (enumerates t (take t p) front) in
      mem_cast whole (to_flat_map (then_count t) (rw here at (member_at counts k 0 inside)) longer)

  -- The enumeration is in tie order.
  enumerated_in_order :
      ((j : ℕ) → j + 1 < length counts → get_or counts j 0 < get_or counts (j + 1) 0) → (t : ℕ) →
      InOrder (NotAfterIn t) (plans_in_order counts t)
  unfolding plans_in_order
  enumerated_in_order rises zero = next (λ y m. absurd (mem_not_nil m)) none
  enumerated_in_order rises (suc t) =
      in_order_flat_map {S = ◌<◌} (then_count t)
      (λ n. in_order_map (λ p. p ++ (n ∷ [])) (same_last n) (enumerated_in_order rises t))
      lower_last
      (rising_in_order counts rises)
    where
      plans : List (List ℕ)
      plans = plans_in_order counts t

      same_last :
          (n : ℕ) (p q : List ℕ) → Memᴰ p plans → Memᴰ q plans → NotAfterIn t p q →
          NotAfterIn (suc t) (p ++ (n ∷ [])) (q ++ (n ∷ []))
      same_last n p q m k order =
          not_after_snoc t p q n n (enumerated t p m).0 (enumerated t q k).0 (omega arith) (λ _. order)

      lower_last :
          (x y : ℕ) (a b : List ℕ) → x < y → Memᴰ a (then_count t x) → Memᴰ b (then_count t y) → NotAfterIn (suc t) a b
      lower_last x y a b less m k =
          let (p, in_p, e) = from_map (λ p. p ++ (x ∷ [])) plans m in
          let (q, in-q, f) = from_map (λ p. p ++ (y ∷ [])) plans k in
          rw (e, f)
          (not_after_snoc t p q x y (enumerated t p in_p).0 (enumerated t q in-q).0 (omega arith) (λ g. absurd (omega arith)))

-- The full rack in every slot is allowed.
full_rack :
    (i : Instance) (counts : List ℕ) → Ascending counts i.modules → LoadsFit i →
    Allowed i counts (replicate i.slots i.modules)
full_rack i counts asc loads =
    allowed_of i counts _ (length-replicate i.slots i.modules)
    (λ t h.
    let here = asc.last ∙ sym (get_or-replicate i.slots t i.modules 0 h) in
    (last_place counts, last_inside asc, here, last_serves asc i (i.load t) (loads t h)))

-- Document 01's least plan as the function `least_plan` is the least plan as the predicate `LeastPlan`.
pub least_plan_lem : (i : Instance) (counts : List ℕ) → Ascending counts i.modules → LoadsFit i → LeastPlan i counts (least_plan i counts)
unfolding least_plan
least_plan_lem i counts asc loads =
    let (enumerated-one, serves) = from_keep (plan_serves i) plans best.member in
    let (size, members) = enumerated counts i.slots _ enumerated-one in
    record {
      allowed = record { slotwise = size; member = members; served = serves };
      least = λ r a. best.least r (listed r a);
      first = λ r a. best.first r (listed r a);
    }
  where
    plans : List (List ℕ)
    plans = plans_in_order counts i.slots

    listed : (r : List ℕ) → Allowed i counts r → Memᴰ r (keep (plan_serves i) plans)
    listed r a = to_keep (plan_serves i) (enumerates counts i.slots r (a.slotwise, a.member)) a.served

    best : CheapestIn (plan_cost i) (NotAfterIn i.slots) (keep (plan_serves i) plans) (cheapest_of (plan_cost i) (keep (plan_serves i) plans))
    best =
        cheapest_of_lem (plan_cost i) (NotAfterIn i.slots) (λ p u h _. omega arith) (keep (plan_serves i) plans) _
        (listed _ (full_rack i counts asc loads))
        (in_order_keep (plan_serves i) (enumerated_in_order counts asc.rises i.slots))

-- There is only one least plan.
pub least_plan_unique : (i : Instance) (counts p r : List ℕ) → LeastPlan i counts p → LeastPlan i counts r → p ≡ r
least_plan_unique i counts p r P R =
    let same : plan_cost i p ≡ plan_cost i r = omega (arith, P.least r R.allowed, R.least p P.allowed) in
    not_after_equal i.slots p r P.allowed.slotwise R.allowed.slotwise
    (P.first r R.allowed (sym same)) (R.first p P.allowed same)
