-- A show played backwards (document 02, §3): a plan in reverse costs the same there, since its counts, from 0 back to 0, rise as much as they
-- fall. So the least plan in reverse is the least plan, and, being the smallest in every slot, the one of the tie rule.
use Rattle.std.specs.Prelude.{ℕ, zero, suc, ◌+◌, ◌-◌, ◌*◌, ◌≤◌, ◌≡◌, refl, List, reverse, length, get_or}
use Rattle.basics.specs.Core.{sym, ap, ◌∙◌, reverse-reverse, arith}
use Rattle.basics.specs.Core.{length-reverse, get_or-eq_default}
use Rattle.basics.specs.Sums.{sum, sum_reverse}
use Rattle.basics.specs.Lists.{from_back, get_or_reverse}
use Rattle.model.specs.Instance.{Instance}
use Rattle.model.specs.Counts.{operating_cost}
use Rattle.model.specs.Thesis.{count_at, counts_cost}
use Rattle.model.specs.Plans.{Allowed}
use Rattle.model.specs.RelatedShows.{loads_of, Reversed}
use Rattle.theory.specs.Hypotheses.{LoadsFit, Plannable, LeastByCounts}
use Rattle.theory.specs.CountCosts.{rises_in, count_after, rises_after, rises_fall, cost_rises}
use Rattle.theory.specs.PlacedPlans.{allowed_serves, serves_allowed}
use Rattle.theory.specs.SmallestPlans.{smallest_by_counts}
use Rattle.theory.specs.AgreeingShows.{agree_back, loads_slots, loads_at, serve_same, operating_same, price_same, agree_plannable}

-- The show is the backwards show played backwards.
reversed_back : {i j : Instance} → Reversed i j → Reversed j i
reversed_back {i} {j} back =
    record {
      agree = agree_back back.agree;
      rack = sym back.rack;
      loads = sym (reverse-reverse (loads_of i)) ∙ ap reverse (sym back.loads);
    }

module _ (n : ℕ) (p : List ℕ) (size : length p ≡ n) where
  -- The counts of a plan in reverse, with 0 before and after, are those of the plan from the back.
  reversed_count : (t u : ℕ) → t + u ≡ suc n → count_at 0 (reverse p) t ≡ count_at 0 p u
  unfolding count_at
  reversed_count zero u e = let last : u ≡ suc n = omega arith in rw last (sym (count_after n p size))
  reversed_count (suc t) zero e = get_or-eq_default (reverse p) 0 (omega (arith, length-reverse p))
  reversed_count (suc t) (suc u) e = get_or_reverse p t u 0 (omega arith)

-- In reverse the counts of a plan rise by as much.
reversed_rises : (n : ℕ) (p : List ℕ) → length p ≡ n → rises_in n (reverse p) ≡ rises_in n p
reversed_rises n p size =
    let turned : rises_in (suc n) (reverse p) ≡ sum (suc n) (λ t. count_at 0 p t - count_at 0 p (suc t)) =
    sum_reverse (suc n)
    (λ t u e. rw (reversed_count n p size (suc t) u (omega arith), reversed_count n p size t (suc u) (omega arith))) in
    sym (rises_after n (reverse p) (length-reverse p ∙ size)) ∙ turned ∙ sym (rises_fall n p size) ∙ rises_after n p size

module _ {i j : Instance} (back : Reversed i j) where
  reversed_slots : j.slots ≡ i.slots
  reversed_slots = loads_slots j back.loads ∙ length-reverse (loads_of i) ∙ sym (loads_slots i refl)

  reversed_load : (t u : ℕ) → t + u + 1 ≡ i.slots → j.load t ≡ i.load u
  reversed_load t u e =
      loads_at j back.loads t (omega (arith, reversed_slots)) ∙
      get_or_reverse (loads_of i) t u 0 (e ∙ loads_slots i refl) ∙ sym (loads_at i refl u (omega arith))

  -- The backwards show can be planned where the show can.
  pub reversed_plannable : Plannable i → Plannable j
  reversed_plannable ready = agree_plannable back.agree ready (omega (arith, back.rack)) fit
    where
      slot : (t u : ℕ) → t + u + 1 ≡ i.slots → j.load t ≤ j.modules * j.top_step
      slot t u e = rw (reversed_load t u e, back.rack, back.agree.top_step) (ready.loads u (omega arith))

      fit : LoadsFit j
      fit t h = let (u, e) = from_back i.slots t (rw reversed_slots at h) in slot t u e

  module _ {counts p : List ℕ} (P : Allowed i counts p) where
    -- An allowed plan in reverse is allowed for the backwards show.
    reversed_allowed : Allowed j counts (reverse p)
    reversed_allowed =
        serves_allowed j counts (reverse p) (length-reverse p ∙ P.slotwise ∙ sym reversed_slots)
        (λ t h.
        let (u, e) = from_back i.slots t (rw reversed_slots at h) in
        rw (get_or_reverse p t u 0 (e ∙ sym P.slotwise), reversed_load t u e, serve_same back.agree)
        (P.member u (omega arith), allowed_serves i counts P u (omega arith)))

    -- An allowed plan in reverse costs on the backwards show what the plan costs.
    pub reversed_cost : counts_cost j 0 (reverse p) ≡ counts_cost i 0 p
    unfolding count_at
    reversed_cost =
        let operating :
        sum i.slots (λ t. operating_cost j (count_at 0 (reverse p) (suc t)) (j.load t)) ≡
        sum i.slots (λ t. operating_cost i (count_at 0 p (suc t)) (i.load t)) =
        sum_reverse i.slots
        (λ t u e.
        rw (reversed_count i.slots p P.slotwise (suc t) (suc u) (omega arith), reversed_load t u e)
        (operating_same back.agree _ _ (allowed_serves i counts P u (omega arith)))) in
        cost_rises j (reverse p) i.slots reversed_slots ∙
        rw (operating, price_same back.agree, reversed_rises i.slots p P.slotwise, cost_rises i p i.slots refl)

-- The least plan by counts in reverse is the least plan by counts of the backwards show.
pub reversed_least :
    {i j : Instance} → Reversed i j → (counts : List ℕ) {p : List ℕ} → LeastByCounts i counts 0 p → LeastByCounts j counts 0 (reverse p)
reversed_least {i} {j} back counts {p} L =
    record {
      allowed = reversed_allowed back L.allowed;
      least = λ r R. omega (arith, cost, cost_back r R, L.least (reverse r) (reversed_allowed (reversed_back back) R));
      first = λ r R same t h _. let (u, e) = from_back i.slots t (rw (reversed_slots back) at h) in below r R same t u e;
    }
  where
    cost : counts_cost j 0 (reverse p) ≡ counts_cost i 0 p
    cost = reversed_cost back L.allowed

    cost_back : (r : List ℕ) → Allowed j counts r → counts_cost i 0 (reverse r) ≡ counts_cost j 0 r
    cost_back r R = reversed_cost (reversed_back back) R

    below :
        (r : List ℕ) → Allowed j counts r → counts_cost j 0 r ≡ counts_cost j 0 (reverse p) →
        (t u : ℕ) → t + u + 1 ≡ i.slots → get_or (reverse p) t 0 ≤ get_or r t 0
    below r R same t u e =
        let here : get_or (reverse p) t 0 ≡ get_or p u 0 = get_or_reverse p t u 0 (e ∙ sym L.allowed.slotwise) in
        let there : get_or (reverse r) u 0 ≡ get_or r t 0 = get_or_reverse r u t 0 (omega (arith, R.slotwise, reversed_slots back)) in
        omega (
          arith,
          smallest_by_counts i counts 0 L (reverse r) (reversed_allowed (reversed_back back) R) (cost_back r R ∙ same ∙ cost) u (omega arith),
        )
