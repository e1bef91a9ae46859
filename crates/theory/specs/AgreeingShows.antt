-- Shows that agree in table and prices (document 02, §3): a slot with the same count and load costs the same in both. So a plan costs the
-- same on a larger rack, and a plan of one show followed by a plan of another costs at most as much as the two.
use Rattle.std.specs.Prelude.{ℕ, zero, suc, ◌+◌, ◌-◌, ◌*◌, ◌/◌, ◌%◌, ◌≤◌, ◌<◌, ◌≡◌, refl, true, List, ◌++◌, length, get_or}
use Rattle.basics.specs.Core.{sym, ap, ap₂, ◌∙◌, ⊎_elim, add-suc}
use Rattle.basics.specs.Core.{le_trans, le_dest, mul-le-mul_left, mul-le-mul_right, div-le_of_le-mul, eq-zero-or-pos, arith}
use Rattle.basics.specs.Core.{length-append, get_or-append, get_or-append-add, leb-true}
use Rattle.basics.specs.Numbers.{le_or_lt}
use Rattle.basics.specs.Division.{quotient_lt}
use Rattle.basics.specs.Ranges.{least_over_same}
use Rattle.basics.specs.Sums.{sum_ext, sum_mono, sum_join}
use Rattle.basics.specs.Lists.{tabulate, length_tabulate, get_or_tabulate, tabulate_same}
use Rattle.model.specs.Instance.{Instance}
use Rattle.model.specs.MoreLight.{least_from}
use Rattle.model.specs.Counts.{can_serve, operating_cost}
use Rattle.model.specs.Thesis.{switching_price, count_at, slot_cost, counts_cost}
use Rattle.model.specs.Plans.{Member, Allowed}
use Rattle.model.specs.RelatedShows.{Agree, loads_of, LargerRack, Concatenated}
use Rattle.laws.specs.Encoding.{SameShow}
use Rattle.laws.specs.Operating.{operating_formula}
use Rattle.theory.specs.Hypotheses.{LoadsFit, Plannable, cost_of_first}
use Rattle.theory.specs.Least.{count_same}
use Rattle.theory.specs.PlacedPlans.{allowed_serves, serves_allowed}

-- Agreeing goes both ways, and on from show to show.
pub agree_back : {i j : Instance} → Agree i j → Agree j i
agree_back agree =
    record {
      top_step = sym agree.top_step;
      power_up = sym agree.power_up;
      power_down = sym agree.power_down;
      table = λ k h. sym (agree.table k (rw agree.top_step at h));
    }

pub agree_on : {i j k : Instance} → Agree i j → Agree j k → Agree i k
agree_on first second =
    record {
      top_step = second.top_step ∙ first.top_step;
      power_up = second.power_up ∙ first.power_up;
      power_down = second.power_down ∙ first.power_down;
      table = λ k h. second.table k (rw first.top_step h) ∙ first.table k h;
    }

-- A show whose loads are a list has a slot for each element, with that load.
module _ (i : Instance) {l : List ℕ} (e : loads_of i ≡ l) where
  pub loads_slots : i.slots ≡ length l
  unfolding loads_of
  loads_slots = sym (length_tabulate i.slots i.load) ∙ ap length e

  pub loads_at : (t : ℕ) → t < i.slots → i.load t ≡ get_or l t 0
  unfolding loads_of
  loads_at t h = sym (get_or_tabulate i.slots i.load t 0 h) ∙ ap (λ x. get_or x t 0) e

-- Shows that are the same have the same loads.
pub same_loads : {i j : Instance} → SameShow i j → loads_of j ≡ loads_of i
unfolding loads_of
same_loads {i} {j} same = ap (λ n. tabulate n j.load) same.slots ∙ tabulate_same i.slots same.load

module _ {i j : Instance} (agree : Agree i j) where
  least_from_same : (k : ℕ) → k ≤ i.top_step → least_from j k ≡ least_from i k
  unfolding least_from
  least_from_same k h =
      rw agree.top_step (least_over_same j.table i.table k (i.top_step - k) (λ x a b. agree.table x (omega arith)))

  -- A count serves the same loads in both.
  pub serve_same : (n l : ℕ) → can_serve j n l ≡ can_serve i n l
  unfolding can_serve
  serve_same n l = rw agree.top_step

  -- A count that serves a load costs the same in both.
  pub operating_same : (n l : ℕ) → can_serve i n l ≡ true → operating_cost j n l ≡ operating_cost i n l
  unfolding can_serve
  operating_same n l serves =
      let h : l ≤ n * i.top_step = leb-true _ _ serves in
      let low = least_from_same (l / n) (div-le_of_le-mul n h) in
      let high : l % n * least_from j (l / n + 1) ≡ l % n * least_from i (l / n + 1) =
      ⊎_elim
      (λ (none : l % n ≡ 0). rw none (omega arith))
      (λ (some : 0 < l % n). rw (least_from_same (l / n + 1) (omega (arith, quotient_lt n l i.top_step h some))))
      (eq-zero-or-pos (l % n)) in
      operating_formula j n l (rw agree.top_step h) ∙ rw (low, high, operating_formula i n l h)

  pub price_same : switching_price j ≡ switching_price i
  price_same = ap₂ (λ a b. a + b) agree.power_up agree.power_down

  -- A slot whose count serves its load costs the same in both.
  slot_same : (prev x l : ℕ) → can_serve i x l ≡ true → slot_cost j prev x l ≡ slot_cost i prev x l
  unfolding slot_cost
  slot_same prev x l serves = rw (operating_same x l serves, price_same)

  -- Where one can be planned, so can the other, on a rack that is no smaller and serves its loads.
  pub agree_plannable : Plannable i → i.modules ≤ j.modules → LoadsFit j → Plannable j
  agree_plannable ready rack loads =
      record {
        some = le_trans ready.some rack;
        steps = rw agree.top_step ready.steps;
        loads = loads;
        convex =
            λ k h.
            let inside : k + 1 < i.top_step = rw agree.top_step at h in
            rw (agree.table k (omega arith), agree.table (k + 1) (omega arith), agree.table (k + 2) (omega arith)) (ready.convex k inside);
      }

-- A show on a rack with at least as many modules.
module _ {i j : Instance} (larger : LargerRack i j) where
  larger_slots : j.slots ≡ i.slots
  larger_slots = loads_slots j larger.loads ∙ sym (loads_slots i refl)

  larger_load : (t : ℕ) → t < i.slots → j.load t ≡ i.load t
  larger_load t h = loads_at j larger.loads t (rw larger_slots h) ∙ sym (loads_at i refl t h)

  -- A show can be planned on the larger rack where it can be planned.
  pub larger_plannable : Plannable i → Plannable j
  larger_plannable ready = agree_plannable larger.agree ready larger.rack fit
    where
      fit : LoadsFit j
      fit t h =
          let inside : t < i.slots = rw larger_slots at h in
          rw (larger_load t inside, larger.agree.top_step)
          (le_trans (ready.loads t inside) (mul-le-mul_right i.top_step larger.rack))

  -- A plan is one for the larger rack too, where its counts are allowed there.
  pub larger_allowed :
      {few many p : List ℕ} → ((n : ℕ) → Member n few → Member n many) → Allowed i few p → Allowed j many p
  larger_allowed {few} {many} {p} within a =
      serves_allowed j many p (a.slotwise ∙ sym larger_slots)
      (λ t h.
      let inside : t < i.slots = rw larger_slots at h in
      (within _ (a.member t inside), rw (larger_load t inside, serve_same larger.agree) (allowed_serves i few a t inside)))

  -- A plan costs the same on the larger rack.
  pub larger_cost : (start : ℕ) {few p : List ℕ} → Allowed i few p → counts_cost j start p ≡ counts_cost i start p
  unfolding counts_cost count_at
  larger_cost start {few} {p} a =
      ap (cost_of_first j start p) larger_slots ∙
      sum_ext i.slots (λ t h. rw (larger_load t h) (slot_same larger.agree _ _ _ (allowed_serves i few a t h)))

-- After a slot with more active modules a slot costs no more.
more_before : (i : Instance) (few many x l : ℕ) → few ≤ many → slot_cost i many x l ≤ slot_cost i few x l
unfolding slot_cost
more_before i few many x l h =
    let rise : x - many ≤ x - few = omega arith in
    omega (arith, mul-le-mul_left (switching_price i) rise)

-- A show that is another one and then a third one.
module _ {i j k : Instance} (both : Concatenated i j k) where
  concatenated_slots : k.slots ≡ i.slots + j.slots
  concatenated_slots =
      loads_slots k both.loads ∙ length-append (loads_of i) (loads_of j) ∙
      sym (ap₂ (λ a b. a + b) (loads_slots i refl) (loads_slots j refl))

  concatenated_first : (t : ℕ) → t < i.slots → k.load t ≡ i.load t
  concatenated_first t h =
      loads_at k both.loads t (omega (arith, concatenated_slots)) ∙
      get_or-append (loads_of i) (loads_of j) 0 t (rw (loads_slots i refl) at h) ∙ sym (loads_at i refl t h)

  concatenated_second : (t : ℕ) → t < j.slots → k.load (i.slots + t) ≡ j.load t
  concatenated_second t h =
      let place : i.slots + t ≡ length (loads_of i) + t = ap (λ x. x + t) (loads_slots i refl) in
      loads_at k both.loads (i.slots + t) (omega (arith, concatenated_slots)) ∙
      rw place (get_or-append-add (loads_of i) (loads_of j) t 0) ∙ sym (loads_at j refl t h)

  -- Each slot of the joined show is one of the first or of the second.
  by_part :
      (G : ℕ → Type 0) → ((t : ℕ) → t < i.slots → G t) → ((t : ℕ) → t < j.slots → G (i.slots + t)) →
      (t : ℕ) → t < k.slots → G t
  by_part G first second t h =
      ⊎_elim
      (λ (later : i.slots ≤ t).
      let (u, e) = le_dest later in
      rw (sym e) (second u (omega (arith, concatenated_slots))))
      (first t)
      (le_or_lt i.slots t)

  -- Both shows can be planned where the joined show can.
  pub concatenated_plannable : Plannable k → Plannable i × Plannable j
  concatenated_plannable ready = (
    agree_plannable (agree_back both.agree_first) ready (omega (arith, both.rack_first))
        (λ t h.
        rw (concatenated_first t h, both.rack_first, both.agree_first.top_step) at (ready.loads t (omega (arith, concatenated_slots)))),
    agree_plannable (agree_back both.agree_second) ready (omega (arith, both.rack_second))
        (λ t h.
        rw (concatenated_second t h, both.rack_second, both.agree_second.top_step) at
        (ready.loads (i.slots + t) (omega (arith, concatenated_slots)))),
  )

  -- Plans of the two, with counts from one list.
  module _ {counts p r : List ℕ} (P : Allowed i counts p) (R : Allowed j counts r) where
    count_first : (t : ℕ) → t < i.slots → get_or (p ++ r) t 0 ≡ get_or p t 0
    count_first t h = get_or-append p r 0 t (omega (arith, P.slotwise))

    count_second : (t : ℕ) → get_or (p ++ r) (i.slots + t) 0 ≡ get_or r t 0
    count_second t = rw (sym P.slotwise) (get_or-append-add p r t 0)

    -- One plan after the other is a plan of the joined show.
    pub concatenated_allowed : Allowed k counts (p ++ r)
    concatenated_allowed =
        serves_allowed k counts (p ++ r) (length-append p r ∙ ap₂ (λ a b. a + b) P.slotwise R.slotwise ∙ sym concatenated_slots)
        (by_part (λ t. Member (get_or (p ++ r) t 0) counts × (can_serve k (get_or (p ++ r) t 0) (k.load t) ≡ true))
        (λ t h.
        rw (count_first t h, concatenated_first t h, serve_same both.agree_first) (P.member t h, allowed_serves i counts P t h))
        (λ t h.
        rw (count_second t, concatenated_second t h, serve_same both.agree_second) (R.member t h, allowed_serves j counts R t h)))

    -- A slot of the first costs as much as in its own show.
    slot_first :
        (start t : ℕ) → t < i.slots →
        slot_cost k (count_at start (p ++ r) t) (count_at start (p ++ r) (suc t)) (k.load t) ≡
        slot_cost i (count_at start p t) (count_at start p (suc t)) (i.load t)
    unfolding count_at
    slot_first start t h =
        rw (count_same i start t (p ++ r) p (λ u g. count_first u (omega arith)), count_first t h, concatenated_first t h)
        (slot_same both.agree_first _ _ _ (allowed_serves i counts P t h))

    -- Before a slot of the second at least as many modules are active as in its own show.
    count_before : (start t : ℕ) → count_at 0 r t ≤ count_at start (p ++ r) (i.slots + t)
    unfolding count_at
    count_before start zero = omega arith
    count_before start (suc t) = rw (add-suc i.slots t, count_second t) (omega arith)

    -- A slot of the second costs at most as much as in its own show.
    slot_second :
        (start t : ℕ) → t < j.slots →
        slot_cost k (count_at start (p ++ r) (i.slots + t)) (count_at start (p ++ r) (suc (i.slots + t))) (k.load (i.slots + t)) ≤
        slot_cost j (count_at 0 r t) (count_at 0 r (suc t)) (j.load t)
    unfolding count_at
    slot_second start t h =
        rw (count_second t, concatenated_second t h, slot_same both.agree_second _ _ _ (allowed_serves j counts R t h))
        (more_before j _ _ _ _ (count_before start t))

    -- One plan after the other costs at most what the two cost, each from its own start.
    pub concatenated_cost : (start : ℕ) → counts_cost k start (p ++ r) ≤ counts_cost i start p + counts_cost j 0 r
    unfolding counts_cost
    concatenated_cost start =
        omega (
          arith,
          ap (cost_of_first k start (p ++ r)) concatenated_slots,
          sum_join i.slots j.slots (λ t. slot_cost k (count_at start (p ++ r) t) (count_at start (p ++ r) (suc t)) (k.load t)),
          sum_ext i.slots (slot_first start),
          sum_mono j.slots (slot_second start),
        )
