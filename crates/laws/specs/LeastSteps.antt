-- G and the active step (document 02, §2). On any table: what they are, `active_least`, `active_cost`, and that G never falls, `least_never_falls`.
-- On a convex one: the active step is the greater of the step and the lowest step, `active_greater`, and G is convex, `least_convex`.
use Rattle.std.specs.Prelude.{ℕ, ◌+◌, ◌-◌, ◌≤◌, ◌<◌, max, ◌≡◌}
use Rattle.basics.specs.Core.{sym, ap, ◌∙◌, ⊎_elim, le_of_lt, max-eq_left, max-eq_right, arith}
use Rattle.basics.specs.Numbers.{le_or_lt}
use Rattle.basics.specs.Rising.{rises_to}
use Rattle.basics.specs.Ranges.{first_over, LeastAt, least_at_unique, least_over_below, least_index_lem, least_index_value}
use Rattle.model.specs.Instance.{Instance}
use Rattle.model.specs.MoreLight.{least_from, active_step}
use Rattle.laws.specs.Tables.{Convex, NeverFalls, rises_past}

-- The lowest step: the smallest step of least cost.
abbrev pub lowest_step : Instance → ℕ
lowest_step i = active_step i 0

module _ (i : Instance) where
  -- G(k) is at most F(k).
  pub least_from_below : (k : ℕ) → least_from i k ≤ i.table k
  unfolding least_from
  least_from_below k = least_over_below i.table k (i.top_step - k) k (omega arith) (omega arith)

  -- G(k) is F of the active step.
  pub active_cost : (k : ℕ) → i.table (active_step i k) ≡ least_from i k
  unfolding least_from active_step
  active_cost k = least_index_value i.table k (i.top_step - k)

  -- The active step is the smallest step from k to Q of least cost.
  pub active_least : (k : ℕ) → k ≤ i.top_step → LeastAt i.table k i.top_step (active_step i k)
  unfolding least_from active_step
  active_least k h = let top : k + (i.top_step - k) ≡ i.top_step = omega arith in rw top at (least_index_lem i.table k (i.top_step - k))

  -- The active step of k is at least k.
  pub active_from : (k : ℕ) → k ≤ active_step i k
  unfolding least_from active_step
  active_from k = (least_index_lem i.table k (i.top_step - k)).from

  -- Where the step j is the smallest from k to Q of least cost, it is the active step.
  pub active_is : {k j : ℕ} → LeastAt i.table k i.top_step j → active_step i k ≡ j
  active_is {k} L = least_at_unique (active_least k (omega (arith, L.from, L.to))) L

  -- G never falls.
  pub least_never_falls : NeverFalls i.top_step (least_from i)
  least_never_falls k h =
      let later = active_least (k + 1) (omega arith) in
      let below = (active_least k (omega arith)).least (active_step i (k + 1)) (omega (arith, later.from)) later.to in
      omega (arith, active_cost k, active_cost (k + 1))

  -- Where no step from k to Q costs less than step k, that is the active step of k, also beyond Q, where there is no other.
  own_step : (k : ℕ) → ((x : ℕ) → k ≤ x → x ≤ i.top_step → i.table k ≤ i.table x) → active_step i k ≡ k
  unfolding active_step first_over
  own_step k least =
      ⊎_elim
      (λ (h : k ≤ i.top_step). active_is (record { from = omega arith; to = h; least = least; before = λ x a b. absurd (omega arith) }))
      (λ (h : i.top_step < k). let none : i.top_step - k ≡ 0 = omega arith in rw none)
      (le_or_lt k i.top_step)

  -- Where the table never falls, a module is active at the step itself, and G is F.
  pub never_falling_same : NeverFalls i.top_step i.table → (k : ℕ) → (active_step i k ≡ k) × (least_from i k ≡ i.table k)
  never_falling_same rises k =
      let own = own_step k (rises_to i.table i.top_step rises k) in
      (own, sym (active_cost k) ∙ ap i.table own)

  -- Up to the lowest step a module is active at the lowest step.
  at_lowest : (k : ℕ) → k ≤ lowest_step i → active_step i k ≡ lowest_step i
  at_lowest k h =
      let p = active_least 0 (omega arith) in
      active_is (record { from = h; to = p.to; least = λ x a. p.least x (omega arith); before = λ x a. p.before x (omega arith) })

  -- So up to there G is level.
  pub least_level : (k : ℕ) → k ≤ lowest_step i → least_from i k ≡ i.table (lowest_step i)
  least_level k h = sym (active_cost k) ∙ ap i.table (at_lowest k h)

  -- On a convex table.
  module _ (convex : Convex i.top_step i.table) where
    -- From the lowest step on a module is active at the step itself.
    at_itself : (k : ℕ) → lowest_step i ≤ k → active_step i k ≡ k
    at_itself k from =
        let p = active_least 0 (omega arith) in
        let rises = rises_past i.top_step i.table convex (lowest_step i) (λ g. p.least (lowest_step i + 1) (omega arith) (omega arith)) in
        own_step k (λ x. rises k x from)

    -- 'the smallest such j' is the greater of the step and the lowest step.
    pub active_greater : (k : ℕ) → active_step i k ≡ max k (lowest_step i)
    active_greater k =
        ⊎_elim
        (λ (g : k ≤ lowest_step i). at_lowest k g ∙ sym (max-eq_right g))
        (λ (g : lowest_step i < k). at_itself k (le_of_lt g) ∙ sym (max-eq_left (le_of_lt g)))
        (le_or_lt k (lowest_step i))

    -- So from there on G is F.
    pub least_itself : (k : ℕ) → lowest_step i ≤ k → least_from i k ≡ i.table k
    least_itself k h = sym (active_cost k) ∙ ap i.table (at_itself k h)

    -- G is convex.
    pub least_convex : Convex i.top_step (least_from i)
    least_convex k h =
        ⊎_elim
        (λ (g : k + 1 ≤ lowest_step i).
        let next : k + 1 + 1 ≡ k + 2 = omega arith in
        omega (arith, least_level k (omega arith), least_level (k + 1) g, rw next at (least_never_falls (k + 1) h)))
        (λ (g : lowest_step i < k + 1).
        let own : (x : ℕ) → k ≤ x → least_from i x ≡ i.table x = λ x a. least_itself x (omega arith) in
        omega (arith, convex k h, own k (omega arith), own (k + 1) (omega arith), own (k + 2) (omega arith)))
        (le_or_lt (k + 1) (lowest_step i))
