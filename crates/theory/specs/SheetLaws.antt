-- Sheets: their cost by the modules that go on, `sheet_cost_starts`; the thesis's 2.2 and 2.3, `thesis_cost`, `serves_feasible`; that on a convex
-- table a sheet that serves costs at least what its counts cost, `sheet_at_least`; and that the sheet of a plan serves and costs just that,
-- `plan_sheet_serves`, `plan_cost_counts`; operating cost and switching cost also apart (02 §7).
use Rattle.std.specs.Prelude.{ℕ, zero, suc, ◌+◌, ◌-◌, ◌*◌, ◌/◌, ◌%◌, ◌≤◌, ◌<◌, ◌≡◌, refl, Bool, true, false, cond, ◌↔◌, List, length, get_or}
use Rattle.basics.specs.Core.{ap, ap₂, sym, ◌∙◌, subst}
use Rattle.basics.specs.Core.{⊎_elim, eqb-true, eq-eqb, leb-true, le-leb, lt-ltb, le-ltb, le_refl, le_trans, le_of_lt, add-le-add}
use Rattle.basics.specs.Core.{mul-le-mul_left, mul-zero, mul_comm, eq-zero-or-pos, mod-lt, div-lt_iff_lt-mul, div-add-mod', add-one, arith}
use Rattle.std.proofs.Math.Arith.{digits_lt}
use Rattle.basics.specs.Tests.{every_at, every_all, and_left, and_right, and_both}
use Rattle.basics.specs.Sums.{sum, sum_ext, sum_mono, sum_const}
use Rattle.basics.specs.Lists.{tabulate, length_tabulate, get_or_tabulate, equal_tabulate, rows, length_rows, get_or_rows}
use Rattle.model.specs.Instance.{Instance}
use Rattle.model.specs.Counts.{can_serve, operating_cost}
use Rattle.model.specs.Sheets.{off, is_off, step_of, state_at, sheet_length, sheet_entries, light_at, sheet_light, serves}
use Rattle.model.specs.Sheets.{step_cost, sheet_operating_cost, sheet_switching_cost, sheet_cost, active_of, active_at, counts_of}
use Rattle.model.specs.Thesis.{switching_price, schedule_cost, schedule_of, Feasible, count_at, counts_cost}
use Rattle.model.specs.Plans.{module_byte, slot_row, sheet_of, plan_cost, plan_serves}
use Rattle.model.specs.Explanation.{counts_operating_cost, counts_switching_cost}
use Rattle.laws.specs.Operating.{byte_off}
use Rattle.laws.specs.Tables.{Convex}
use Rattle.theory.specs.Hypotheses.{Entry, active_in, light_in, row_cost, PlanFits}
use Rattle.theory.specs.RowCosts.{active_le, row_fits, row_at_least, plan_row_entry, plan_row_active, plan_row_light, plan_row_cost}
use Rattle.theory.specs.Switching.{started, started_in, stopped_in, change_cost_lem, switches_balance, both_prices}
use Rattle.theory.specs.Switching.{started_at_least, started_at_most, plan_started}
use Rattle.theory.specs.CountCosts.{rises_cost, counts_cost_parts}

-- A row that is off has no active module.
off_row_active : (m : ℕ) (b : ℕ → ℕ) → ((k : ℕ) → b k ≡ off) → active_in m b ≡ 0
unfolding active_in
off_row_active m b e = sum_const m (λ k h. rw (e k)) ∙ mul-zero m

module _ (i : Instance) (s : List ℕ) where
  -- No module is active before slot 1.
  off_before : active_in i.modules (state_at i s 0) ≡ 0
  unfolding state_at
  off_before = off_row_active i.modules (state_at i s 0) (λ k. refl)

  -- No module is active after the last slot.
  off_after : active_in i.modules (state_at i s (suc i.slots)) ≡ 0
  unfolding state_at
  off_after = off_row_active i.modules (state_at i s (suc i.slots)) (λ k. rw (le-ltb i.slots i.slots (le_refl i.slots)))

  -- The number of modules that go on after time t.
  abbrev pub started_at : ℕ → ℕ
  started_at t = started_in i.modules (state_at i s t) (state_at i s (suc t))

  -- The number of modules that go off after time t.
  abbrev stopped_at : ℕ → ℕ
  stopped_at t = stopped_in i.modules (state_at i s t) (state_at i s (suc t))

  -- Modules go off as often as on.
  stopped_as_started : sum (i.slots + 1) stopped_at ≡ sum (i.slots + 1) started_at
  stopped_as_started = rw add-one (omega (arith, switches_balance i.modules (state_at i s) (suc i.slots), off_before, off_after))

  -- No module goes on after the last slot.
  started_in_slots : sum (i.slots + 1) started_at ≡ sum i.slots started_at
  unfolding sum
  started_in_slots =
      rw add-one (omega (arith, started_at_most i.modules (state_at i s i.slots) (state_at i s (suc i.slots)), off_after))

  -- The switching cost is the switching price, both prices together, for each module that goes on.
  pub switching_cost : sheet_switching_cost i s ≡ switching_price i * sum i.slots started_at
  unfolding sheet_switching_cost
  switching_cost =
      sum_ext (i.slots + 1) (λ t h. change_cost_lem i i.modules (state_at i s t) (state_at i s (suc t))) ∙
      both_prices (i.slots + 1) i.power_up i.power_down started_at stopped_at stopped_as_started ∙
      ap (λ (x : ℕ). switching_price i * x) started_in_slots

  -- 'By thesis chapter 2 this equals charging both at warm-up' (01): a sheet costs what its rows cost and the switching price for each
  -- module that goes on.
  pub sheet_cost_starts : sheet_cost i s ≡
      sum i.slots (λ t. row_cost i i.modules (state_at i s (suc t))) +
      switching_price i * sum i.slots (λ t. started_in i.modules (state_at i s t) (state_at i s (suc t)))
  unfolding sheet_cost sheet_operating_cost row_cost
  sheet_cost_starts = omega (arith, switching_cost)

-- In a schedule a byte's step times its state is its step.
assigned_active : (b : ℕ) → step_of b * active_of b ≡ step_of b
assigned_active b = go (is_off b)
  where
    go : (x : Bool) → cond x 0 b * cond x 0 1 ≡ cond x 0 b
    go true = refl
    go false = omega arith

-- In a schedule F of a byte's step times its state is its cost.
cost_active : (i : Instance) (b : ℕ) → i.table (step_of b) * active_of b ≡ step_cost i b
unfolding step_cost
cost_active i b = go (is_off b)
  where
    go : (x : Bool) → i.table (cond x 0 b) * cond x 0 1 ≡ cond x 0 (i.table b)
    go true = omega arith
    go false = omega arith

-- The truncated difference of two states says whether a module goes on.
state_difference : (a b : Bool) → cond b 0 1 - cond a 0 1 ≡ started a b
state_difference true true = refl
state_difference true false = refl
state_difference false true = refl
state_difference false false = refl

module _ (i : Instance) (s : List ℕ) where
  -- A sheet serves exactly if it has the right length, entries and light.
  pub serves_parts : serves i s ≡ true ↔ ((sheet_length i s ≡ true) × (sheet_entries i s ≡ true) × (sheet_light i s ≡ true))
  unfolding serves
  serves_parts = (
    λ e.
        let rest = and_right (sheet_length i s) _ e in
        (and_left (sheet_length i s) _ e, and_left (sheet_entries i s) _ rest, and_right (sheet_entries i s) _ rest),
    λ (size, entries, light). and_both size (and_both entries light),
  )

  -- The cost of any list of bytes is the thesis's cost 2.2 of its states and steps.
  pub thesis_cost : sheet_cost i s ≡ schedule_cost i (schedule_of i s)
  unfolding schedule_cost schedule_of row_cost started_in
  thesis_cost = rw sheet_cost_starts (simp (cost_active, state_difference))

  schedule_light : (t : ℕ) → sum i.modules (λ k. (schedule_of i s).assigned t k * (schedule_of i s).active t k) ≡ light_at i s t
  unfolding schedule_of light_at
  schedule_light t = simp assigned_active

  -- A list of bytes has enough light exactly if its states and steps satisfy the thesis's 2.3.
  pub thesis_feasible : sheet_light i s ≡ true ↔ Feasible i (schedule_of i s)
  unfolding sheet_light
  thesis_feasible = (
    λ e t h. rw (schedule_light (suc t)) (leb-true _ _ (every_at i.slots _ e t h)),
    λ f. every_all i.slots _ (λ t h. le-leb _ _ (rw (schedule_light (suc t)) at (f t h))),
  )

  -- A list of m × T bytes, each a step or off, serves exactly if its states and steps satisfy 2.3.
  pub serves_feasible : sheet_length i s ≡ true → sheet_entries i s ≡ true → serves i s ≡ true ↔ Feasible i (schedule_of i s)
  serves_feasible size entries =
      (λ e. thesis_feasible.0 (serves_parts.0 e).2, λ f. serves_parts.1 (size, entries, thesis_feasible.1 f))

-- The counts of a sheet.
module _ (i : Instance) (s : List ℕ) where
  -- The count of a sheet at a time is how many modules are active then.
  pub counts_at_lem : (t : ℕ) → t ≤ i.slots → count_at 0 (counts_of i s) t ≡ active_in i.modules (state_at i s t)
  unfolding count_at counts_of active_at active_in
  counts_at_lem zero h = sym (off_before i s)
  counts_at_lem (suc t) h = get_or_tabulate i.slots _ t 0 h

  -- A sheet has a count for each slot.
  pub counts_length : length (counts_of i s) ≡ i.slots
  unfolding counts_of
  counts_length = length_tabulate i.slots _

  -- Each slot of a sheet that serves is a row of entries.
  pub row_entries : serves i s ≡ true → (t : ℕ) → t < i.slots → (k : ℕ) → k < i.modules → Entry i (state_at i s (suc t) k)
  unfolding state_at sheet_length sheet_entries
  row_entries e t h k g =
      let (sized, entries, light) = (serves_parts i s).0 e in
      let size : length s ≡ i.modules * i.slots = eqb-true _ _ sized in
      rw (lt-ltb t i.slots h) (every_at (length s) _ entries (t * i.modules + k) (omega (arith, digits_lt h g)))

  -- Each slot of a sheet that serves has at least the load for its light.
  pub row_light_lem : serves i s ≡ true → (t : ℕ) → t < i.slots → i.load t ≤ light_in i.modules (state_at i s (suc t))
  unfolding light_in sheet_light light_at
  row_light_lem e t h = leb-true _ _ (every_at i.slots _ ((serves_parts i s).0 e).2 t h)

  -- In each slot of a sheet that serves the active modules can serve the load.
  pub row_serves : serves i s ≡ true → (t : ℕ) → t < i.slots → i.load t ≤ active_in i.modules (state_at i s (suc t)) * i.top_step
  row_serves e t h = le_trans (row_light_lem e t h) (row_fits i i.modules (state_at i s (suc t)) (row_entries e t h))

-- On a convex table a sheet that serves costs at least as much to operate as its counts.
pub operating_at_least : (i : Instance) → Convex i.top_step i.table → (s : List ℕ) → serves i s ≡ true →
    counts_operating_cost i (counts_of i s) ≤ sheet_operating_cost i s
unfolding counts_operating_cost sheet_operating_cost row_cost
operating_at_least i c s e =
    sum_mono i.slots
    (λ t h.
    rw (counts_at_lem i s (suc t) h)
    (row_at_least i c i.modules (state_at i s (suc t)) (row_entries i s e t h) (i.load t) (row_light_lem i s e t h)))

-- The switching cost of any list of bytes is at least that of its counts.
pub switching_at_least : (i : Instance) (s : List ℕ) → counts_switching_cost i (counts_of i s) ≤ sheet_switching_cost i s
switching_at_least i s =
    rw (rises_cost i (counts_of i s) (counts_length i s), switching_cost i s)
    (mul-le-mul_left (switching_price i)
    (sum_mono i.slots
    (λ t h.
    rw (counts_at_lem i s t (le_of_lt h), counts_at_lem i s (suc t) h)
    (started_at_least i.modules (state_at i s t) (state_at i s (suc t))))))

-- On a convex table a sheet that serves costs at least what its counts cost by 3.9 to 3.13 (thesis 3.8).
pub sheet_at_least : (i : Instance) → Convex i.top_step i.table → (s : List ℕ) → serves i s ≡ true →
    counts_cost i 0 (counts_of i s) ≤ sheet_cost i s
unfolding sheet_cost
sheet_at_least i c s e =
    rw (counts_cost_parts i (counts_of i s) (counts_length i s)) (add-le-add (operating_at_least i c s e) (switching_at_least i s))

-- The counts of a sheet that serves are a plan whose sheet can be written.
pub sheet_counts_fit : (i : Instance) (s : List ℕ) → i.top_step < off → serves i s ≡ true → PlanFits i (counts_of i s)
unfolding count_at plan_serves can_serve
sheet_counts_fit i s steps e =
    record {
      steps = steps;
      slotwise = counts_length i s;
      in_rack = λ t h. rw (counts_at_lem i s (suc t) h) (active_le i.modules (state_at i s (suc t)));
      served = every_all i.slots _ (λ t h. rw (counts_at_lem i s (suc t) h) (le-leb _ _ (row_serves i s e t h)));
    }

-- The sheet with byte f t k for slot t and module k, both from 0.
abbrev pub sheet_with : Instance → (ℕ → ℕ → ℕ) → List ℕ
sheet_with i f = rows i.slots (λ t. tabulate i.modules (f t))

module _ (i : Instance) (f : ℕ → ℕ → ℕ) where
  -- It has m × T bytes.
  with_length : length (sheet_with i f) ≡ i.modules * i.slots
  with_length =
      length_rows i.modules i.slots _ (λ t. length_tabulate i.modules (f t)) ∙ mul_comm i.slots i.modules

  with_byte : (t k : ℕ) → t < i.slots → k < i.modules → get_or (sheet_with i f) (t * i.modules + k) off ≡ f t k
  with_byte t k h g =
      get_or_rows i.modules i.slots _ (λ t. length_tabulate i.modules (f t)) t k off h g ∙ get_or_tabulate i.modules (f t) k off g

  -- In slot t the sheet has the bytes of t.
  pub with_state : (t k : ℕ) → t < i.slots → k < i.modules → state_at i (sheet_with i f) (suc t) k ≡ f t k
  unfolding state_at
  with_state t k h g = rw (lt-ltb t i.slots h) (with_byte t k h g)

  -- A place in the sheet is that of a slot and a module.
  place_slot : (j : ℕ) → j < length (sheet_with i f) → (j / i.modules < i.slots) × (j % i.modules < i.modules)
  place_slot j h =
      ⊎_elim
      (λ (none : i.modules ≡ 0). absurd (omega (arith, with_length, ap (λ (x : ℕ). x * i.slots) none)))
      (λ (some : 0 < i.modules). ((div-lt_iff_lt-mul some).1 (omega (arith, with_length)), mod-lt j some))
      (eq-zero-or-pos i.modules)

  -- It serves where each slot has entries with enough light.
  pub with_serves :
      ((t k : ℕ) → t < i.slots → k < i.modules → Entry i (f t k)) → ((t : ℕ) → t < i.slots → i.load t ≤ light_in i.modules (f t)) →
      serves i (sheet_with i f) ≡ true
  unfolding sheet_length sheet_entries sheet_light light_at light_in
  with_serves entries light =
      (serves_parts i (sheet_with i f)).1
      (eq-eqb _ _ with_length, every_all (length (sheet_with i f)) _ entry, every_all i.slots _ (λ t h. le-leb _ _ (enough t h)))
    where
      entry : (j : ℕ) → j < length (sheet_with i f) → Entry i (get_or (sheet_with i f) j off)
      entry j h =
          let (in_show, in_rack) = place_slot j h in
          subst (λ (x : ℕ). Entry i (get_or (sheet_with i f) x off)) (div-add-mod' j i.modules)
          (rw (with_byte _ _ in_show in_rack) (entries _ _ in_show in_rack))

      enough : (t : ℕ) → t < i.slots → i.load t ≤ light_at i (sheet_with i f) (suc t)
      enough t h = rw (sum_ext i.modules (λ k g. ap step_of (with_state t k h g))) (light t h)

-- The load at a time, none at time 0.
abbrev load_at : Instance → ℕ → ℕ
load_at i zero = 0
load_at i (suc t) = i.load t

-- The sheet of a plan.
module _ (i : Instance) (p : List ℕ) where
  pub sheet_length_lem : length (sheet_of i p) ≡ i.modules * i.slots
  unfolding sheet_of slot_row
  sheet_length_lem = with_length i _

  -- At time t the sheet has the row of the count and the load.
  state_row : (t : ℕ) → t ≤ i.slots → (k : ℕ) → k < i.modules →
      state_at i (sheet_of i p) t k ≡ module_byte i (count_at 0 p t) (load_at i t) k
  unfolding state_at count_at sheet_of slot_row
  state_row zero h k g = sym (byte_off i 0 0 k (omega arith))
  state_row (suc t) h k g = with_state i _ t k h g

-- The sheet of a plan whose sheet can be written.
module _ (i : Instance) (p : List ℕ) (fit : PlanFits i p) where
  fits_at : (t : ℕ) → t ≤ i.slots → load_at i t ≤ count_at 0 p t * i.top_step
  unfolding count_at plan_serves can_serve
  fits_at zero h = omega arith
  fits_at (suc t) h = leb-true _ _ (every_at i.slots _ fit.served t h)

  rack_at : (t : ℕ) → t ≤ i.slots → count_at 0 p t ≤ i.modules
  unfolding count_at
  rack_at zero h = omega arith
  rack_at (suc t) h = fit.in_rack t h

  -- The sheet of a plan whose counts serve the loads serves the show.
  pub plan_sheet_serves : serves i (sheet_of i p) ≡ true
  unfolding sheet_of slot_row count_at
  plan_sheet_serves =
      with_serves i _
      (λ t k h g. plan_row_entry i (count_at 0 p (suc t)) (i.load t) (fits_at (suc t) h) k)
      (λ t h. plan_row_light i i.modules (count_at 0 p (suc t)) (i.load t) fit.steps (rack_at (suc t) h) (fits_at (suc t) h))

  plan_operating : (t : ℕ) → t < i.slots →
      row_cost i i.modules (state_at i (sheet_of i p) (suc t)) ≡ operating_cost i (count_at 0 p (suc t)) (i.load t)
  unfolding row_cost
  plan_operating t h =
      sum_ext i.modules (λ k g. ap (step_cost i) (state_row i p (suc t) h k g)) ∙
      plan_row_cost i i.modules (count_at 0 p (suc t)) (i.load t) fit.steps (rack_at (suc t) h) (fits_at (suc t) h)

  plan_switching : (t : ℕ) → t < i.slots → started_at i (sheet_of i p) t ≡ count_at 0 p (suc t) - count_at 0 p t
  unfolding started_in
  plan_switching t h =
      let l = le_of_lt h in
      sum_ext i.modules
      (λ k g. ap₂ (λ a b. started (is_off a) (is_off b)) (state_row i p t l k g) (state_row i p (suc t) h k g)) ∙
      plan_started i i.modules (count_at 0 p t) (load_at i t) (count_at 0 p (suc t)) (i.load t)
      fit.steps (rack_at t l) (rack_at (suc t) h) (fits_at t l) (fits_at (suc t) h)

  -- The sheet of a plan has the plan's counts.
  pub plan_counts : counts_of i (sheet_of i p) ≡ p
  unfolding counts_of active_at active_in count_at
  plan_counts =
      sym (equal_tabulate fit.slotwise
      (λ t h.
      sym (sum_ext i.modules (λ k g. ap active_of (state_row i p (suc t) h k g)) ∙
      plan_row_active i i.modules (get_or p t 0) (i.load t) fit.steps (rack_at (suc t) h) (fits_at (suc t) h))))

  -- The sheet of a plan costs as much to operate as the plan's counts.
  pub plan_operating_cost : sheet_operating_cost i (sheet_of i p) ≡ counts_operating_cost i p
  unfolding sheet_operating_cost counts_operating_cost row_cost
  plan_operating_cost = sum_ext i.slots plan_operating

  -- The switching cost of the sheet of a plan is that of the plan's counts.
  pub plan_switching_cost : sheet_switching_cost i (sheet_of i p) ≡ counts_switching_cost i p
  plan_switching_cost =
      switching_cost i (sheet_of i p) ∙ ap (λ (x : ℕ). switching_price i * x) (sum_ext i.slots plan_switching) ∙
      sym (rises_cost i p fit.slotwise)

  -- A plan costs what its counts cost by 3.9 to 3.13.
  pub plan_cost_counts : plan_cost i p ≡ counts_cost i 0 p
  unfolding plan_cost sheet_cost
  plan_cost_counts = rw (plan_operating_cost, plan_switching_cost) (sym (counts_cost_parts i p fit.slotwise))
