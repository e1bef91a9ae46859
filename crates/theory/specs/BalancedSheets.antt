-- The balanced sheet on a sheet's own active modules (document 02, §7): it serves, with the same modules active in the same slots, and costs
-- just as much to operate as the sheet's counts.
use Rattle.std.specs.Prelude.{ℕ, zero, suc, ◌+◌, ◌*◌, ◌≤◌, ◌<◌, ◌≡◌, refl, Bool, true, false, cond, List, leb}
use Rattle.basics.specs.Core.{ap, ◌∙◌, or-true, ⊎_elim, add-zero}
use Rattle.basics.specs.Core.{le_refl, le_dest, add-one, arith}
use Rattle.basics.specs.Numbers.{true_or_false}
use Rattle.basics.specs.Sums.{sum, sum_ext, sum_join}
use Rattle.model.specs.Instance.{Instance}
use Rattle.model.specs.Sheets.{off, is_off, step_of, state_at, serves, step_cost, sheet_operating_cost, active_of, counts_of}
use Rattle.model.specs.Plans.{module_byte}
use Rattle.model.specs.Explanation.{counts_operating_cost, SameActive}
use Rattle.theory.specs.Hypotheses.{Entry, active_in, light_in, row_cost}
use Rattle.theory.specs.RowCosts.{byte_active, plan_row_entry, plan_row_light, plan_row_cost}
use Rattle.theory.specs.SheetLaws.{counts_at_lem, row_serves, sheet_with, with_state, with_serves}

-- The row in which the active modules of row b have, one after the other, the bytes c 0, c 1, .., and the other modules are off.
abbrev pub bytes_on : (b c : ℕ → ℕ) → ℕ → ℕ
bytes_on b c k = cond (is_off (b k)) off (c (active_in k b))

-- A row has more active modules than stand before one of them.
pub active_before : (b : ℕ → ℕ) {k m : ℕ} → k < m → is_off (b k) ≡ false → active_in k b < active_in m b
unfolding sum active_in
active_before b {k} {m} h on =
    let (d, e) = le_dest h in
    let here : active_of (b k) ≡ 1 = rw on in
    rw (← e) (omega (arith, sum_join (suc k) d (λ j. active_of (b j))))

module _ (b c : ℕ → ℕ) where
  -- The sum over the row of a function of the byte is that over the first bytes of c, one for each active module, and over the bytes for off.
  pub on_sum :
      (g : ℕ → ℕ) (m : ℕ) →
      sum m (λ k. g (bytes_on b c k)) + active_in m b * g off ≡ sum (active_in m b) (λ j. g (c j)) + m * g off
  unfolding sum active_in
  on_sum g zero = refl
  on_sum g (suc m) = go (is_off (b m)) (on_sum g m)
    where
      go : (x : Bool) →
          sum m (λ k. g (bytes_on b c k)) + active_in m b * g off ≡ sum (active_in m b) (λ j. g (c j)) + m * g off →
          sum m (λ k. g (bytes_on b c k)) + g (cond x off (c (active_in m b))) + (active_in m b + cond x 0 1) * g off ≡
          sum (active_in m b + cond x 0 1) (λ j. g (c j)) + suc m * g off
      go true rest = rw add-zero (omega arith)
      go false rest = rw add-one (omega arith)

  -- Where no byte that is given is off, the row has the active modules of b.
  pub on_active : (m : ℕ) → ((j : ℕ) → j < active_in m b → is_off (c j) ≡ false) → (k : ℕ) → k < m → is_off (bytes_on b c k) ≡ is_off (b k)
  on_active m given k h =
      ⊎_elim
      (λ (x : is_off (b k) ≡ true). rw x)
      (λ (x : is_off (b k) ≡ false). rw x (given (active_in k b) (active_before b h x)))
      (true_or_false (is_off (b k)))

  -- Where each byte that is given is an entry, so is each of the row.
  pub on_entry :
      (i : Instance) (m : ℕ) → ((j : ℕ) → j < active_in m b → Entry i (c j)) → (k : ℕ) → k < m → Entry i (bytes_on b c k)
  on_entry i m given k h =
      ⊎_elim
      (λ (x : is_off (b k) ≡ true). rw x (or-true (leb off i.top_step)))
      (λ (x : is_off (b k) ≡ false). rw x (given (active_in k b) (active_before b h x)))
      (true_or_false (is_off (b k)))

module _ (i : Instance) (s : List ℕ) where
  -- The bytes of a sheet in slot t, and its count there.
  abbrev row_in : ℕ → ℕ → ℕ
  row_in t = state_at i s (suc t)

  abbrev count_in : ℕ → ℕ
  count_in t = active_in i.modules (row_in t)

  -- The row of a plan with the same count, and its bytes on the modules that are active in the sheet.
  abbrev plan_row : ℕ → ℕ → ℕ
  plan_row t = module_byte i (count_in t) (i.load t)

  abbrev balanced_row : ℕ → ℕ → ℕ
  balanced_row t = bytes_on (row_in t) (plan_row t)

  -- The sheet of these rows.
  abbrev pub balanced_sheet : List ℕ
  balanced_sheet = sheet_with i balanced_row

  module _ (steps : i.top_step < off) (e : serves i s ≡ true) where
    -- It has the same modules active in the same slots.
    pub balanced_active : SameActive i s balanced_sheet
    balanced_active t k h g =
        let on = byte_active i (count_in t) (i.load t) (row_serves i s e t h) steps in
        ap is_off (with_state i balanced_row t k h g) ∙ on_active (row_in t) (plan_row t) i.modules on k g

    -- It serves.
    pub balanced_serves : serves i balanced_sheet ≡ true
    unfolding light_in
    balanced_serves = with_serves i balanced_row entry light
      where
        entry : (t k : ℕ) → t < i.slots → k < i.modules → Entry i (balanced_row t k)
        entry t k h g =
            on_entry (row_in t) (plan_row t) i i.modules (λ j _. plan_row_entry i (count_in t) (i.load t) (row_serves i s e t h) j) k g

        light : (t : ℕ) → t < i.slots → i.load t ≤ light_in i.modules (balanced_row t)
        light t h =
            let enough = plan_row_light i (count_in t) (count_in t) (i.load t) steps (le_refl (count_in t)) (row_serves i s e t h) in
            omega (arith, on_sum (row_in t) (plan_row t) step_of i.modules)

    -- It costs as much to operate as the sheet's counts.
    pub balanced_cost : sheet_operating_cost i balanced_sheet ≡ counts_operating_cost i (counts_of i s)
    unfolding sheet_operating_cost counts_operating_cost row_cost step_cost
    balanced_cost =
        sum_ext i.slots
        (λ t h.
        let placed = on_sum (row_in t) (plan_row t) (step_cost i) i.modules in
        let cost = plan_row_cost i (count_in t) (count_in t) (i.load t) steps (le_refl (count_in t)) (row_serves i s e t h) in
        rw (sum_ext i.modules (λ k g. ap (step_cost i) (with_state i balanced_row t k h g)), counts_at_lem i s (suc t) h) (omega arith))
