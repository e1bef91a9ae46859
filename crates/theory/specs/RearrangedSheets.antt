-- The swaps by sheets (document 02, §7): they are 0 exactly if no sheet that serves, with the same steps in each slot, costs less:
-- `swaps_zero_sheets`.
use Rattle.std.specs.Prelude.{ℕ, zero, suc, ◌-◌, ◌*◌, ◌≤◌, ◌<◌, ◌≡◌, refl, true, false, cond, List, ◌↔◌, eqb}
use Rattle.basics.specs.Core.{sym, ap, ◌∙◌, iff_trans, ⊎_elim, eq-eqb}
use Rattle.basics.specs.Core.{ne_eqb, eqb-true, not-suc-le-zero, le_of_suc-le-suc, eq-or-lt_of_le, add-sub_of_le, mul-zero, arith}
use Rattle.basics.specs.Numbers.{le_or_lt, true_or_false}
use Rattle.basics.specs.Lists.{tabulate_same}
use Rattle.basics.specs.Sums.{sum, sum_ext, sum_add, sum_scale, sum_const, sum_from}
use Rattle.model.specs.Instance.{Instance}
use Rattle.model.specs.Sheets.{off, is_off, step_of, state_at, serves, step_cost, sheet_operating_cost, sheet_cost, active_of, active_at, counts_of}
use Rattle.model.specs.Explanation.{excess_switching_cost, how_often, SameActive, SameSteps, NoBetterChoice, NoBetterOrder}
use Rattle.theory.specs.Hypotheses.{Entry, active_in, light_in, Plannable}
use Rattle.theory.specs.RowCosts.{entry_le}
use Rattle.theory.specs.SheetLaws.{serves_parts, counts_at_lem, row_entries, row_light_lem, sheet_with, with_state, with_serves}
use Rattle.theory.specs.BalancedSheets.{bytes_on, active_before, on_sum, on_active, on_entry}
use Rattle.theory.specs.Explanations.{same_switching, swaps_zero}

-- Sums of sums may be taken in either order.
sum_swap : (m n : ℕ) (f : ℕ → ℕ → ℕ) → sum m (λ k. sum n (f k)) ≡ sum n (λ v. sum m (λ k. f k v))
unfolding sum
sum_swap zero n f = sym (sum_const n (λ v h. refl) ∙ mul-zero n)
sum_swap (suc m) n f = omega (arith, sum_swap m n f, sum_add n (λ v. sum m (λ k. f k v)) (f m))

module _ (g : ℕ → ℕ) where
  -- A sum of which all terms but that at x are 0.
  sum_only : (n x : ℕ) → x < n → sum n (λ v. g v * cond (eqb x v) 1 0) ≡ g x
  unfolding sum
  sum_only n x h =
      let before = sum_const x (λ v l. other v (λ e. omega arith)) in
      let after = sum_from (suc x) (n - suc x) n (add-sub_of_le h) (λ v l _. other v (λ e. omega arith)) in
      let here : g x * cond (eqb x x) 1 0 ≡ g x = rw (eq-eqb x x refl) (omega arith) in
      omega arith
    where
      other : (v : ℕ) → (x ≡ v → ⊥) → g v * cond (eqb x v) 1 0 ≡ 0
      other v d = rw (ne_eqb x v d) (mul-zero (g v))

  -- A sum over the bytes of a row is one over all bytes, each as often as it stands there.
  row_sum : (m n : ℕ) (b : ℕ → ℕ) → ((k : ℕ) → k < m → b k < n) →
      sum m (λ k. g (b k)) ≡ sum n (λ v. g v * sum m (λ k. cond (eqb (b k) v) 1 0))
  row_sum m n b fits =
      sum_ext m (λ k h. sym (sum_only n (b k) (fits k h))) ∙ sum_swap m n (λ k v. g v * cond (eqb (b k) v) 1 0) ∙
      sum_ext n (λ v h. sum_scale m (g v) (λ k. cond (eqb (b k) v) 1 0))

-- Two sheets that serve, with the same steps in each slot, cost as much to operate and have the same counts.
module _ (i : Instance) (s r : List ℕ) (steps : i.top_step < off) (e : serves i s ≡ true) (f : serves i r ≡ true) (same : SameSteps i s r) where
  same_sum : (g : ℕ → ℕ) (t : ℕ) → t < i.slots →
      sum i.modules (λ k. g (state_at i r (suc t) k)) ≡ sum i.modules (λ k. g (state_at i s (suc t) k))
  unfolding how_often
  same_sum g t h =
      row_sum g i.modules 256 (state_at i r (suc t)) (λ k l. omega (arith, entry_le i _ steps (row_entries i r f t h k l))) ∙
      sum_ext 256 (λ v _. ap (λ (x : ℕ). g v * x) (same t v h)) ∙
      sym (row_sum g i.modules 256 (state_at i s (suc t)) (λ k l. omega (arith, entry_le i _ steps (row_entries i s e t h k l))))

  steps_operating : sheet_operating_cost i r ≡ sheet_operating_cost i s
  unfolding sheet_operating_cost
  steps_operating = sum_ext i.slots (same_sum (step_cost i))

  steps_counts : counts_of i r ≡ counts_of i s
  unfolding counts_of active_at
  steps_counts = tabulate_same i.slots (same_sum active_of)

-- The byte of the active module of row b before which j others are active, where there is one among the first m.
nth_active : (b : ℕ → ℕ) (m j : ℕ) → ℕ
nth_active b zero j = off
nth_active b (suc m) j = cond (eqb (active_in m b) j) (b m) (nth_active b m j)

module _ (b : ℕ → ℕ) where
  -- What holds of the byte of each active module holds of these.
  nth_from : (P : ℕ → Type 0) (m : ℕ) → ((k : ℕ) → k < m → is_off (b k) ≡ false → P (b k)) →
      (j : ℕ) → j < active_in m b → P (nth_active b m j)
  unfolding sum active_in nth_active
  nth_from P zero all j h = absurd (not-suc-le-zero h)
  nth_from P (suc m) all j h =
      ⊎_elim
      (λ (l : active_in m b ≤ j). ⊎_elim
      (λ (x : is_off (b m) ≡ true). let none : active_of (b m) ≡ 0 = rw x in absurd (omega arith))
      (λ (x : is_off (b m) ≡ false).
      let one : active_of (b m) ≡ 1 = rw x in
      rw (eq-eqb (active_in m b) j (omega arith)) (all m (omega arith) x))
      (true_or_false (is_off (b m))))
      (λ (l : j < active_in m b). rw (ne_eqb (active_in m b) j (λ e. omega arith)) (nth_from P m (λ k g. all k (omega arith)) j l))
      (le_or_lt (active_in m b) j)

  nth_on : (m k : ℕ) → k < m → is_off (b k) ≡ false → nth_active b m (active_in k b) ≡ b k
  unfolding nth_active
  nth_on zero k h on = absurd (not-suc-le-zero h)
  nth_on (suc m) k h on =
      ⊎_elim
      (λ (e : k ≡ m). rw (e, eq-eqb (active_in m b) (active_in m b) refl))
      (λ (l : k < m). rw (ne_eqb (active_in m b) (active_in k b) (λ e. omega (arith, active_before b l on))) (nth_on m k l on))
      (eq-or-lt_of_le (le_of_suc-le-suc h))

  -- On the active modules of b itself they give row b.
  nth_back : (m k : ℕ) → k < m → bytes_on b (nth_active b m) k ≡ b k
  nth_back m k h =
      ⊎_elim
      (λ (x : is_off (b k) ≡ true). rw x (sym (eqb-true (b k) off x)))
      (λ (x : is_off (b k) ≡ false). rw x (nth_on m k h x))
      (true_or_false (is_off (b k)))

-- The active bytes of a sheet that serves, in their order on the active modules of a pattern with the same counts.
module _ (i : Instance) (s p : List ℕ) (e : serves i s ≡ true) (counts : counts_of i p ≡ counts_of i s) where
  abbrev active_bytes : ℕ → ℕ → ℕ
  active_bytes t = nth_active (state_at i s (suc t)) i.modules

  abbrev moved_row : ℕ → ℕ → ℕ
  moved_row t = bytes_on (state_at i p (suc t)) (active_bytes t)

  as_many : (t : ℕ) → t < i.slots → active_in i.modules (state_at i p (suc t)) ≡ active_in i.modules (state_at i s (suc t))
  as_many t h = sym (counts_at_lem i p (suc t) h) ∙ rw counts (counts_at_lem i s (suc t) h)

  moved_sum : (g : ℕ → ℕ) (t : ℕ) → t < i.slots →
      sum i.modules (λ k. g (moved_row t k)) ≡ sum i.modules (λ k. g (state_at i s (suc t) k))
  moved_sum g t h =
      let there = rw (as_many t h) at (on_sum (state_at i p (suc t)) (active_bytes t) g i.modules) in
      let here = sum_ext i.modules (λ k l. ap g (nth_back (state_at i s (suc t)) i.modules k l)) in
      omega (arith, on_sum (state_at i s (suc t)) (active_bytes t) g i.modules)

  moved_serves : serves i (sheet_with i moved_row) ≡ true
  unfolding light_in
  moved_serves = with_serves i moved_row entry (λ t h. rw (moved_sum step_of t h) (row_light_lem i s e t h))
    where
      entry : (t k : ℕ) → t < i.slots → k < i.modules → Entry i (moved_row t k)
      entry t k h =
          on_entry (state_at i p (suc t)) (active_bytes t) i i.modules
          (rw (as_many t h) (nth_from (state_at i s (suc t)) (Entry i) i.modules (λ k l _. row_entries i s e t h k l))) k

  moved_steps : SameSteps i s (sheet_with i moved_row)
  unfolding how_often
  moved_steps t v h =
      sum_ext i.modules (λ k l. ap (λ x. cond (eqb x v) 1 0) (with_state i moved_row t k h l)) ∙ moved_sum (λ x. cond (eqb x v) 1 0) t h

  moved_active : SameActive i p (sheet_with i moved_row)
  moved_active t k h l =
      ap is_off (with_state i moved_row t k h l) ∙
      on_active (state_at i p (suc t)) (active_bytes t) i.modules
      (rw (as_many t h) (nth_from (state_at i s (suc t)) (λ x. is_off x ≡ false) i.modules (λ k _ x. x))) k l

module _ {i : Instance} (ready : Plannable i) (s : List ℕ) (e : serves i s ≡ true) where
  -- No choice of modules is better exactly if no sheet with the same steps is.
  choice_order : NoBetterChoice i s ↔ NoBetterOrder i s
  unfolding sheet_cost
  choice_order = (
    λ least r f same.
        let below = least r ((serves_parts i r).0 f).0 (steps_counts i s r ready.steps e f same) in
        omega (arith, steps_operating i s r ready.steps e f same),
    λ least p sized counts.
        let f = moved_serves i s p e counts in
        let same = moved_steps i s p e counts in
        let below = least _ f same in
        omega (arith, steps_operating i s _ ready.steps e f same, same_switching i p _ (moved_active i s p e counts)),
  )

  -- The swaps are 0 exactly if no sheet that serves, with the same steps in each slot, costs less.
  pub swaps_zero_sheets : excess_switching_cost i s ≡ 0 ↔ NoBetterOrder i s
  swaps_zero_sheets = iff_trans (swaps_zero ready s e) choice_order
