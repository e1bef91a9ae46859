-- The hypotheses that the theorems share, as propositions: shows that can be planned, `Plannable`, plans whose sheet can be written, `PlanFits`,
-- one slot's best places, `SlotBest`, and the least plan by counts, `LeastByCounts`; and the active modules, the light and the operating cost of a
-- row of bytes.
use Rattle.std.specs.Prelude.{ℕ, suc, ◌*◌, ◌≤◌, ◌<◌, ◌≡◌, true, List, length, get_or}
use Rattle.basics.specs.Sums.{sum}
use Rattle.model.specs.Instance.{Instance}
use Rattle.model.specs.Counts.{can_serve}
use Rattle.model.specs.Sheets.{off, is_entry, step_of, step_cost, active_of}
use Rattle.model.specs.Thesis.{count_at, slot_cost, counts_cost}
use Rattle.model.specs.Plans.{Allowed, NotAfter, plan_serves}
use Rattle.laws.specs.Tables.{Convex}
use Rattle.thresholds.specs.Places.{count_at_place}
use Rattle.theory.specs.Columns.{served_up_to}

-- The full rack serves every load.
abbrev pub LoadsFit : Instance → Type 0
LoadsFit i = (t : ℕ) → t < i.slots → i.load t ≤ i.modules * i.top_step

-- Shows that can be planned: of an accepted card all this holds.
pub record Plannable (i : Instance) : Type 0 where
  pub some : 1 ≤ i.modules
  pub steps : i.top_step < off
  pub loads : LoadsFit i
  pub convex : Convex i.top_step i.table

-- An entry of a row is a step of the table or off.
abbrev pub Entry : Instance → ℕ → Type 0
Entry i b = is_entry i.top_step b ≡ true

-- The active modules of a row of bytes, one byte for each of m modules.
unfoldable pub active_in : ℕ → (ℕ → ℕ) → ℕ
active_in m b = sum m (λ k. active_of (b k))

-- The light of a row.
unfoldable pub light_in : ℕ → (ℕ → ℕ) → ℕ
light_in m b = sum m (λ k. step_of (b k))

-- The operating cost of a row.
unfoldable pub row_cost : Instance → ℕ → (ℕ → ℕ) → ℕ
row_cost i m b = sum m (λ k. step_cost i (b k))

-- Plans whose sheet can be written: each count is in the rack and serves its load, and no step is the byte for off.
pub record PlanFits (i : Instance) (p : List ℕ) : Type 0 where
  pub steps : i.top_step < off
  pub slotwise : length p ≡ i.slots
  pub in_rack : (t : ℕ) → t < i.slots → get_or p t 0 ≤ i.modules
  pub served : plan_serves i p ≡ true

-- What one slot with load l makes of a column: the least over all places that serve, and the smallest place that attains it.
pub record SlotBest (i : Instance) (counts : List ℕ) (l : ℕ) (before after chosen : ℕ → ℕ) : Type 0 where
  pub at_most :
      (j k : ℕ) → j < length counts → k < length counts → can_serve i (count_at_place counts k) l ≡ true →
      after j ≤ served_up_to i counts l before j k
  pub chosen_in : (j : ℕ) → j < length counts → chosen j < length counts
  pub chosen_serves : (j : ℕ) → j < length counts → can_serve i (count_at_place counts (chosen j)) l ≡ true
  pub attained :
      (j : ℕ) → j < length counts → after j ≡ served_up_to i counts l before j (chosen j)
  pub smallest :
      (j k : ℕ) → j < length counts → k < length counts → can_serve i (count_at_place counts k) l ≡ true →
      after j ≡ served_up_to i counts l before j k → chosen j ≤ k

-- The cost by counts of a plan's first t slots.
abbrev pub cost_of_first : Instance → ℕ → List ℕ → ℕ → ℕ
cost_of_first i start p t = sum t (λ u. slot_cost i (count_at start p u) (count_at start p (suc u)) (i.load u))

-- The least plan by counts from a start count, with the tie rule.
pub record LeastByCounts (i : Instance) (counts : List ℕ) (start : ℕ) (p : List ℕ) : Type 0 where
  pub allowed : Allowed i counts p
  pub least : (r : List ℕ) → Allowed i counts r → counts_cost i start p ≤ counts_cost i start r
  pub first : (r : List ℕ) → Allowed i counts r → counts_cost i start r ≡ counts_cost i start p → NotAfter i p r
