-- The thesis's formulas in whole points: 2.2 and 2.3 for schedules, where 2.3 asks for the load or more, and 3.9 to 3.13 for counts, with G in
-- place of F (02 §2).
use Rattle.std.specs.Prelude.{ℕ, zero, suc, ◌+◌, ◌-◌, ◌*◌, ◌≤◌, ◌<◌, List, get_or}
use Rattle.basics.specs.Sums.{sum}
use Rattle.model.specs.Instance.{Instance}
use Rattle.model.specs.Counts.{operating_cost}
use Rattle.model.specs.Sheets.{state_at, step_of, active_of}

-- A schedule: the state s of server k at time t (0 or 1), and its assigned load λ there. Times are 1 to T; servers count from 0.
pub record Schedule : Type 0 where
  pub active : ℕ → ℕ → ℕ
  pub assigned : ℕ → ℕ → ℕ

-- The switching price β, 'the combined switching costs': both prices together.
abbrev pub switching_price : Instance → ℕ
switching_price i = i.power_up + i.power_down

-- (2.2), the cost of a schedule, with f = F; the truncated difference is max{0, ..}.
unfoldable pub schedule_cost : Instance → Schedule → ℕ
schedule_cost i σ =
    sum i.slots (λ t. sum i.modules (λ k. i.table (σ.assigned (suc t) k) * σ.active (suc t) k)) +
    switching_price i * sum i.slots (λ t. sum i.modules (λ k. σ.active (suc t) k - σ.active t k))

-- (2.3), a schedule that is feasible: in every slot the loads of the active servers sum to the slot's load, or with 'artificial loads'
-- (5.1) to more (02 §2).
abbrev pub Feasible : Instance → Schedule → Type 0
Feasible i σ = (t : ℕ) → t < i.slots → i.load t ≤ sum i.modules (λ k. σ.assigned (suc t) k * σ.active (suc t) k)

-- The states and steps of a sheet as a schedule.
unfoldable pub schedule_of : Instance → List ℕ → Schedule
schedule_of i s =
    record { active = λ t k. active_of (state_at i s t k); assigned = λ t k. step_of (state_at i s t k) }

-- The count x of a plan at time t, with x = prev at time 0.
unfoldable pub count_at : ℕ → List ℕ → ℕ → ℕ
count_at prev p zero = prev
count_at prev p (suc t) = get_or p t 0

-- The cost of a slot with load l and x active modules, where prev were active before it: the operating cost (3.9), and the switching
-- price for each module that goes on (3.11, 3.12).
unfoldable pub slot_cost : Instance → (prev x l : ℕ) → ℕ
slot_cost i prev x l = operating_cost i x l + switching_price i * (x - prev)

-- (3.13): the cost of a plan by its counts, where prev modules were active before the first slot.
unfoldable pub counts_cost : Instance → (prev : ℕ) → List ℕ → ℕ
counts_cost i prev p = sum i.slots (λ t. slot_cost i (count_at prev p t) (count_at prev p (suc t)) (i.load t))
