-- Sheets: when one serves a show, what it costs, and its counts (document 01, 'Terms'; 02 §2).
use Rattle.std.specs.Prelude.{ℕ, zero, suc, ◌+◌, ◌*◌, Bool, cond, ◌&&◌, ◌||◌, List, length, get_or, leb, ltb, eqb}
use Rattle.basics.specs.Tests.{every}
use Rattle.basics.specs.Sums.{sum}
use Rattle.basics.specs.Lists.{tabulate}
use Rattle.model.specs.Instance.{Instance}

-- The byte for a module that is off: 'the step, or 255 for off'.
abbrev pub off : ℕ
off = 255

abbrev pub is_off : ℕ → Bool
is_off b = eqb b off

-- The state of module k (from 0) at a time: its step, or off. Time 0 is before the first slot, and slot t (from 0) is time t + 1.
-- 'All are off before slot 1 and after the last slot'; in a slot the state is the sheet's byte, 'one byte for each slot and module,
-- slot by slot, module 1 first'.
unfoldable pub state_at : Instance → List ℕ → (time : ℕ) → ℕ → ℕ
state_at i s zero k = off
state_at i s (suc t) k = cond (ltb t i.slots) (get_or s (t * i.modules + k) off) off

-- A sheet has the right length: 'it has m × T bytes'.
unfoldable pub sheet_length : Instance → List ℕ → Bool
sheet_length i s = eqb (length s) (i.modules * i.slots)

-- A byte may stand in a sheet, where the top step is q: '0 to Q or 255'.
abbrev pub is_entry : (q b : ℕ) → Bool
is_entry q b = leb b q || is_off b

-- The bytes of a sheet may stand there: 'each 0 to Q or 255'.
unfoldable pub sheet_entries : Instance → List ℕ → Bool
sheet_entries i s = every (length s) (λ k. is_entry i.top_step (get_or s k off))

-- The step of a byte, 0 for off.
abbrev pub step_of : ℕ → ℕ
step_of b = cond (is_off b) 0 b

-- The steps of the active modules at a time, summed.
unfoldable pub light_at : Instance → List ℕ → (time : ℕ) → ℕ
light_at i s time = sum i.modules (λ k. step_of (state_at i s time k))

-- A sheet has enough light: in every slot the steps of the active modules sum to the load or more, since 'a slot needs at least its
-- load' (02 §2).
unfoldable pub sheet_light : Instance → List ℕ → Bool
sheet_light i s = every i.slots (λ t. leb (i.load t) (light_at i s (suc t)))

-- 'A sheet serves it if it has m × T bytes, each 0 to Q or 255, and in every slot the steps of the burning modules sum to the load'
-- (01), or to more (02 §2).
unfoldable pub serves : Instance → List ℕ → Bool
serves i s = sheet_length i s && (sheet_entries i s && sheet_light i s)

-- The cost of a state for one slot: 'A module at step 0 burns and costs F(0); one that is off costs nothing.' It is F of the step that
-- stands there: 'Marking still charges F of each step as handed in' (02 §2).
unfoldable pub step_cost : Instance → ℕ → ℕ
step_cost i b = cond (is_off b) 0 (i.table b)

-- The price of a change of state: 'Each change from off to burning costs the warm-up price, each change to off the cool-down price'.
unfoldable pub change_cost : Instance → ℕ → ℕ → ℕ
change_cost i a b = cond (is_off a) (cond (is_off b) 0 i.power_up) (cond (is_off b) i.power_down 0)

-- The operating cost of a sheet: 'F(step) summed over all slots and burning modules'.
unfoldable pub sheet_operating_cost : Instance → List ℕ → ℕ
sheet_operating_cost i s = sum i.slots (λ t. sum i.modules (λ k. step_cost i (state_at i s (suc t) k)))

-- The switching cost of a sheet: 'the prices of all changes, module by module', into each slot and after the last.
unfoldable pub sheet_switching_cost : Instance → List ℕ → ℕ
sheet_switching_cost i s =
    sum (i.slots + 1) (λ t. sum i.modules (λ k. change_cost i (state_at i s t k) (state_at i s (suc t) k)))

-- 'The sheet's cost is F(step) summed over all slots and burning modules, plus the prices of all changes, module by module.'
unfoldable pub sheet_cost : Instance → List ℕ → ℕ
sheet_cost i s = sheet_operating_cost i s + sheet_switching_cost i s

-- A byte counts 1 if its module is active, 0 if it is off.
abbrev pub active_of : ℕ → ℕ
active_of b = cond (is_off b) 0 1

-- 'A count is how many modules burn': that of a sheet at a time.
unfoldable pub active_at : Instance → List ℕ → (time : ℕ) → ℕ
active_at i s time = sum i.modules (λ k. active_of (state_at i s time k))

-- The counts of a sheet, slot by slot.
unfoldable pub counts_of : Instance → List ℕ → List ℕ
counts_of i s = tabulate i.slots (λ t. active_at i s (suc t))
