-- What the functions of this crate count in the rows of a sheet: the active modules, and the modules that go on beyond the rise of the count,
-- `exchanged`.
use Rattle.std.specs.Prelude.{ℕ, suc, ◌-◌, cond, List, length, get_or}
use Rattle.basics.specs.Sums.{sum}
use Rattle.model.specs.Instance.{Instance}
use Rattle.model.specs.Sheets.{is_off, state_at, active_of, active_at}

-- The active modules of a row: active_at of one slot.
unfoldable pub row_active : List ℕ → ℕ
row_active row = sum (length row) (λ k. active_of (get_or row k 0))

-- A module counts 1 if it was off and is active, else 0.
abbrev pub start_of : (before b : ℕ) → ℕ
start_of a b = cond (is_off a) (active_of b) 0

-- The modules that go on from the row before to a row.
unfoldable pub row_starts : (before row : List ℕ) → ℕ
row_starts before row = sum (length row) (λ k. start_of (get_or before k 0) (get_or row k 0))

-- The modules of a sheet that go on after a time.
unfoldable pub starts_after : Instance → List ℕ → (time : ℕ) → ℕ
starts_after i s time = sum i.modules (λ k. start_of (state_at i s time k) (state_at i s (suc time) k))

-- The modules that go on from slot t (from 0) to the next beyond those by which the count rises.
unfoldable pub exchanged_after : Instance → List ℕ → (slot : ℕ) → ℕ
exchanged_after i s t = starts_after i s (suc t) - (active_at i s (suc (suc t)) - active_at i s (suc t))

-- The modules that go on from a slot to the next beyond the rises of the counts, in the whole sheet.
unfoldable pub exchanged : Instance → List ℕ → ℕ
exchanged i s = sum (i.slots - 1) (exchanged_after i s)
