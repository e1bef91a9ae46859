-- What the functions of this crate give where the model's definitions take a whole card or sheet.
use Rattle.std.specs.Prelude.{ℕ, ◌+◌, cond, List, length, get_or, ltb}
use Rattle.basics.specs.Sums.{sum}
use Rattle.model.specs.Instance.{Instance}
use Rattle.model.specs.Sheets.{off, is_off, step_of, step_cost, change_cost}

-- The byte of module k in a slot with n active modules, of which the first r are at the step high and the others at the step low.
unfoldable pub slot_byte : (n r low high k : ℕ) → ℕ
slot_byte n r low high k = cond (ltb k n) (cond (ltb k r) high low) off

-- The steps of a row's active modules, summed: light_at of one slot.
unfoldable pub row_light : List ℕ → ℕ
row_light row = sum (length row) (λ k. step_of (get_or row k 0))

-- The cost of a byte: of its step, and of the change to it from the byte of the same module in the slot before.
unfoldable pub byte_cost : Instance → (prev b : ℕ) → ℕ
byte_cost i prev b = step_cost i b + change_cost i prev b

-- The cost of some bytes of a sheet. The function `before` gives for each place the byte of the same module in the slot before.
unfoldable pub bytes_cost : Instance → (before : ℕ → ℕ) → List ℕ → ℕ
bytes_cost i before s = sum (length s) (λ x. byte_cost i (before x) (get_or s x 0))

-- Before the first slot all modules are off.
abbrev pub all_off : ℕ → ℕ
all_off x = off

-- Before a later slot the modules have the bytes of the row before it.
abbrev pub byte_at : List ℕ → ℕ → ℕ
byte_at s x = get_or s x 0

-- The price of a byte's change to off.
abbrev pub stop_cost : (down prev : ℕ) → ℕ
stop_cost down prev = cond (is_off prev) 0 down

-- The price of the changes to off after a row.
unfoldable pub row_stop_cost : (down : ℕ) → List ℕ → ℕ
row_stop_cost down row = sum (length row) (λ k. stop_cost down (get_or row k 0))
