-- The text of a step, or of off, is not empty.
use Rattle.std.specs.Prelude.{ℕ, ◌≤◌, ◌≡◌, Bool, true, false, cond, [], ◌∷◌, length}
use Rattle.basics.specs.Core.{arith}
use Rattle.basics.specs.Text.{text}
use Rattle.basics.specs.Writing.{room_less}
use Rattle.buffers.specs.declared.Writer.{Writer}
use Rattle.buffers.specs.Writers.{Fits, Wrote, wrote_more}
use Rattle.model.specs.Sheets.{is_off}
use Rattle.model.specs.Listing.{decimal, step_text}
use Rattle.listing.specs.Texts.{module_text}
use Rattle.listing.proofs.Digits.{decimal_some}

pub step_some : (b : ℕ) → 1 ≤ length (step_text b)
unfolding step_text
step_some b = go (is_off b)
  where
    go : (t : Bool) → 1 ≤ length (cond t (text "-") (decimal b))
    go true = omega arith
    go false = decimal_some b

-- Where there is room for a blank and any step, there is room for two bytes, one after the other; and a blank and `-` are the text of off.
pub first_fits : (b : ℕ) {x : ℕ} (w : Writer) → Fits (module_text b) w → Fits (x ∷ []) w
first_fits b w r = room_less (omega (arith, step_some b)) r

pub second_fits : (b : ℕ) {x y : ℕ} {v w : Writer} → Fits (module_text b) v → Wrote (x ∷ []) v w → Fits (y ∷ []) w
second_fits b r blank = record { room = omega (arith, step_some b, r.room, blank.written.place, blank.written.size) }

pub off_written : (b : ℕ) {v u w : Writer} → b ≡ 255 → Wrote (text " ") v u → Wrote (text "-") u w → Wrote (module_text b) v w
unfolding step_text
off_written b is blank mark = rw is (wrote_more blank mark)

-- What writing a module's step rests on.
pub ruleset step_written = (first_fits, second_fits, off_written)
