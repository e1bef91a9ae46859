-- The rows of a sheet that `put_sheet` lends one by one.
use Rattle.std.specs.Prelude.{ℕ, ◌+◌, ◌-◌, ◌*◌, ◌≡◌, List, take, drop}
use Rattle.basics.specs.Core.{arith}
use Rattle.model.specs.Listing.{slot_line}
use Rattle.listing.specs.Texts.{sheet_line}

-- The code's part from t * m to t * m + m is the row of the model's line of slot t.
pub row_line : (m t : ℕ) (sheet : List ℕ) → slot_line t (take (t * m + m - t * m) (drop (t * m) sheet)) ≡ sheet_line m sheet t
row_line m t sheet = let size : t * m + m - t * m ≡ m = omega arith in rw size
