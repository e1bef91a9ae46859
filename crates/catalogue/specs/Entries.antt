-- What writing the first entries of a table asks for.
use Rattle.std.specs.Prelude.{ℕ, ◌*◌, ◌≤◌, List, length}

-- A table has at least so many entries, and an area has room for them, four bytes each.
pub record EntriesRoom (entries : ℕ) (table out : List ℕ) : Type 0 where
  pub within : entries ≤ length table
  pub room : 4 * entries ≤ length out
