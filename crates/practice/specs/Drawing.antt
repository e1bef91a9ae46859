-- What the functions that draw and write a practice card ask for and give.
use Rattle.std.specs.Prelude.{ℕ, zero, suc, ◌+◌, ◌%◌, ◌≤◌, ◌≡◌, List}
use Rattle.buffers.specs.declared.Writer.{Writer}
use Rattle.buffers.specs.Writers.{Fits}
use Rattle.model.specs.Instance.{Instance, load_bytes}
use Rattle.model.specs.Practice.{drawn, practice_show}
use Rattle.practice.specs.declared.draws.FirstDraws.{FirstDraws}

-- A difference so small that the next one fits 32 bits.
pub record SmallDifference (d : ℕ) : Type 0 where
  pub most : d ≤ 1000

-- The difference after d, where k differences are drawn already, from the draw s: 'the first difference draw mod 11, each next one larger
-- by draw mod 4'.
unfoldable pub next_difference : (k d s : ℕ) → ℕ
next_difference zero d s = s % 11
next_difference (suc k) d s = d + s % 4

-- Room for some bytes of the practice show whose first draws are given.
pub record DrawnRoom (bytes : Instance → List ℕ) (first : FirstDraws) (w : Writer) : Type 0 where
  pub room : Fits (bytes (practice_show first.start)) w

-- Room for the loads behind the table, after whose draws the generator is in the state given.
pub record LoadsRoom (first : FirstDraws) (state : ℕ) (w : Writer) : Type 0 where
  pub behind : DrawnRoom load_bytes first w
  pub state_is : state ≡ drawn first.start (6 + first.fields.top_step)
