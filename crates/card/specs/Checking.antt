-- What the checks of a card give.
use Rattle.std.specs.Prelude.{ℕ, ◌+◌, Bool, Ok, ◌&&◌, List, leb}
use Rattle.basics.specs.Tests.{every}
use Rattle.model.specs.Answers.{Answer}
use Rattle.model.specs.Instance.{Instance, rack_number}
use Rattle.model.specs.Specs.{Test, first_of}
use Rattle.card.specs.declared.Header.{Header}

-- The numbers of a header that have to be from 1 to 200 are so.
abbrev pub rack_fits : Header → Bool
rack_fits h = rack_number h.modules && rack_number h.top_step

-- The n loads from slot t on are at most a bound.
unfoldable pub loads_fit : Instance → (most t n : ℕ) → Bool
loads_fit i most t n = every n (λ k. leb (i.load (t + k)) most)

-- The first of some tests that applies, or the cost 0.
unfoldable pub first_among : List Test → Answer
first_among ts = first_of ts (Ok 0)
