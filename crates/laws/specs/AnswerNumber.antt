-- The number of an answer tells a success from a refusal.
use Rattle.std.specs.Prelude.{◌≤◌, ◌≡◌, refl}
use Rattle.basics.specs.Core.{arith}
use Rattle.model.specs.declared.Refusal.{Refusal}
use Rattle.model.specs.declared.Refusal.TheVariants.{NotACard, Version, RackSize, SlotCount, CardLength, PriceRange, NotConvex, LoadRange}
use Rattle.model.specs.declared.Refusal.TheVariants.{NotMonotone, BufferTooShort, WrongLength, EntryRange, LoadNotServed, ZeroStart}
use Rattle.model.specs.declared.Refusal.TheVariants.{NotPermitted, SeatUnavailable, AllowanceSpent, CountList}
use Rattle.model.specs.Answers.{Answer}
use Rattle.std.specs.Prelude.{Ok, Err}
use Rattle.model.specs.Answers.{refusal_number, number_of, cost_of}

-- No refusal has the number 0.
refusal_some : (x : Refusal) → 1 ≤ refusal_number x
refusal_some NotACard = omega arith
refusal_some Version = omega arith
refusal_some RackSize = omega arith
refusal_some SlotCount = omega arith
refusal_some CardLength = omega arith
refusal_some PriceRange = omega arith
refusal_some NotConvex = omega arith
refusal_some LoadRange = omega arith
refusal_some NotMonotone = omega arith
refusal_some BufferTooShort = omega arith
refusal_some WrongLength = omega arith
refusal_some EntryRange = omega arith
refusal_some LoadNotServed = omega arith
refusal_some ZeroStart = omega arith
refusal_some NotPermitted = omega arith
refusal_some SeatUnavailable = omega arith
refusal_some AllowanceSpent = omega arith
refusal_some CountList = omega arith

-- An answer with the number 0 is a cost.
pub number_zero : (a : Answer) → number_of a ≡ 0 → a ≡ Ok (cost_of a)
number_zero (Ok n) e = refl
number_zero (Err x) e = absurd (omega (arith, refusal_some x))
