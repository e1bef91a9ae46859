-- The number of each refusal, `refusal_number`, and the number and the cost of an answer (document 01, 'Refused'; 02 §1, §4, §8).
use Rattle.std.specs.Prelude.{ℕ, Result, Ok, Err}
use Rattle.model.specs.declared.Refusal.{Refusal}
use Rattle.model.specs.declared.Refusal.TheVariants.{NotACard, Version, RackSize, SlotCount, CardLength, PriceRange, NotConvex}
use Rattle.model.specs.declared.Refusal.TheVariants.{LoadRange, NotMonotone, BufferTooShort, WrongLength, EntryRange, LoadNotServed}
use Rattle.model.specs.declared.Refusal.TheVariants.{ZeroStart, NotPermitted, SeatUnavailable, AllowanceSpent, CountList}

-- The number of a refusal: the table's column 'no.', which 'the numbers of this document join' (02 §1).
abbrev pub refusal_number : Refusal → ℕ
refusal_number NotACard = 1
refusal_number Version = 2
refusal_number RackSize = 3
refusal_number SlotCount = 4
refusal_number CardLength = 5
refusal_number PriceRange = 6
refusal_number NotConvex = 7
refusal_number LoadRange = 8
refusal_number NotMonotone = 9
refusal_number BufferTooShort = 10
refusal_number WrongLength = 11
refusal_number EntryRange = 12
refusal_number LoadNotServed = 13
refusal_number ZeroStart = 14
refusal_number NotPermitted = 15
refusal_number SeatUnavailable = 16
refusal_number AllowanceSpent = 17
refusal_number CountList = 18

-- The answer of a call: a cost, or a refusal.
abbrev pub Answer : Type 0
Answer = Result ℕ Refusal

-- The number of an answer: 'A success gives number 0', a refusal its number.
abbrev pub number_of : Answer → ℕ
number_of (Ok c) = 0
number_of (Err r) = refusal_number r

-- The cost of an answer: 'A refusal gives its number and cost 0'.
abbrev pub cost_of : Answer → ℕ
cost_of (Ok c) = c
cost_of (Err r) = 0
