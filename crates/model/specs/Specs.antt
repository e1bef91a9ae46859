-- What the specification of a call is made of: tests, each with its refusal, the cost of a success, and lent buffers (document 01, 'Refused',
-- 'The plans'). The groups of tests that several calls make have names here; Calls has the specification of each call, Acts that of each act.
use Rattle.std.specs.Prelude.{ℕ, ◌*◌, ◌≡◌, Bool, false, cond, not, ◌&&◌, ◌||◌, List, [], ◌∷◌, ◌++◌, length, replicate, ltb, eqb}
use Rattle.basics.specs.Lists.{same_list, written_over}
use Rattle.model.specs.declared.Refusal.{Refusal}
use Rattle.model.specs.declared.Refusal.TheVariants.{NotACard, Version, RackSize, SlotCount, CardLength, PriceRange, NotConvex}
use Rattle.model.specs.declared.Refusal.TheVariants.{LoadRange, WrongLength, EntryRange, LoadNotServed, CountList}
use Rattle.model.specs.Answers.{Answer}
use Rattle.std.specs.Prelude.{Ok, Err}
use Rattle.model.specs.Instance.{Instance, instance_of, head_length, mark_of, card_mark, version_of, card_version, card_length, card_bytes}
use Rattle.model.specs.Instance.{table_size, rack_number, convex, prices_in_range, loads_in_range}
use Rattle.model.specs.CountRules.{keeps_rules}
use Rattle.model.specs.Sheets.{sheet_length, sheet_entries, sheet_light}
use Rattle.model.specs.Plans.{plan_in_rack, plan_serves, sheet_of}
use Rattle.model.specs.Planners.{Planner, exact, coarse, listed, work_bytes, planned_by}
use Rattle.model.specs.Catalogue.{catalogue_bytes}

-- A lent buffer (01: 'area'): its bytes at entry, how many of them are asked for, and what a success writes from the first byte on.
pub record Buffer : Type 0 where
  pub entry : List ℕ
  pub asked : ℕ
  pub writes : List ℕ

-- A test of a call: the refusal that it gives, and whether it applies. The numbers of document 01's table and of 02, with the tests that carry
-- them and whose they are; 'a card' is every call and act that is handed one:
--    1, 2    front_tests: a card
--    3       rack_tests: a card's m and Q; the rounded count's m; the Q of the catalogue module's table
--    4       rack_tests: a card
--    5       size_tests: a card
--    6 to 8  body_tests: a card
--    9       no test: 'and 9 is never given' (02 §2)
--    10      BufferTooShort: every call and act that is lent a buffer of bytes
--    11      sheet_tests: marking, the explanation, a submission; plan_tests: the sheet call
--    12, 13  sheet_tests and plan_tests; the running cost; 12 the rounded count too
--    14      ZeroStart: a practice card
--    15      NotPermitted: every act
--    16      SeatUnavailable: seating, a submission, reading the least and a lowest cost
--    17      AllowanceSpent: opening, a submission
--    18      list_tests: a planner with a list
pub record Test : Type 0 where
  pub refusal : Refusal
  pub applies : Bool

infix 70 ◌when◌
abbrev pub ◌when◌ : Refusal → Bool → Test
◌when◌ x b = record { refusal = x; applies = b }

infix 70 ◌unless◌
abbrev pub ◌unless◌ : Refusal → Bool → Test
◌unless◌ x b = x when not b

-- What a call answers: its tests in the order in which they are made, the cost that it gives where none applies, and its lent buffers, in the
-- order of its parameters.
pub record Spec : Type 0 where
  pub tests : List Test
  pub cost : ℕ
  pub buffers : List Buffer

-- What a call answers that is lent no buffer.
abbrev pub answering : List Test → ℕ → Spec
answering ts n = record { tests = ts; cost = n; buffers = [] }

-- The first refusal that applies, or else the answer of a success. In an ascending list it is the lowest one: 'Of several, the lowest number is
-- given.'
unfoldable pub first_of : List Test → Answer → Answer
first_of [] success = success
first_of (t ∷ ts) success = cond t.applies (Err t.refusal) (first_of ts success)

-- The answer of a specification.
abbrev pub answer_of : Spec → Answer
answer_of s = first_of s.tests (Ok s.cost)

-- None of some tests applies.
abbrev pub Passes : List Test → Type 0
Passes ts = first_of ts (Ok 0) ≡ Ok 0

-- A buffer at exit: 'After success the bytes asked for hold the answer, .. all further bytes are as they were'; 'A refusal ..
-- alters no lent byte.'
unfoldable pub at_exit : Answer → Buffer → List ℕ
at_exit (Ok n) b = written_over b.writes b.entry
at_exit (Err x) b = b.entry

-- One of the buffers is too short. Refusal 10: 'a lent area shorter than asked for'.
unfoldable pub any_short : List Buffer → Bool
any_short [] = false
any_short (b ∷ bs) = ltb (length b.entry) b.asked || any_short bs

-- The plan buffer of a planner: 'a plan area of at least T bytes'; 'After success the bytes asked for hold the answer'.
abbrev pub plan_buffer : Planner → Instance → List ℕ → Buffer
plan_buffer k i p = record { entry = p; asked = i.slots; writes = planned_by k i }

-- The work buffer of a planner: 'a work area of at least (m + 1)T bytes for exact, 10T for coarse', with a list 'one byte for each entry and
-- slot' (02 §8); 'the work bytes asked for are zero'.
abbrev pub work_buffer : Planner → Instance → List ℕ → Buffer
work_buffer k i w = record { entry = w; asked = work_bytes k i; writes = replicate (work_bytes k i) 0 }

-- The bytes of a sheet: m × T.
abbrev pub sheet_bytes : Instance → ℕ
sheet_bytes i = i.modules * i.slots

-- The sheet buffer of the sheet call: 'a sheet area of at least m × T'.
abbrev pub sheet_buffer : Instance → (plan sheet : List ℕ) → Buffer
sheet_buffer i p s = record { entry = s; asked = sheet_bytes i; writes = sheet_of i p }

-- The card buffer of a practice show: the bytes of its card (02 §1: 'an area shorter than the card is 10').
abbrev pub card_buffer : Instance → (card : List ℕ) → Buffer
card_buffer i c = record { entry = c; asked = card_length i; writes = card_bytes i }

-- The table buffer of the catalogue call: 'a call writes its F(0) to F(Q) as a card's fields' (02 §5).
abbrev pub table_buffer : (top : ℕ) (table : List ℕ) → Buffer
table_buffer q f = record { entry = f; asked = table_size q; writes = catalogue_bytes q }

-- 'All calls on a card check 1 to 8', by the table's column 'when', a line a number. 1 and 2 look at the mark and the version.
abbrev pub front_tests : (card : List ℕ) → List Test
front_tests c =
    NotACard when (ltb (length c) head_length || not (same_list (mark_of c) card_mark)) ∷
    Version unless eqb (version_of c) card_version ∷ []

-- 3 and 4 look at the show's sizes.
abbrev pub rack_tests : Instance → List Test
rack_tests i =
    RackSize unless (rack_number i.modules && rack_number i.top_step) ∷
    SlotCount when ltb 1024 i.slots ∷ []

-- 3 to 5: the sizes, and the card's length.
abbrev pub size_tests : (card : List ℕ) → List Test
size_tests c = rack_tests (instance_of c) ++ (CardLength unless eqb (length c) (card_length (instance_of c)) ∷ [])

-- 8: the loads.
abbrev pub load_test : Instance → Test
load_test i = LoadRange unless loads_in_range i

-- 6 to 8 look at the show's prices, its table and its loads.
abbrev pub body_tests : Instance → List Test
body_tests i =
    PriceRange unless prices_in_range i ∷
    NotConvex unless convex i.top_step i.table ∷
    load_test i ∷ []

unfoldable pub card_tests : (card : List ℕ) → List Test
card_tests c = front_tests c ++ (size_tests c ++ body_tests (instance_of c))

-- A show is in order if its numbers keep to the bounds of the card's table and its table is convex: 3, 4 and 6 to 8, which look at the show alone.
abbrev pub ShowInOrder : Instance → Type 0
ShowInOrder i = Passes (rack_tests i ++ body_tests i)

-- Marking's 11 to 13: 'sheet not m × T', 'a sheet byte from Q + 1 to 254', and too little light (02 §2).
abbrev pub sheet_tests : Instance → (sheet : List ℕ) → List Test
sheet_tests i s =
    WrongLength unless sheet_length i s ∷
    EntryRange unless sheet_entries i s ∷
    LoadNotServed unless sheet_light i s ∷ []

-- The sheet call's 11 to 13: 'handed-in plan not T bytes', 'a count above m', 'a plan's count .. can't serve its load'.
abbrev pub plan_tests : Instance → (plan : List ℕ) → List Test
plan_tests i p =
    WrongLength unless eqb (length p) i.slots ∷
    EntryRange unless plan_in_rack i p ∷
    LoadNotServed unless plan_serves i p ∷ []

-- The tests of a planner's list: 'A list or r against these rules gets 18, after 8 and before 10' (02 §8).
abbrev pub list_tests : Planner → Instance → List Test
list_tests exact i = []
list_tests coarse i = []
list_tests (listed l r) i = CountList unless keeps_rules l r i.modules ∷ []
