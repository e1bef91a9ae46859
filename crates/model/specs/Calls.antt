-- Every call with its specification, `spec_of`, and what follows from it: the answer, and the bytes of each lent buffer at exit (document 01,
-- 'Refused', 'The plans'; 02 §1, §2, §4, §5, §7, §8).
use Rattle.std.specs.Prelude.{ℕ, ◌≡◌, List, [], ◌∷◌, ◌++◌, map, get_or, leb, eqb}
use Rattle.model.specs.declared.Refusal.TheVariants.{RackSize, BufferTooShort, EntryRange, LoadNotServed, ZeroStart}
use Rattle.model.specs.Answers.{Answer}
use Rattle.std.specs.Prelude.{Ok}
use Rattle.model.specs.declared.Seat.{Seat}
use Rattle.model.specs.declared.Sitting.{Sitting}
use Rattle.model.specs.Answers.{number_of, cost_of}
use Rattle.model.specs.Instance.{instance_of, rack_number}
use Rattle.model.specs.Counts.{can_serve, operating_cost, rounded_count}
use Rattle.model.specs.Sheets.{sheet_cost}
use Rattle.model.specs.Plans.{plan_cost}
use Rattle.model.specs.Planners.{Planner, exact, planned_cost}
use Rattle.model.specs.Practice.{practice_show}
use Rattle.model.specs.Specs.{plan_buffer, work_buffer, sheet_buffer, card_buffer, table_buffer, any_short, at_exit}
use Rattle.model.specs.Specs.{◌when◌, ◌unless◌, Spec, answering, answer_of, card_tests, sheet_tests, plan_tests, list_tests}
use Rattle.model.specs.Acts.{Act, act_spec}
use Rattle.model.specs.SittingState.{facts_of, state_of}

-- The calls, each with what it is handed: the bytes of card, plan, work, sheet and table at entry, and numbers. An act of a sitting is handed the
-- sitting and the list of seats besides.
pub data Call : Type 0 where
  check_card : (card : List ℕ) → Call
  running_cost : (card : List ℕ) (count load : ℕ) → Call
  plan_show : (planner : Planner) (card plan work : List ℕ) → Call
  make_sheet : (card plan sheet : List ℕ) → Call
  mark_sheet : (card sheet : List ℕ) → Call
  round_count : (count modules : ℕ) → Call
  practice_card : (start : ℕ) (card : List ℕ) → Call
  catalogue_table : (top : ℕ) (table : List ℕ) → Call
  explain_sheet : (card sheet work : List ℕ) → Call
  act_in : (sitting : Sitting) (seats : List Seat) (act : Act) → Call

-- What each call answers: its tests in order, its cost ('the plan's from a planner or the sheet call, the sheet's from marking, the pair's
-- from running cost. The rounded count gives its count in that place; a call without a cost gives 0'), its buffers.
unfoldable pub spec_of : Call → Spec
spec_of (check_card c) = answering (card_tests c) 0
-- 'Running cost (card, count, load) adds 12 and 13'.
spec_of (running_cost c n l) =
    let i = instance_of c in
    answering (card_tests c ++ (EntryRange unless leb n i.modules ∷ LoadNotServed unless can_serve i n l ∷ [])) (operating_cost i n l)
-- 'the two planners add 10', and one with a list 18 before it.
spec_of (plan_show k c p w) =
    let i = instance_of c in
    let areas = plan_buffer k i p ∷ work_buffer k i w ∷ [] in
    record {
      tests = card_tests c ++ (list_tests k i ++ (BufferTooShort when any_short areas ∷ []));
      cost = planned_cost k i;
      buffers = areas;
    }
-- 'the sheet adds 10 to 13'.
spec_of (make_sheet c p s) =
    let i = instance_of c in
    let areas = sheet_buffer i p s ∷ [] in
    record { tests = card_tests c ++ (BufferTooShort when any_short areas ∷ plan_tests i p); cost = plan_cost i p; buffers = areas }
-- 'marking adds 11 to 13'.
spec_of (mark_sheet c s) = answering (card_tests c ++ sheet_tests (instance_of c) s) (sheet_cost (instance_of c) s)
-- 'The rounded count takes n and m only: 3 for m, 12 for n above m.'
spec_of (round_count n m) = answering (RackSize unless rack_number m ∷ EntryRange unless leb n m ∷ []) (rounded_count m n)
-- 'Start 0 .. gets 14, before 10' (02 §1).
spec_of (practice_card s c) =
    let areas = card_buffer (practice_show s) c ∷ [] in
    record { tests = ZeroStart when eqb s 0 ∷ BufferTooShort when any_short areas ∷ []; cost = 0; buffers = areas }
-- 'Q outside 1 to 200 gets 3, a short area 10' (02 §5).
spec_of (catalogue_table q f) =
    let areas = table_buffer q f ∷ [] in
    record { tests = RackSize unless rack_number q ∷ BufferTooShort when any_short areas ∷ []; cost = 0; buffers = areas }
-- 'The call takes the exact planner's work area; one too short gets 10' (02 §7), then marking's. Its three numbers are in ExplainedPoints.
spec_of (explain_sheet c s w) =
    let areas = work_buffer exact (instance_of c) w ∷ [] in
    record { tests = card_tests c ++ (BufferTooShort when any_short areas ∷ sheet_tests (instance_of c) s); cost = 0; buffers = areas }
-- What an act does beside its answer is in Sittings.
spec_of (act_in z xs a) = (act_spec a).call (facts_of (state_of z xs))

-- The answer of a call.
unfoldable pub answer : Call → Answer
answer c = answer_of (spec_of c)

-- 'A show is accepted if none of refusals 1 to 8 applies to its card.'
abbrev pub Accepted : List ℕ → Type 0
Accepted c = answer (check_card c) ≡ Ok 0

-- The lent buffers of a call as they were lent.
unfoldable pub lent : Call → List (List ℕ)
lent c = map (λ b. b.entry) (spec_of c).buffers

-- The lent buffers of a call at exit.
unfoldable pub buffers_at_exit : Call → List (List ℕ)
buffers_at_exit c = map (at_exit (answer c)) (spec_of c).buffers

-- The plan buffer of a planner at exit, which is the first one lent to it.
unfoldable pub plan_at_exit : Call → List ℕ
plan_at_exit c = get_or (buffers_at_exit c) 0 []

-- The work buffer of a planner at exit, which is the second one lent to it.
unfoldable pub work_at_exit : Call → List ℕ
work_at_exit c = get_or (buffers_at_exit c) 1 []

-- The sheet buffer of the sheet call at exit, which is the only one lent to it.
unfoldable pub sheet_at_exit : Call → List ℕ
sheet_at_exit c = get_or (buffers_at_exit c) 0 []

-- The card buffer of a practice card at exit, which is the only one lent to it.
unfoldable pub card_at_exit : Call → List ℕ
card_at_exit c = get_or (buffers_at_exit c) 0 []

-- The table buffer of the catalogue call at exit, which is the only one lent to it.
unfoldable pub table_at_exit : Call → List ℕ
table_at_exit c = get_or (buffers_at_exit c) 0 []

-- What a call answers, number and cost, and then every lent buffer at exit, in the order of the parameters. What an explanation returns beside
-- its number is in ExplainedPoints, and what an act returns beside these two numbers and leaves of the list of seats in Sittings.
unfoldable pub outcome : Call → List (List ℕ)
outcome c = (number_of (answer c) ∷ cost_of (answer c) ∷ []) ∷ buffers_at_exit c

-- Two numbers are those of an answer.
pub record NumbersOf (a : Answer) (number cost : ℕ) : Type 0 where
  pub number_is : number ≡ number_of a
  pub cost_is : cost ≡ cost_of a

-- What a contract says of a result's two numbers: they are those of the call's answer.
abbrev pub Gives : Call → (number cost : ℕ) → Type 0
Gives c = NumbersOf (answer c)
