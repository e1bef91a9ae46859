-- Examples of document 02, §8: a plan limited to a list of counts with a ratio. Beside them answers of wrong programs, which differ.
use Rattle.std.specs.Prelude.{ℕ, ◌*◌, cond, List, [], ◌∷◌, length, take, replicate}
use Rattle.basics.specs.Core.{arith}
use Prim.Native.String.{String}
use Rattle.model.specs.Counts.{all_counts, coarse_counts}
use Rattle.model.specs.Instance.{instance_of}
use Rattle.model.specs.Planners.{exact, coarse, listed, keeps_list, ratio_of}
use Rattle.model.specs.Calls.{plan_show, plan_at_exit, work_at_exit}
use Rattle.model.specs.Examples.{card_of, card_e, card_g, card_i, card_up, sevens, over, Example, row, one, numbers, costs}
use Rattle.model.specs.Examples.{agrees, AllHold, NoneHold}

-- A rack of four on which every plan that serves costs 0.
abbrev card_free : List ℕ
card_free = card_of 4 1 0 0 (0 ∷ 0 ∷ []) (1 ∷ 0 ∷ 2 ∷ [])

-- A rack of four with two slots, of which the first wants one module and the second three.
abbrev card_rising : List ℕ
card_rising = card_of 4 1 3 2 (1 ∷ 2 ∷ []) (1 ∷ 3 ∷ [])

-- The largest rack with one slot.
abbrev card_largest : List ℕ
card_largest = card_of 200 1 1 0 (0 ∷ 0 ∷ []) (3 ∷ [])

-- A list with the gaps 2, 2 and 4.
abbrev list_e : List ℕ
list_e = 0 ∷ 2 ∷ 4 ∷ 8 ∷ []

-- A row of a success, with areas of just the bytes asked for.
abbrev plans : String → (card list : List ℕ) → (ratio : ℕ) → (cost : ℕ) → (plan : List ℕ) → Example
plans n c l r cost p =
    row n (plan_show (listed l r) c (sevens (length p)) (sevens (length l * length p))) 0 cost (p ∷ replicate (length l * length p) 0 ∷ [])

-- A row of a refusal, with areas that are long enough for E's show: they are as they were.
abbrev refuses : String → (card list : List ℕ) → (ratio number : ℕ) → Example
refuses n c l r number = row n (plan_show (listed l r) c (sevens 3) (sevens 800)) number 0 (sevens 3 ∷ sevens 800 ∷ [])

-- Lists that keep the rules: the plan limited to the list, its cost, ties, and the bytes asked for. In the row "an entry between the loads"
-- the list lacks the one count between them, 2.
list_rows : List Example
list_rows =
    plans "E with 0 2 4 8, at most twice the least" card_e list_e 2 8 (8 ∷ 8 ∷ 8 ∷ []) ∷
    plans "E with 0 5 8: the least itself" card_e (0 ∷ 5 ∷ 8 ∷ []) 5 5 (5 ∷ 5 ∷ 5 ∷ []) ∷
    plans "E with 0 and 8 alone" card_e (0 ∷ 8 ∷ []) 8 8 (8 ∷ 8 ∷ 8 ∷ []) ∷
    plans "E with a gap of just twice the gap before it" card_e (0 ∷ 2 ∷ 6 ∷ 8 ∷ []) 2 6 (6 ∷ 6 ∷ 6 ∷ []) ∷
    plans "E with the first entry just the ratio" card_e (0 ∷ 3 ∷ 6 ∷ 8 ∷ []) 3 6 (6 ∷ 6 ∷ 6 ∷ []) ∷
    plans "E with ratio 3 and a gap of three times the gap before it" card_e (0 ∷ 1 ∷ 4 ∷ 8 ∷ []) 3 8 (8 ∷ 8 ∷ 8 ∷ []) ∷
    one "the exact planner has no list to be judged" (cond (keeps_list exact (instance_of card_e)) 1 0 ∷ []) (1 ∷ []) ∷
    one "the coarse planner has no list to be judged" (cond (keeps_list coarse (instance_of card_e)) 1 0 ∷ []) (1 ∷ []) ∷
    one "the ratio of a list is the one handed in" (ratio_of (listed list_e 2) ∷ []) (2 ∷ []) ∷
    plans "E with all counts and ratio 1, as the exact planner" card_e (all_counts 8) 1 5 (5 ∷ 5 ∷ 5 ∷ []) ∷
    plans "E with the powers of two and ratio 2, as the coarse planner" card_e (coarse_counts 8) 2 8 (8 ∷ 8 ∷ 8 ∷ []) ∷
    plans "E with ratio 200" card_e list_e 200 8 (8 ∷ 8 ∷ 8 ∷ []) ∷
    plans "ties to the smallest entry that serves" card_free (0 ∷ 2 ∷ 3 ∷ 4 ∷ []) 2 0 (2 ∷ 0 ∷ 2 ∷ []) ∷
    plans "an entry between the loads" card_rising (0 ∷ 1 ∷ 3 ∷ 4 ∷ []) 2 23 (1 ∷ 3 ∷ []) ∷
    plans "plausible error: rounding up" card_up (0 ∷ 1 ∷ 2 ∷ 4 ∷ []) 2 7 (2 ∷ []) ∷
    plans "G's table, which falls at first" card_g (0 ∷ 1 ∷ 2 ∷ []) 1 2 (2 ∷ []) ∷
    plans "201 entries on a rack of 200, no slots" (card_of 200 1 1 0 (0 ∷ 0 ∷ []) []) (all_counts 200) 1 0 [] ∷
    plans "no slots" card_i (0 ∷ 1 ∷ 3 ∷ []) 2 0 [] ∷
    row "bytes beyond those asked for" (plan_show (listed list_e 2) card_e (sevens 5) (sevens 14)) 0 8
    (over 5 (8 ∷ 8 ∷ 8 ∷ []) ∷ over 14 (replicate 12 0) ∷ []) ∷
    []

-- Refusal 18, by each rule, 8 before it, and 10 behind it. More than 201 entries, fewer than two, 0 twice and ratio 0 break another rule
-- too.
list_refused_rows : List Example
list_refused_rows =
    refuses "not from 0 on" card_e (1 ∷ 2 ∷ 4 ∷ 8 ∷ []) 2 18 ∷
    refuses "ends below m" card_e (0 ∷ 2 ∷ 4 ∷ 7 ∷ []) 2 18 ∷
    refuses "ends above m" card_e (0 ∷ 2 ∷ 4 ∷ 9 ∷ []) 3 18 ∷
    refuses "the last entry twice" card_e (0 ∷ 2 ∷ 4 ∷ 8 ∷ 8 ∷ []) 2 18 ∷
    refuses "falls at the end" card_e (0 ∷ 2 ∷ 4 ∷ 9 ∷ 8 ∷ []) 3 18 ∷
    refuses "0 twice" card_e (0 ∷ 0 ∷ 8 ∷ []) 200 18 ∷
    refuses "ratio 201" card_e list_e 201 18 ∷
    refuses "ratio 0" card_e list_e 0 18 ∷
    refuses "first entry above the ratio" card_e (0 ∷ 3 ∷ 8 ∷ []) 2 18 ∷
    refuses "first gap more than twice the gap before it" card_e (0 ∷ 1 ∷ 4 ∷ 8 ∷ []) 2 18 ∷
    refuses "last gap more than twice the gap before it" card_e (0 ∷ 2 ∷ 3 ∷ 8 ∷ []) 2 18 ∷
    refuses "ratio 1 and a gap of twice the gap before it" card_e (0 ∷ 1 ∷ 2 ∷ 3 ∷ 4 ∷ 5 ∷ 6 ∷ 8 ∷ []) 1 18 ∷
    refuses "a gap of twice the gap before the last one" card_e (0 ∷ 2 ∷ 3 ∷ 7 ∷ 8 ∷ []) 2 18 ∷
    refuses "a ratio whose low byte is 2" card_e list_e 258 18 ∷
    refuses "a last entry whose low byte is 8" card_e (0 ∷ 2 ∷ 4 ∷ 264 ∷ []) 200 18 ∷
    refuses "two entries, the second above the ratio" card_e (0 ∷ 8 ∷ []) 7 18 ∷
    refuses "no entry" card_e [] 2 18 ∷
    refuses "0 alone" card_e (0 ∷ []) 2 18 ∷
    refuses "8 alone" card_e (8 ∷ []) 8 18 ∷
    refuses "202 entries" card_largest (all_counts 201) 1 18 ∷
    refuses "8 before a list against the rules" (card_of 3 2 3 2 (1 ∷ 2 ∷ 4 ∷ []) (7 ∷ [])) [] 0 8 ∷
    refuses "1 before a list against the rules" (take 16 card_e) [] 0 1 ∷
    refuses "7 with a list that keeps the rules" (card_of 3 2 3 2 (0 ∷ 2 ∷ 3 ∷ []) (1 ∷ [])) (0 ∷ 1 ∷ 3 ∷ []) 2 7 ∷
    refuses "no slots and a list against the rules" card_i (0 ∷ 2 ∷ []) 2 18 ∷
    row "18 before short areas" (plan_show (listed (0 ∷ 2 ∷ 8 ∷ []) 2) card_e [] []) 18 0 ([] ∷ [] ∷ []) ∷
    row "201 entries on a rack of 200 keep the rules" (plan_show (listed (all_counts 200) 1) card_largest (sevens 1) (sevens 200)) 10 0
    (sevens 1 ∷ sevens 200 ∷ []) ∷
    row "short plan area" (plan_show (listed list_e 2) card_e (sevens 2) (sevens 12)) 10 0 (sevens 2 ∷ sevens 12 ∷ []) ∷
    row "short work area" (plan_show (listed list_e 2) card_e (sevens 3) (sevens 11)) 10 0 (sevens 3 ∷ sevens 11 ∷ []) ∷
    []

-- Wrong programs and wrong readings: `expected` is what the program would answer.
list_wrong : List Example
list_wrong =
    one "10 before 18" (numbers (plan_show (listed (0 ∷ 2 ∷ 8 ∷ []) 2) card_e [] [])) (10 ∷ []) ∷
    one "18 before 8" (numbers (plan_show (listed [] 0) (card_of 3 2 3 2 (1 ∷ 2 ∷ 4 ∷ []) (7 ∷ [])) [] [])) (18 ∷ []) ∷
    one "no list is judged where there is no slot" (numbers (plan_show (listed (0 ∷ 2 ∷ []) 2) card_i [] [])) (0 ∷ []) ∷
    one "gaps less than r times the gap before" (numbers (plan_show (listed (0 ∷ 2 ∷ 6 ∷ 8 ∷ []) 2) card_e (sevens 3) (sevens 12))) (18 ∷ []) ∷
    one "the gap before it counted from 0" (numbers (plan_show (listed (0 ∷ 2 ∷ 3 ∷ 8 ∷ []) 2) card_e (sevens 3) (sevens 12))) (0 ∷ []) ∷
    one "the exact planner's work area" (numbers (plan_show (listed list_e 2) card_e (sevens 3) (sevens 12))) (10 ∷ []) ∷
    one "counts outside the list" (plan_at_exit (plan_show (listed list_e 2) card_e (sevens 3) (sevens 12))) (5 ∷ 5 ∷ 5 ∷ []) ∷
    one "exact counts rounded up" (plan_at_exit (plan_show (listed (0 ∷ 1 ∷ 2 ∷ 4 ∷ []) 2) card_up (sevens 1) (sevens 4))) (4 ∷ []) ∷
    one "ties to the largest entry" (plan_at_exit (plan_show (listed (0 ∷ 2 ∷ 4 ∷ []) 2) card_free (sevens 3) (sevens 9))) (4 ∷ 4 ∷ 4 ∷ []) ∷
    one "places for counts" (plan_at_exit (plan_show (listed list_e 2) card_e (sevens 3) (sevens 12))) (3 ∷ 3 ∷ 3 ∷ []) ∷
    one "the ratio times the least for the cost" (costs (plan_show (listed list_e 2) card_e (sevens 3) (sevens 12))) (10 ∷ []) ∷
    one "the work area not cleared" (work_at_exit (plan_show (listed list_e 2) card_e (sevens 3) (sevens 12))) (sevens 12) ∷
    []

list_rows_hold : AllHold list_rows
unfolding list_rows agrees
list_rows_hold = omega arith

list_refused_rows_hold : AllHold list_refused_rows
unfolding list_refused_rows agrees
list_refused_rows_hold = omega arith

list_wrong_differ : NoneHold list_wrong
unfolding list_wrong agrees
list_wrong_differ = omega arith
