-- Examples of document 02, §7: where the points of a sheet went. Beside them answers of wrong programs, which differ.
use Rattle.std.specs.Prelude.{ℕ, List, [], ◌∷◌, ◌++◌, take, set, replicate}
use Rattle.basics.specs.Core.{arith}
use Prim.Native.String.{String}
use Rattle.basics.specs.Lists.{tabulate}
use Rattle.basics.specs.Sums.{sum}
use Rattle.model.specs.Sheets.{state_at, active_at, counts_of}
use Rattle.model.specs.Thesis.{count_at}
use Rattle.model.specs.Explanation.{counts_operating_cost, counts_switching_cost, excess_operating_cost, excess_switching_cost, excess_of_counts}
use Rattle.model.specs.Calls.{explain_sheet}
use Rattle.model.specs.ExplainedPoints.{explained_work, points_with, points_of}
use Rattle.model.specs.Examples.{card_of, card_a, card_e, card_i, card_falls, card_least_at_top, sheet_d, sheet_falls, sevens, over, Example, agrees}
use Rattle.model.specs.Examples.{AllHold, NoneHold}

-- What is seen of an explanation: its four numbers, and the work area at exit.
unfoldable explained : (card sheet work : List ℕ) → List (List ℕ)
unfolding tabulate sum state_at active_at counts_of count_at counts_operating_cost counts_switching_cost excess_operating_cost excess_switching_cost
    excess_of_counts points_with points_of explained_work
explained c s w =
    ((points_of c s w).number ∷ (points_of c s w).spread ∷ (points_of c s w).swaps ∷ (points_of c s w).counts ∷ []) ∷
    explained_work (explain_sheet c s w) ∷ []

-- A row: a card, a sheet and a work area, then the four numbers expected and the work area at exit.
abbrev explains : String → (card sheet work : List ℕ) → (number spread swaps counts : ℕ) → (left : List ℕ) → Example
explains n c s w number a b d left =
    record { name = n; found = explained c s w; expected = (number ∷ a ∷ b ∷ d ∷ []) ∷ left ∷ [] }

-- A row of a success, with a work area of just the bytes asked for.
abbrev points : String → (card sheet : List ℕ) → (asked spread swaps counts : ℕ) → Example
points n c s asked a b d = explains n c s (sevens asked) 0 a b d (replicate asked 0)

-- A row of a refusal: three times 0, and the work area as it was.
abbrev refuses : String → (card sheet work : List ℕ) → (number : ℕ) → Example
refuses n c s w number = explains n c s w number 0 0 0 w

-- The exact plan's sheet for card A: plan 3 1 1.
abbrev sheet_a : List ℕ
sheet_a = 2 ∷ 2 ∷ 2 ∷ 0 ∷ 255 ∷ 255 ∷ 2 ∷ 255 ∷ 255 ∷ []

-- A sheet for card A with one module more than need be in the last slot: plan 3 1 2.
abbrev sheet_of_more : List ℕ
sheet_of_more = 2 ∷ 2 ∷ 2 ∷ 0 ∷ 255 ∷ 255 ∷ 1 ∷ 1 ∷ 255 ∷ []

-- Four modules, of which two or three are active in a slot. In the sheet they go round: one more than need be goes on in the second slot and
-- one in the third.
abbrev card_four : List ℕ
card_four = card_of 4 1 7 4 (1 ∷ 3 ∷ []) (2 ∷ 3 ∷ 2 ∷ [])

abbrev sheet_round : List ℕ
sheet_round = 1 ∷ 1 ∷ 255 ∷ 255 ∷ 255 ∷ 1 ∷ 1 ∷ 1 ∷ 1 ∷ 255 ∷ 255 ∷ 1 ∷ []

-- Three modules, which share the light of the first slot unevenly.
abbrev card_three : List ℕ
card_three = card_of 3 2 7 4 (1 ∷ 2 ∷ 5 ∷ []) (3 ∷ 2 ∷ [])

abbrev sheet_uneven : List ℕ
sheet_uneven = 2 ∷ 1 ∷ 0 ∷ 2 ∷ 255 ∷ 0 ∷ []

-- Sheets that serve: each number alone above 0, all three, none, and a work area longer than asked for.
point_rows : List Example
point_rows =
    points "D: the 5 points are swaps" card_a sheet_d 12 0 5 0 ∷
    points "D last byte 0: 1 of spread, 5 of swaps, 5 of counts" card_a (set sheet_d 8 0) 12 1 5 5 ∷
    points "the exact plan's sheet" card_a sheet_a 12 0 0 0 ∷
    points "spread alone: more light than the load" card_a (set sheet_a 3 1) 12 1 0 0 ∷
    points "uneven light, and a module more than need be" card_three sheet_uneven 8 4 0 10 ∷
    points "counts alone: one module more" card_a sheet_of_more 12 0 0 5 ∷
    points "a table that falls: spread by G, counts" card_falls sheet_falls 12 4 0 1 ∷
    points "a table that falls: more light and cheaper" card_falls (set sheet_falls 0 2) 12 0 0 1 ∷
    points "swaps alone: modules go round" card_four sheet_round 15 0 22 0 ∷
    points "no swap: the last module alone all through" (card_of 2 2 3 9 (0 ∷ 1 ∷ 3 ∷ []) (2 ∷ 2 ∷ [])) (255 ∷ 2 ∷ 255 ∷ 2 ∷ []) 6 0 0 0 ∷
    points "no module in a dark slot: 1 of spread, 9 of counts" card_a (set (set sheet_a 3 255) 7 0) 12 1 0 9 ∷
    points "counts alone: one module too few, of ten, in one slot" (card_of 10 2 0 0 (0 ∷ 1 ∷ 4 ∷ []) (2 ∷ [])) (2 ∷ replicate 9 255) 11 0 0 2 ∷
    points "least at the top step" card_least_at_top (2 ∷ 1 ∷ 255 ∷ 1 ∷ []) 6 6 0 0 ∷
    points "E: counts above the exact plan, not above the coarse one" card_e (replicate 24 1) 27 0 0 3 ∷
    explains "two bytes more than asked for" card_a sheet_d (sevens 14) 0 0 5 0 (over 14 (replicate 12 0)) ∷
    points "no slots" card_i [] 0 0 0 0 ∷
    []

-- Each refusal, and of two the lower one.
refused_rows : List Example
refused_rows =
    refuses "not a card" (take 16 card_a) sheet_d (sevens 12) 1 ∷
    refuses "version" (set card_a 3 2) sheet_d (sevens 12) 2 ∷
    refuses "rack" (set card_a 5 0) sheet_d (sevens 12) 3 ∷
    refuses "1,025 slots" (set (set card_a 7 1) 8 4) sheet_d (sevens 12) 4 ∷
    refuses "length" (take 34 card_a) sheet_d (sevens 12) 5 ∷
    refuses "price" (card_of 3 2 500000001 2 (1 ∷ 2 ∷ 4 ∷ []) []) [] [] 6 ∷
    refuses "not convex" (card_of 3 2 3 2 (0 ∷ 2 ∷ 3 ∷ []) (1 ∷ [])) [] [] 7 ∷
    refuses "load before a short area and a short sheet" (card_of 3 2 3 2 (1 ∷ 2 ∷ 4 ∷ []) (7 ∷ [])) [] [] 8 ∷
    refuses "a work area one byte short" card_a sheet_d (sevens 11) 10 ∷
    refuses "a short area before a short sheet" card_a (take 8 sheet_d) (sevens 11) 10 ∷
    refuses "a short area before a step above Q" card_a (set sheet_d 0 3) (sevens 11) 10 ∷
    refuses "a sheet of 8 bytes" card_a (take 8 sheet_d) (sevens 12) 11 ∷
    refuses "a sheet of 10 bytes" card_a (sheet_d ++ (255 ∷ [])) (sevens 12) 11 ∷
    refuses "a short sheet before a step above Q and too little light" card_a (take 8 (set (set sheet_d 0 1) 7 3)) (sevens 12) 11 ∷
    refuses "a step above Q in the last slot before too little light in the first" card_a (set (set sheet_d 0 1) 8 3) (sevens 12) 12 ∷
    refuses "too little light" card_a (set sheet_d 0 1) (sevens 13) 13 ∷
    []

-- Wrong programs and wrong readings: `expected` is what the program would answer.
explanation_wrong : List Example
explanation_wrong =
    points "the counts' running cost with F" card_falls sheet_falls 12 0 0 1 ∷
    points "F in the cost of the counts as a plan too" card_falls sheet_falls 12 0 0 5 ∷
    points "the swaps charged to the counts (D)" card_a sheet_d 12 0 0 5 ∷
    points "the change of the counts after the last slot left out (D)" card_a sheet_d 12 0 7 0 ∷
    points "counts above the coarse plan (E)" card_e (replicate 24 1) 27 0 0 0 ∷
    points "the sheet's own counts taken for the least (A)" card_a sheet_of_more 12 0 0 0 ∷
    points "the warm-up of a swap alone (D)" card_a sheet_d 12 0 3 0 ∷
    refuses "11 before 10" card_a (take 8 sheet_d) (sevens 11) 11 ∷
    explains "the work area not cleared" card_a sheet_d (sevens 12) 0 0 5 0 (sevens 12) ∷
    explains "the work area cleared after a refusal" card_a (set sheet_d 0 1) (sevens 12) 13 0 0 0 (replicate 12 0) ∷
    explains "points with a refusal" card_a (set sheet_d 4 1) (sevens 11) 10 1 5 0 (sevens 11) ∷
    []

point_rows_hold : AllHold point_rows
unfolding point_rows agrees explained
point_rows_hold = omega arith

refused_rows_hold : AllHold refused_rows
unfolding refused_rows agrees explained
refused_rows_hold = omega arith

explanation_wrong_differ : NoneHold explanation_wrong
unfolding explanation_wrong agrees explained
explanation_wrong_differ = omega arith
