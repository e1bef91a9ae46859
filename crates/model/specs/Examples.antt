-- Document 01's starred examples, A to J: one table, one proof. Beside it tables of further rows by subject, and one of the answers of
-- wrong programs, which differ.
use Rattle.std.specs.Prelude.{ℕ, ◌+◌, ◌-◌, ◌≡◌, refl, Bool, true, false, not, List, [], ◌∷◌, ◌++◌, map, length, get_or, take, drop, set, replicate}
use Rattle.basics.specs.Core.{ap, sym, ◌∙◌, false≢true, flat_map, head_d}
use Rattle.basics.specs.Core.{arith}
use Prim.Native.String.{String}
use Rattle.basics.specs.Tests.{every, all_of}
use Rattle.basics.specs.Sums.{sum}
use Rattle.basics.specs.Ranges.{least_over, first_over}
use Rattle.basics.specs.Lists.{tabulate, rows, keep, same_list, same_lists, same_selves, same_lists_equal}
use Rattle.basics.specs.Text.{text}
use Rattle.basics.specs.Bytes.{little_endian, bytes_of}
use Rattle.model.specs.Answers.{number_of, cost_of}
use Rattle.model.specs.Instance.{Instance, instance_of, card_bytes, card_length, convex_at, convex, never_falls, table_in_range}
use Rattle.model.specs.Instance.{prices_in_range, loads_in_range}
use Rattle.model.specs.MoreLight.{least_from, active_step}
use Rattle.model.specs.CountRules.{strictly_ascends, gaps_grow_by, ends_at, ratio_in_range, keeps_rules}
use Rattle.model.specs.Counts.{can_serve, operating_cost, all_counts, power_of_two, coarse_counts, rounded_count, printed_cases, case_value}
use Rattle.model.specs.Counts.{Case, ◌to◌, rounded_by_cases}
use Rattle.model.specs.Sheets.{state_at, sheet_length, sheet_entries, light_at, sheet_light, step_cost, change_cost}
use Rattle.model.specs.Sheets.{sheet_operating_cost, sheet_switching_cost, sheet_cost}
use Rattle.model.specs.Plans.{module_byte, slot_row, sheet_of, plan_cost, plan_in_rack, plan_serves, plans_in_order, cheapest, cheapest_of, least_plan}
use Rattle.model.specs.Planners.{exact, coarse, allowed_counts, work_bytes, planned_by}
use Rattle.model.specs.Listing.{digits, decimal, cost_line, plan_line, step_text, slot_line, listing, refused_line, printed_for, printed}
use Rattle.model.specs.Listing.{catalogue_lines}
use Rattle.model.specs.Practice.{xor_left, xor_right, draw, drawn, practice_difference, practice_entry, practice_show, longest_practice}
use Rattle.model.specs.Catalogue.{catalogue_entry, follows_rule, catalogue_bytes}
use Rattle.model.specs.Calls.{Call, check_card, running_cost, plan_show, make_sheet, mark_sheet, round_count, practice_card, spec_of, answer}
use Rattle.model.specs.Calls.{buffers_at_exit, plan_at_exit, work_at_exit, card_at_exit, table_at_exit, outcome}
use Rattle.model.specs.Specs.{any_short, card_tests, first_of, at_exit}

-- A show: modules, top step, prices, table, loads.
abbrev pub show_of : (m q up down : ℕ) → (table loads : List ℕ) → Instance
show_of m q up down f loads =
    record {
      modules = m;
      top_step = q;
      slots = length loads;
      power_up = up;
      power_down = down;
      table = λ k. get_or f k 0;
      load = λ t. get_or loads t 0;
    }

abbrev pub card_of : (m q up down : ℕ) → (table loads : List ℕ) → List ℕ
card_of m q up down f loads = card_bytes (show_of m q up down f loads)

-- Card A, as document 01 prints it.
abbrev pub card_a : List ℕ
card_a =
    0x44 ∷ 0x4C ∷ 0x53 ∷ 0x01 ∷ 0x00 ∷ 0x03 ∷ 0x02 ∷ 0x03 ∷ 0x00 ∷ 0x03 ∷ 0x00 ∷ 0x00 ∷ 0x00 ∷ 0x02 ∷ 0x00 ∷ 0x00 ∷ 0x00 ∷
    0x01 ∷ 0x00 ∷ 0x00 ∷ 0x00 ∷ 0x02 ∷ 0x00 ∷ 0x00 ∷ 0x00 ∷ 0x04 ∷ 0x00 ∷ 0x00 ∷ 0x00 ∷ 0x06 ∷ 0x00 ∷ 0x00 ∷ 0x00 ∷ 0x02 ∷ 0x00 ∷ []

abbrev pub card_e : List ℕ
card_e = card_of 8 1 1 0 (0 ∷ 0 ∷ []) (5 ∷ 3 ∷ 5 ∷ [])

abbrev card_f : List ℕ
card_f = card_of 2 1 1 0 (0 ∷ 0 ∷ []) (1 ∷ 0 ∷ [])

abbrev pub card_g : List ℕ
card_g = card_of 2 2 0 0 (5 ∷ 1 ∷ 9 ∷ []) (2 ∷ [])

abbrev pub card_i : List ℕ
card_i = card_of 3 2 3 2 (1 ∷ 2 ∷ 4 ∷ []) []

-- The card of 01's plausible error of rounding each exact count up.
abbrev pub card_up : List ℕ
card_up = card_of 4 2 1 0 (1 ∷ 1 ∷ 4 ∷ []) (3 ∷ [])

-- Tables that fall at first: the least is at steps 1 and 2, or at the top step alone, on a rack of four and on racks of two; and a table
-- that is flat.
abbrev pub card_falls : List ℕ
card_falls = card_of 2 3 0 0 (5 ∷ 1 ∷ 1 ∷ 9 ∷ []) (0 ∷ 1 ∷ 4 ∷ 5 ∷ [])

abbrev card_of_four : List ℕ
card_of_four = card_of 4 2 0 0 (20 ∷ 10 ∷ 1 ∷ []) (6 ∷ [])

abbrev pub card_least_at_top : List ℕ
card_least_at_top = card_of 2 2 1 1 (9 ∷ 5 ∷ 2 ∷ []) (3 ∷ 1 ∷ [])

abbrev card_steep : List ℕ
card_steep = card_of 2 3 0 0 (20 ∷ 12 ∷ 6 ∷ 2 ∷ []) (1 ∷ [])

abbrev card_flat : List ℕ
card_flat = card_of 2 3 0 0 (4 ∷ 4 ∷ 4 ∷ 4 ∷ []) (0 ∷ 3 ∷ [])

-- A sheet for the table that falls at first. It has just the load in every slot, with one module active at step 0.
abbrev pub sheet_falls : List ℕ
sheet_falls = 0 ∷ 255 ∷ 1 ∷ 255 ∷ 2 ∷ 2 ∷ 3 ∷ 2 ∷ []

-- Example D's sheet for card A.
abbrev pub sheet_d : List ℕ
sheet_d = 2 ∷ 2 ∷ 2 ∷ 255 ∷ 0 ∷ 255 ∷ 2 ∷ 255 ∷ 255 ∷ []

-- The practice cards of start 1,950 (Q 3, T 0), of start 4,294,967,255 (Q 2, T 1) and of start 2,557 (Q 6, T 6), as
-- `tests/practice.py` writes them.
abbrev card1950 : List ℕ
card1950 =
    0x44 ∷ 0x4C ∷ 0x53 ∷ 0x01 ∷ 0x00 ∷ 0x60 ∷ 0x03 ∷ 0x00 ∷ 0x00 ∷ 0xBE ∷ 0x01 ∷ 0x00 ∷ 0x00 ∷ 0x02 ∷ 0x02 ∷ 0x00 ∷ 0x00 ∷
    0xAA ∷ 0x01 ∷ 0x00 ∷ 0x00 ∷ 0xAD ∷ 0x01 ∷ 0x00 ∷ 0x00 ∷ 0xB2 ∷ 0x01 ∷ 0x00 ∷ 0x00 ∷ 0xBA ∷ 0x01 ∷ 0x00 ∷ 0x00 ∷ []

abbrev card4294967255 : List ℕ
card4294967255 =
    0x44 ∷ 0x4C ∷ 0x53 ∷ 0x01 ∷ 0x00 ∷ 0x76 ∷ 0x02 ∷ 0x01 ∷ 0x00 ∷ 0x17 ∷ 0x00 ∷ 0x00 ∷ 0x00 ∷ 0x7B ∷ 0x02 ∷ 0x00 ∷ 0x00 ∷
    0xF5 ∷ 0x02 ∷ 0x00 ∷ 0x00 ∷ 0xFA ∷ 0x02 ∷ 0x00 ∷ 0x00 ∷ 0x02 ∷ 0x03 ∷ 0x00 ∷ 0x00 ∷ 0xC5 ∷ 0x00 ∷ []

abbrev card2557 : List ℕ
card2557 =
    0x44 ∷ 0x4C ∷ 0x53 ∷ 0x01 ∷ 0x00 ∷ 0xA3 ∷ 0x06 ∷ 0x06 ∷ 0x00 ∷ 0x8E ∷ 0x03 ∷ 0x00 ∷ 0x00 ∷ 0x39 ∷ 0x00 ∷ 0x00 ∷ 0x00 ∷
    0xFA ∷ 0x02 ∷ 0x00 ∷ 0x00 ∷ 0xFF ∷ 0x02 ∷ 0x00 ∷ 0x00 ∷ 0x06 ∷ 0x03 ∷ 0x00 ∷ 0x00 ∷ 0x10 ∷ 0x03 ∷ 0x00 ∷ 0x00 ∷ 0x1A ∷
    0x03 ∷ 0x00 ∷ 0x00 ∷ 0x26 ∷ 0x03 ∷ 0x00 ∷ 0x00 ∷ 0x34 ∷ 0x03 ∷ 0x00 ∷ 0x00 ∷ 0x1C ∷ 0x02 ∷ 0xC0 ∷ 0x02 ∷ 0x15 ∷ 0x00 ∷
    0x21 ∷ 0x02 ∷ 0x45 ∷ 0x00 ∷ 0xD0 ∷ 0x01 ∷ []

-- Card A's listing, as document 01 prints it.
abbrev listing_a : List ℕ
listing_a = text "cost 32\nplan 3 1 1\nslot 1: 2 2 2\nslot 2: 0 - -\nslot 3: 2 - -\n"

-- A buffer of n bytes, each of them 7.
abbrev pub sevens : ℕ → List ℕ
sevens n = replicate n 7

-- A buffer of n bytes whose first bytes are written, the others still 7.
abbrev pub over : ℕ → List ℕ → List ℕ
over n written = written ++ replicate (n - length written) 7

pub record Example : Type 0 where
  pub name : String
  pub found : List (List ℕ)
  pub expected : List (List ℕ)

-- A row of a table: a call and its expected number, cost and buffers at exit.
abbrev pub row : String → Call → ℕ → ℕ → List (List ℕ) → Example
row n c number cost buffers = record { name = n; found = outcome c; expected = (number ∷ cost ∷ []) ∷ buffers }

-- A row with one list of numbers: as it is found, and as it is expected.
abbrev pub one : String → List ℕ → List ℕ → Example
one n found expected = record { name = n; found = found ∷ []; expected = expected ∷ [] }

starred : List Example
starred =
    row "A exact" (plan_show exact card_a (sevens 5) (sevens 14)) 0 32 (over 5 (3 ∷ 1 ∷ 1 ∷ []) ∷ over 14 (replicate 12 0) ∷ []) ∷
    one "A listing" (printed card_a) listing_a ∷
    row "A sheet" (make_sheet card_a (3 ∷ 1 ∷ 1 ∷ []) (sevens 11)) 0 32 (over 11 (2 ∷ 2 ∷ 2 ∷ 0 ∷ 255 ∷ 255 ∷ 2 ∷ 255 ∷ 255 ∷ []) ∷ []) ∷
    row "B" (running_cost card_a 3 4) 0 8 [] ∷
    row "C cannot serve" (running_cost card_a 2 5) 13 0 [] ∷
    row "C none" (running_cost card_a 0 0) 0 0 [] ∷
    row "D" (mark_sheet card_a sheet_d) 0 37 [] ∷
    row "D last byte 0" (mark_sheet card_a (set sheet_d 8 0)) 0 43 [] ∷
    row "E exact" (plan_show exact card_e (sevens 4) (sevens 28)) 0 5 (over 4 (5 ∷ 5 ∷ 5 ∷ []) ∷ over 28 (replicate 27 0) ∷ []) ∷
    row "E coarse" (plan_show coarse card_e (sevens 4) (sevens 31)) 0 8 (over 4 (8 ∷ 8 ∷ 8 ∷ []) ∷ over 31 (replicate 30 0) ∷ []) ∷
    row "F" (plan_show exact card_f (sevens 3) (sevens 7)) 0 1 (over 3 (1 ∷ 0 ∷ []) ∷ over 7 (replicate 6 0) ∷ []) ∷
    row "G exact" (plan_show exact card_g (sevens 2) (sevens 4)) 0 2 (over 2 (2 ∷ []) ∷ over 4 (replicate 3 0) ∷ []) ∷
    row "G coarse" (plan_show coarse card_g (sevens 2) (sevens 11)) 0 2 (over 2 (2 ∷ []) ∷ over 11 (replicate 10 0) ∷ []) ∷
    row "H refused" (check_card (card_of 3 2 3 2 (0 ∷ 2 ∷ 3 ∷ []) (1 ∷ []))) 7 0 [] ∷
    row "H accepted" (check_card (card_of 3 2 3 2 (0 ∷ 2 ∷ 4 ∷ []) (1 ∷ []))) 0 0 [] ∷
    row "I exact" (plan_show exact card_i (sevens 2) (sevens 2)) 0 0 (sevens 2 ∷ sevens 2 ∷ []) ∷
    row "I coarse" (plan_show coarse card_i (sevens 2) (sevens 2)) 0 0 (sevens 2 ∷ sevens 2 ∷ []) ∷
    one "J rack of 1" (coarse_counts 1) (0 ∷ 1 ∷ []) ∷
    one "J rack of 128" (coarse_counts 128) (0 ∷ 1 ∷ 2 ∷ 4 ∷ 8 ∷ 16 ∷ 32 ∷ 64 ∷ 128 ∷ []) ∷
    one "J rack of 200" (coarse_counts 200) (0 ∷ 1 ∷ 2 ∷ 4 ∷ 8 ∷ 16 ∷ 32 ∷ 64 ∷ 128 ∷ 200 ∷ []) ∷
    []

-- Cards: refusals 1 to 6 and 8, the lower of two, and bounds.
card_rows : List Example
card_rows =
    row "wrong mark" (check_card (set card_a 2 0)) 1 0 [] ∷
    row "L cut to 16" (check_card (take 16 card_a)) 1 0 [] ∷
    row "L version before rack" (check_card (set (set card_a 3 2) 5 0)) 2 0 [] ∷
    row "K rack of 201" (check_card (set card_a 5 201)) 3 0 [] ∷
    row "top step 201" (check_card (set card_a 6 201)) 3 0 [] ∷
    row "rack before slots" (check_card (set (set card_a 8 9) 5 0)) 3 0 [] ∷
    row "K 1,025 slots" (check_card (set (set card_a 7 1) 8 4)) 4 0 [] ∷
    row "L cut to 34" (check_card (take 34 card_a)) 5 0 [] ∷
    row "L one byte more" (check_card (card_a ++ (0 ∷ []))) 5 0 [] ∷
    row "warm-up price" (check_card (card_of 3 2 500000001 2 (1 ∷ 2 ∷ 4 ∷ []) [])) 6 0 [] ∷
    row "cool-down price" (check_card (card_of 3 2 3 500000001 (1 ∷ 2 ∷ 4 ∷ []) [])) 6 0 [] ∷
    row "table entry" (check_card (card_of 3 2 3 2 (1 ∷ 2 ∷ 1000001 ∷ []) [])) 6 0 [] ∷
    row "prices at their bounds" (check_card (card_of 3 2 500000000 500000000 (1000000 ∷ 1000000 ∷ 1000000 ∷ []) [])) 0 0 [] ∷
    row "load above m × Q" (check_card (card_of 3 2 3 2 (1 ∷ 2 ∷ 4 ∷ []) (7 ∷ []))) 8 0 [] ∷
    row "m 257 written in one byte is m 1" (check_card (card_of 257 2 3 2 (1 ∷ 2 ∷ 4 ∷ []) (2 ∷ []))) 0 0 [] ∷
    row "m 257 written in one byte serves no more than m 1" (check_card (card_of 257 2 3 2 (1 ∷ 2 ∷ 4 ∷ []) (3 ∷ []))) 8 0 [] ∷
    []

-- Planners: refusal 10 by each buffer, and 01's plausible error of rounding each exact count up.
plan_rows : List Example
plan_rows =
    row "short plan area" (plan_show exact card_a (sevens 2) (sevens 12)) 10 0 (sevens 2 ∷ sevens 12 ∷ []) ∷
    row "short work area" (plan_show exact card_a (sevens 3) (sevens 11)) 10 0 (sevens 3 ∷ sevens 11 ∷ []) ∷
    row "plausible error: rounding up" (plan_show coarse card_up (sevens 1) (sevens 10)) 0 7 ((2 ∷ []) ∷ replicate 10 0 ∷ []) ∷
    []

-- The sheet call and marking: refusals 10 to 13, the lower of two, and more light than the load.
sheet_rows : List Example
sheet_rows =
    row "short area before a short plan" (make_sheet card_a [] (sevens 8)) 10 0 (sevens 8 ∷ []) ∷
    row "plan of 4 counts" (make_sheet card_a (3 ∷ 1 ∷ 1 ∷ 1 ∷ []) (sevens 9)) 11 0 (sevens 9 ∷ []) ∷
    row "count 4 in slot 3 before count 0 in slot 1" (make_sheet card_a (0 ∷ 1 ∷ 4 ∷ []) (sevens 9)) 12 0 (sevens 9 ∷ []) ∷
    row "count 2 for load 6" (make_sheet card_a (2 ∷ 1 ∷ 1 ∷ []) (sevens 9)) 13 0 (sevens 9 ∷ []) ∷
    row "sheet of 8 bytes" (mark_sheet card_a (take 8 sheet_d)) 11 0 [] ∷
    row "sheet of 10 bytes" (mark_sheet card_a (sheet_d ++ (255 ∷ []))) 11 0 [] ∷
    row "step above Q" (mark_sheet card_a (set sheet_d 0 3)) 12 0 [] ∷
    row "too little light" (mark_sheet card_a (set sheet_d 0 1)) 13 0 [] ∷
    row "more light than the load" (mark_sheet card_a (set sheet_d 4 1)) 0 38 [] ∷
    []

-- More light than the load (02 §2), on tables that fall at first and on a flat one: the running cost by G, the sheet at the smallest step
-- of least cost, marking by F of the steps handed in, just the load and one step less, and either planner.
light_rows : List Example
light_rows =
    row "G(0) and G(1)" (running_cost card_falls 2 1) 0 2 [] ∷
    row "G(2) and G(3)" (running_cost card_falls 2 5) 0 10 [] ∷
    row "the smallest of two cheap steps" (make_sheet card_falls (1 ∷ 1 ∷ 2 ∷ 2 ∷ []) (sevens 9)) 0 14
    (over 9 (1 ∷ 255 ∷ 1 ∷ 255 ∷ 2 ∷ 2 ∷ 3 ∷ 2 ∷ []) ∷ []) ∷
    row "falling, exact" (plan_show exact card_falls (sevens 4) (sevens 12)) 0 13 ((0 ∷ 1 ∷ 2 ∷ 2 ∷ []) ∷ replicate 12 0 ∷ []) ∷
    row "falling, coarse" (plan_show coarse card_of_four (sevens 1) (sevens 10)) 0 4 ((4 ∷ []) ∷ replicate 10 0 ∷ []) ∷
    row "just the load, at F of each step" (mark_sheet card_falls sheet_falls) 0 18 [] ∷
    row "one step darker" (mark_sheet card_falls (set sheet_falls 4 1)) 13 0 [] ∷
    row "lighter and cheaper" (mark_sheet card_falls (set sheet_falls 0 2)) 0 14 [] ∷
    row "lighter and dearer" (mark_sheet card_falls (set sheet_falls 2 3)) 0 26 [] ∷
    row "least at the top step, exact" (plan_show exact card_least_at_top (sevens 2) (sevens 6)) 0 10 ((2 ∷ 1 ∷ []) ∷ replicate 6 0 ∷ []) ∷
    row "least at the top step, sheet" (make_sheet card_least_at_top (2 ∷ 1 ∷ []) (sevens 4)) 0 10 ((2 ∷ 2 ∷ 2 ∷ 255 ∷ []) ∷ []) ∷
    row "least at the top step, coarse" (plan_show coarse card_least_at_top (sevens 2) (sevens 20)) 0 10 ((2 ∷ 1 ∷ []) ∷ replicate 20 0 ∷ []) ∷
    row "falling to the top, both below it" (running_cost card_steep 2 1) 0 4 [] ∷
    row "falling to the top, both raised" (make_sheet card_steep (2 ∷ []) (sevens 2)) 0 4 ((3 ∷ 3 ∷ []) ∷ []) ∷
    row "a step between the lowest and the top" (make_sheet card_a (3 ∷ 1 ∷ 2 ∷ []) (sevens 9)) 0 37
    ((2 ∷ 2 ∷ 2 ∷ 0 ∷ 255 ∷ 255 ∷ 1 ∷ 1 ∷ 255 ∷ []) ∷ []) ∷
    row "lighter in slot 1, darker in the last" (mark_sheet card_falls (set (set sheet_falls 0 2) 7 1)) 13 0 [] ∷
    row "all at the top step" (mark_sheet card_falls (replicate 8 3)) 0 72 [] ∷
    row "a table that falls is accepted" (check_card card_falls) 0 0 [] ∷
    row "flat, sheet" (make_sheet card_flat (1 ∷ 2 ∷ []) (sevens 4)) 0 12 ((0 ∷ 255 ∷ 2 ∷ 1 ∷ []) ∷ []) ∷
    []

-- Where the printed cases begin and where they end.
abbrev first_counts : List ℕ
first_counts = 0 ∷ 1 ∷ 2 ∷ 3 ∷ 5 ∷ 9 ∷ 17 ∷ 33 ∷ 65 ∷ 129 ∷ []

abbrev last_counts : List ℕ
last_counts = 0 ∷ 1 ∷ 2 ∷ 4 ∷ 8 ∷ 16 ∷ 32 ∷ 64 ∷ 128 ∷ 200 ∷ []

-- The counts n of a list as the cases round them in a rack of m.
abbrev rounding : ℕ → List ℕ → List ℕ
rounding m = map (rounded_by_cases m)

-- The rounded count: a power of two, held to m, refusals 3 and 12; and by the course book's list of cases.
round_rows : List Example
round_rows =
    row "rounded 5 of 6" (round_count 5 6) 0 6 [] ∷
    row "rounded 5 of 200" (round_count 5 200) 0 8 [] ∷
    row "rounded 128 of 200" (round_count 128 200) 0 128 [] ∷
    row "rounded 129 of 200" (round_count 129 200) 0 200 [] ∷
    row "rounded 0 of 1" (round_count 0 1) 0 0 [] ∷
    row "rounded 7 of 6" (round_count 7 6) 12 0 [] ∷
    row "rounded 0 of 0" (round_count 0 0) 3 0 [] ∷
    row "rounded 202 of 201" (round_count 202 201) 3 0 [] ∷
    one "the first counts of the cases" (rounding 200 first_counts) last_counts ∷
    one "the last counts of the cases" (rounding 200 last_counts) last_counts ∷
    one "where the cases begin" (map (λ (c : Case). c.first) printed_cases) first_counts ∷
    one "cases held to a rack of 100" (rounding 100 (2 ∷ 33 ∷ 64 ∷ 65 ∷ 100 ∷ [])) (2 ∷ 64 ∷ 64 ∷ 100 ∷ 100 ∷ []) ∷
    one "no case after 200" (case_value printed_cases 201 ∷ []) (0 ∷ []) ∷
    one "two cases, 5 in both" (map (case_value (3 to 5 ∷ 5 to 8 ∷ [])) (2 ∷ 3 ∷ 5 ∷ 6 ∷ 9 ∷ [])) (0 ∷ 5 ∷ 5 ∷ 8 ∷ 0 ∷ []) ∷
    []

-- Practice cards: the first draws of a start, whole cards, the byte after a card, refusals 14 and 10, and 14 before 10.
practice_rows : List Example
practice_rows =
    one "draws from 1" (drawn 1 1 ∷ drawn 1 2 ∷ drawn 1 3 ∷ drawn 1 4 ∷ []) (270369 ∷ 67634689 ∷ 2647435461 ∷ 307599695 ∷ []) ∷
    row "start 1,950, an area of the card's length" (practice_card 1950 (sevens 33)) 0 0 (card1950 ∷ []) ∷
    row "start 4,294,967,255, one byte after the card" (practice_card 4294967255 (sevens 32)) 0 0 (over 32 card4294967255 ∷ []) ∷
    row "start 2,557" (practice_card 2557 (sevens 60)) 0 0 (over 60 card2557 ∷ []) ∷
    row "start 0" (practice_card 0 (sevens 33)) 14 0 (sevens 33 ∷ []) ∷
    row "start 0 before no area" (practice_card 0 []) 14 0 ([] ∷ []) ∷
    row "one byte too short" (practice_card 1950 (sevens 32)) 10 0 (sevens 32 ∷ []) ∷
    row "a practice card is accepted" (check_card card2557) 0 0 [] ∷
    one "start 6,548 has a longest card" (card_length (practice_show 6548) ∷ []) (longest_practice ∷ []) ∷
    []

-- What is found is what is expected, computed through every definition.
unfoldable pub agrees : Example → Bool
unfolding same_lists same_list every all_of sum tabulate rows keep little_endian bytes_of instance_of card_bytes card_length convex_at convex
    never_falls table_in_range prices_in_range loads_in_range can_serve operating_cost all_counts power_of_two coarse_counts rounded_count
    printed_cases case_value rounded_by_cases state_at
    sheet_length sheet_entries light_at sheet_light step_cost change_cost sheet_operating_cost sheet_switching_cost sheet_cost least_over first_over
    least_from active_step module_byte slot_row sheet_of plan_cost plan_in_rack plan_serves plans_in_order cheapest cheapest_of least_plan allowed_counts
    work_bytes planned_by xor_left xor_right draw drawn practice_difference practice_entry practice_show strictly_ascends
    gaps_grow_by ends_at ratio_in_range keeps_rules any_short card_tests spec_of first_of answer at_exit buffers_at_exit plan_at_exit work_at_exit card_at_exit table_at_exit
    outcome flat_map head_d
    digits decimal cost_line plan_line step_text slot_line listing refused_line printed_for printed catalogue_entry follows_rule catalogue_bytes catalogue_lines
agrees e = same_lists e.found e.expected

-- A type that nothing proves: where a row does not hold, the check's error shows it with the row's name.
pub data Failed (name : String) : Type 0 where

abbrev pub verdict : String → Bool → Type 0
verdict n true = Unit {0}
verdict n false = Failed n

-- Every row of a table holds.
abbrev pub AllHold : List Example → Type 0
AllHold [] = Unit {0}
AllHold (e ∷ es) = verdict e.name (agrees e) × AllHold es

-- A row that holds says that found and expected are equal.
holds_equal : (e : Example) → verdict e.name (agrees e) → e.found ≡ e.expected
unfolding agrees
holds_equal e v = same_lists_equal e.found e.expected (go (same_lists e.found e.expected) v)
  where
    go : (b : Bool) → verdict e.name b → b ≡ true
    go true w = refl
    go false w = elim w [ ]

abbrev pub numbers : Call → List ℕ
numbers c = number_of (answer c) ∷ []

abbrev pub costs : Call → List ℕ
costs c = cost_of (answer c) ∷ []

-- Two fields of w bytes of a card, each in the other's place.
abbrev exchanged : (p q w : ℕ) → List ℕ → List ℕ
exchanged p q w card =
    take p card ++ (take w (drop q card) ++ (take (q - p - w) (drop (p + w) card) ++ (take w (drop p card) ++ drop (q + w) card)))

-- Wrong programs of document 01's last section, one of its plausible errors, and wrong readings of document 02: `expected` is what the
-- program would answer.
wrong : List Example
wrong =
    one "full rack always (A)" (plan_at_exit (plan_show exact card_a (sevens 5) (sevens 14))) (over 5 (3 ∷ 3 ∷ 3 ∷ [])) ∷
    one "slot 1's count repeated (F)" (plan_at_exit (plan_show exact card_f (sevens 3) (sevens 7))) (over 3 (1 ∷ 1 ∷ [])) ∷
    one "no plan written (A)" (plan_at_exit (plan_show exact card_a (replicate 5 255) (sevens 14))) (replicate 5 255) ∷
    one "8 in every card (A)" (numbers (check_card card_a)) (8 ∷ []) ∷
    one "10 in every card (A)" (numbers (plan_show exact card_a (sevens 5) (sevens 14))) (10 ∷ []) ∷
    one "invented cost: the least (D)" (costs (mark_sheet card_a sheet_d)) (32 ∷ []) ∷
    one "rounding exact counts up" (plan_at_exit (plan_show coarse card_up (sevens 1) (sevens 10))) (4 ∷ []) ∷
    one "9 for a table that falls (G)" (numbers (plan_show coarse card_g (sevens 2) (sevens 11))) (9 ∷ []) ∷
    one "more light refused (A)" (numbers (mark_sheet card_a (set sheet_d 4 1))) (13 ∷ []) ∷
    one "marking charges G" (costs (mark_sheet card_falls sheet_falls)) (14 ∷ []) ∷
    one "10 before 14" (numbers (practice_card 0 [])) (10 ∷ []) ∷
    one "the cool-down drawn before the warm-up" (card_at_exit (practice_card 1950 (sevens 33))) (exchanged 9 13 4 card1950) ∷
    one "what a draw gives is the old s" (drawn 1 1 ∷ []) (1 ∷ []) ∷
    one "65 to 127" (costs (round_count 128 200)) (200 ∷ []) ∷
    one "128 for the last case" (costs (round_count 129 200)) (128 ∷ []) ∷
    one "not held to m" (costs (round_count 5 6)) (8 ∷ []) ∷
    []

-- No row of a table holds.
abbrev pub NoneHold : List Example → Type 0
NoneHold [] = Unit {0}
NoneHold (e ∷ es) = verdict e.name (not (agrees e)) × NoneHold es

-- A row that does not hold says that found and expected differ.
fails_differ : (e : Example) → verdict e.name (not (agrees e)) → e.found ≡ e.expected → ⊥
unfolding agrees
fails_differ e v p = go (same_lists e.found e.expected) v (ap (same_lists e.found) (sym p) ∙ same_selves e.found)
  where
    go : (b : Bool) → verdict e.name (not b) → b ≡ true → ⊥
    go true w t = elim w [ ]
    go false w t = false≢true t

-- The starred examples, by one computation.
starred_hold : AllHold starred
unfolding starred agrees
starred_hold = omega arith

card_rows_hold : AllHold card_rows
unfolding card_rows agrees
card_rows_hold = omega arith

plan_rows_hold : AllHold plan_rows
unfolding plan_rows agrees
plan_rows_hold = omega arith

sheet_rows_hold : AllHold sheet_rows
unfolding sheet_rows agrees
sheet_rows_hold = omega arith

light_rows_hold : AllHold light_rows
unfolding light_rows agrees
light_rows_hold = omega arith

round_rows_hold : AllHold round_rows
unfolding round_rows agrees
round_rows_hold = omega arith

practice_rows_hold : AllHold practice_rows
unfolding practice_rows agrees
practice_rows_hold = omega arith

wrong_differ : NoneHold wrong
unfolding wrong agrees
wrong_differ = omega arith
