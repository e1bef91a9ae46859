-- Examples of document 02, §5: the catalogue module's table, the call that writes it, and the lines of its generator. Beside them answers of wrong
-- programs, which differ, and bytes that the call does not write, of which `WritesTable` is false.
use Rattle.std.specs.Prelude.{ℕ, ◌≡◌, refl, Bool, cond, List, [], ◌∷◌, ◌++◌, length, take, drop, set}
use Rattle.basics.specs.Core.{arith}
use Rattle.basics.specs.Lists.{tabulate}
use Rattle.basics.specs.Text.{text}
use Rattle.basics.specs.Bytes.{little_endian}
use Rattle.model.specs.Answers.{number_of, cost_of}
use Rattle.model.specs.Instance.{instance_of, never_falls, table_of}
use Rattle.model.specs.Catalogue.{catalogue_entry, catalogue_size, entry_of, follows_rule}
use Rattle.model.specs.Listing.{catalogue_lines}
use Rattle.model.specs.Calls.{check_card, catalogue_table, answer, table_at_exit}
use Rattle.model.specs.Promises.{WritesTable}
use Rattle.model.specs.Examples.{card_a, sevens, over, Example, row, one, agrees, numbers, AllHold, NoneHold}

-- F(0) to F(2) of the catalogue module as a card's fields: 400, 403 and 407.
abbrev catalogue_to2 : List ℕ
catalogue_to2 = 0x90 ∷ 0x01 ∷ 0x00 ∷ 0x00 ∷ 0x93 ∷ 0x01 ∷ 0x00 ∷ 0x00 ∷ 0x97 ∷ 0x01 ∷ 0x00 ∷ 0x00 ∷ []

-- The area of the catalogue call for top 200, and 3 bytes more, at exit.
abbrev catalogue_whole : List ℕ
catalogue_whole = table_at_exit (catalogue_table 200 (sevens 807))

-- A test's result as a number.
abbrev as_number : Bool → ℕ
as_number b = cond b 1 0

-- The rule's 201 numbers as a list.
abbrev catalogue_list : List ℕ
catalogue_list = tabulate catalogue_size catalogue_entry

-- The catalogue module's table: entries of the rule, the call for the lowest and the highest top, for tops beside them and far above, areas
-- just long enough, one byte longer and one byte too short, 3 before 10, the bytes of a card's table and a card with these bytes there, the tests
-- of the rule and of the rise, and what the generator prints.
catalogue_rows : List Example
catalogue_rows =
    one "F(0) to F(5), F(50), F(100), F(150), F(199), F(200)"
    (tabulate 6 catalogue_entry ++
    (catalogue_entry 50 ∷ catalogue_entry 100 ∷ catalogue_entry 150 ∷ catalogue_entry 199 ∷ catalogue_entry 200 ∷ []))
    (400 ∷ 403 ∷ 407 ∷ 412 ∷ 418 ∷ 425 ∷ 1775 ∷ 5650 ∷ 12025 ∷ 20698 ∷ 20900 ∷ []) ∷
    row "top 1" (catalogue_table 1 (sevens 8)) 0 0 (take 8 catalogue_to2 ∷ []) ∷
    row "top 2" (catalogue_table 2 (sevens 12)) 0 0 (catalogue_to2 ∷ []) ∷
    row "top 2, one byte longer" (catalogue_table 2 (sevens 13)) 0 0 (over 13 catalogue_to2 ∷ []) ∷
    row "top 2, one byte too short" (catalogue_table 2 (sevens 11)) 10 0 (sevens 11 ∷ []) ∷
    row "top 0" (catalogue_table 0 (sevens 4)) 3 0 (sevens 4 ∷ []) ∷
    row "top 201" (catalogue_table 201 (sevens 808)) 3 0 (sevens 808 ∷ []) ∷
    row "top 201 before no area" (catalogue_table 201 []) 3 0 ([] ∷ []) ∷
    row "top 257, whose lowest byte is 1" (catalogue_table 257 (sevens 8)) 3 0 (sevens 8 ∷ []) ∷
    row "the largest top of 64 bits" (catalogue_table 18446744073709551615 (sevens 804)) 3 0 (sevens 804 ∷ []) ∷
    one "top 100, just long enough: its last entry" (drop 400 (table_at_exit (catalogue_table 100 (sevens 404)))) (0x12 ∷ 0x16 ∷ 0x00 ∷ 0x00 ∷ []) ∷
    row "top 200, one byte too short" (catalogue_table 200 (sevens 803)) 10 0 (sevens 803 ∷ []) ∷
    one "top 200: number and cost" (number_of (answer (catalogue_table 200 (sevens 804))) ∷ cost_of (answer (catalogue_table 200 (sevens 804))) ∷ [])
    (0 ∷ 0 ∷ []) ∷
    one "top 200: its first entries, its last one and the bytes behind it" (take 12 catalogue_whole ++ drop 800 catalogue_whole)
    (catalogue_to2 ++ (0xA4 ∷ 0x51 ∷ 0x00 ∷ 0x00 ∷ 7 ∷ 7 ∷ 7 ∷ [])) ∷
    row "a card with these bytes as its table" (check_card (take 17 card_a ++ (catalogue_to2 ++ drop 29 card_a))) 0 0 [] ∷
    one "the bytes of card A's table" (table_of card_a) (1 ∷ 0 ∷ 0 ∷ 0 ∷ 2 ∷ 0 ∷ 0 ∷ 0 ∷ 4 ∷ 0 ∷ 0 ∷ 0 ∷ []) ∷
    one "the test of the rule: its numbers, and the first, one between and the last of them changed"
    (as_number (follows_rule catalogue_list) ∷ as_number (follows_rule (set catalogue_list 0 401)) ∷ as_number (follows_rule (set catalogue_list 100 5651)) ∷
    as_number (follows_rule (set catalogue_list 200 20901)) ∷ [])
    (1 ∷ 0 ∷ 0 ∷ 0 ∷ []) ∷
    one "never falls: level, and falling behind the top; falling at the first step, and at the last"
    (as_number (never_falls 2 (entry_of (4 ∷ 4 ∷ 5 ∷ 3 ∷ []))) ∷ as_number (never_falls 2 (entry_of (5 ∷ 4 ∷ 5 ∷ []))) ∷
    as_number (never_falls 2 (entry_of (4 ∷ 6 ∷ 5 ∷ []))) ∷ [])
    (1 ∷ 0 ∷ 0 ∷ []) ∷
    one "lines in the middle" (take 15 (drop 217 catalogue_lines)) (text "1775\n1828\n1882\n") ∷
    one "the first lines of the generator" (take 12 catalogue_lines) (text "400\n403\n407\n") ∷
    one "its last lines, and how many characters" (drop 1024 catalogue_lines ++ (length catalogue_lines ∷ []))
    (text "20698\n20900\n" ++ (1036 ∷ [])) ∷
    []

catalogue_rows_hold : AllHold catalogue_rows
unfolding catalogue_rows agrees
catalogue_rows_hold = omega arith

-- Wrong programs and wrong readings of the paragraph: `expected` is what the program would answer.
catalogue_wrong : List Example
catalogue_wrong =
    one "k(k + 1)/2 in the rule" (catalogue_entry 2 ∷ []) (409 ∷ []) ∷
    one "the entries big end first" (table_at_exit (catalogue_table 1 (sevens 8))) (0 ∷ 0 ∷ 1 ∷ 0x90 ∷ 0 ∷ 0 ∷ 1 ∷ 0x93 ∷ []) ∷
    one "F(top) not written" (table_at_exit (catalogue_table 2 (sevens 12))) (over 12 (take 8 catalogue_to2)) ∷
    one "10 before 3" (numbers (catalogue_table 201 [])) (10 ∷ []) ∷
    one "3 for top 200" (numbers (catalogue_table 200 (sevens 804))) (3 ∷ []) ∷
    []

catalogue_wrong_differ : NoneHold catalogue_wrong
unfolding catalogue_wrong agrees
catalogue_wrong_differ = omega arith

-- A head with top step 1, and bytes that are F(0) and one point more than F(1). They are not what the call writes for top 1, neither in a card
-- that has them as its table nor behind that head.
abbrev head_to1 : List ℕ
head_to1 = set (take 17 card_a) 6 1

abbrev other_table : List ℕ
other_table = 0x90 ∷ 0x01 ∷ 0x00 ∷ 0x00 ∷ 0x94 ∷ 0x01 ∷ 0x00 ∷ 0x00 ∷ []

other_in_card : WritesTable 1 other_table 0 → ⊥
unfolding instance_of little_endian catalogue_entry
other_in_card w =
    let wrong : ◌≡◌ {A = ℕ} 404 403 = (w.in_card refl (head_to1 ++ other_table) refl refl).entries 1 (omega arith) in
    omega arith

other_behind_head : (loads : List ℕ) → WritesTable 1 other_table 0 → ⊥
unfolding instance_of little_endian catalogue_entry
other_behind_head loads w =
    let wrong : ◌≡◌ {A = ℕ} 404 403 = (w.behind_head refl head_to1 loads refl refl).entries 1 (omega arith) in
    omega arith
