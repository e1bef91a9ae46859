-- The texts of the programs, as bytes of ASCII: the planner's (document 01, 'Program and listing') and the generator's (02 §5).
use Rattle.std.specs.Prelude.{ℕ, zero, suc, ◌+◌, ◌*◌, ◌/◌, ◌%◌, cond, List, [], ◌∷◌, ◌++◌, length, get_or, take, drop, replicate, ltb}
use Prim.Native.Char.{code}
use Rattle.basics.specs.Lists.{rows}
use Rattle.basics.specs.Text.{text}
use Rattle.model.specs.Answers.{Answer}
use Rattle.std.specs.Prelude.{Ok, Err}
use Rattle.model.specs.Answers.{refusal_number}
use Rattle.model.specs.Instance.{instance_of}
use Rattle.model.specs.Sheets.{off, is_off}
use Rattle.model.specs.Plans.{sheet_of}
use Rattle.model.specs.Planners.{exact, planned_by}
use Rattle.model.specs.Catalogue.{catalogue_entry, catalogue_size}
use Rattle.model.specs.Calls.{plan_show, answer}

-- The character of a digit.
abbrev pub digit : ℕ → ℕ
digit n = code "0" + n

-- A number in decimal, with no more than so many digits.
unfoldable pub digits : (most : ℕ) → ℕ → List ℕ
digits zero n = []
digits (suc most) n = cond (ltb n 10) (digit n ∷ []) (digits most (n / 10) ++ (digit (n % 10) ∷ []))

-- A number in decimal: 20 digits hold every 64-bit number.
unfoldable pub decimal : ℕ → List ℕ
decimal n = digits 20 n

-- The end of a line.
abbrev pub newline : List ℕ
newline = text "\n"

-- 'cost 32'
unfoldable pub cost_line : ℕ → List ℕ
cost_line cost = text "cost " ++ (decimal cost ++ newline)

-- 'plan 3 1 1': a blank before each count.
unfoldable pub plan_line : List ℕ → List ℕ
plan_line p = text "plan" ++ (rows (length p) (λ t. text " " ++ decimal (get_or p t 0)) ++ newline)

-- 'a slot line gives each module's step, `-` for off'
unfoldable pub step_text : ℕ → List ℕ
step_text b = cond (is_off b) (text "-") (decimal b)

-- 'slot 2: 0 - -', of the row of slot t (from 0).
unfoldable pub slot_line : ℕ → List ℕ → List ℕ
slot_line t row =
    text "slot " ++
    (decimal (t + 1) ++ (text ":" ++ (rows (length row) (λ k. text " " ++ step_text (get_or row k off)) ++ newline)))

-- The whole listing of a plan and its sheet, which has a row of m bytes for each slot.
unfoldable pub listing : ℕ → ℕ → List ℕ → List ℕ → List ℕ
listing m cost p s = cost_line cost ++ (plan_line p ++ rows (length p) (λ t. slot_line t (take m (drop (t * m) s))))

-- 'A refusal prints `refused` and the number, nothing else.'
unfoldable pub refused_line : ℕ → List ℕ
refused_line n = text "refused " ++ (decimal n ++ newline)

-- The listing of a card's exact plan and its sheet.
abbrev pub exact_listing : (card : List ℕ) → (cost : ℕ) → List ℕ
exact_listing card cost =
    let plan = planned_by exact (instance_of card) in
    listing (instance_of card).modules cost plan (sheet_of (instance_of card) plan)

-- The text for an answer of the exact planner.
unfoldable pub printed_for : (card : List ℕ) → Answer → List ℕ
printed_for card (Ok cost) = exact_listing card cost
printed_for card (Err x) = refused_line (refusal_number x)

-- What the program prints for a card: it 'lends areas of 1,024 (plan), 65,536 (work) and 65,536 (sheet) bytes, and prints the exact
-- plan'. The sheet call is refused only where the planner is, since its area is never the shorter one.
unfoldable pub printed : (card : List ℕ) → List ℕ
printed card = printed_for card (answer (plan_show exact card (replicate 1024 0) (replicate 65536 0)))

-- The line of F(k) of the catalogue module.
abbrev pub entry_line : ℕ → List ℕ
entry_line k = decimal (catalogue_entry k) ++ newline

-- What the generator prints: 'A small generator prints the 201 numbers, one a line' (02 §5).
unfoldable pub catalogue_lines : List ℕ
catalogue_lines = rows catalogue_size entry_line
