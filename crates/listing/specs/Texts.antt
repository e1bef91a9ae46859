-- The parts of the program's text that the model does not name, and what the public functions ask for.
use Rattle.std.specs.Prelude.{ℕ, ◌+◌, ◌*◌, ◌≤◌, ◌≡◌, List, ◌++◌, length, get_or, take, drop}
use Rattle.basics.specs.Lists.{rows}
use Rattle.basics.specs.Text.{text}
use Rattle.model.specs.Sheets.{off}
use Rattle.model.specs.Listing.{decimal, newline, step_text, slot_line}

-- A line of a word and a number.
abbrev pub numbered_line : (word : List ℕ) → ℕ → List ℕ
numbered_line word n = word ++ (decimal n ++ newline)

-- A blank and a count.
abbrev pub count_text : ℕ → List ℕ
count_text count = text " " ++ decimal count

-- The counts of a plan, a blank before each.
abbrev pub count_texts : (plan : List ℕ) → List ℕ
count_texts plan = rows (length plan) (λ t. count_text (get_or plan t 0))

-- A blank and a module's step, or `-` for off.
abbrev pub module_text : ℕ → List ℕ
module_text step = text " " ++ step_text step

-- The steps of a slot's modules, of its row of the sheet, a blank before each.
abbrev pub module_texts : (row : List ℕ) → List ℕ
module_texts row = rows (length row) (λ k. module_text (get_or row k off))

-- The line of slot t (from 0) up to its colon.
abbrev pub slot_number : (t : ℕ) → List ℕ
slot_number t = text "slot " ++ decimal (t + 1)

-- The line of slot t (from 0), of a sheet in rows of m bytes.
abbrev pub sheet_line : (m : ℕ) (sheet : List ℕ) (t : ℕ) → List ℕ
sheet_line m sheet t = slot_line t (take m (drop (t * m) sheet))

-- The lines of the first n slots, of a sheet in rows of m bytes.
abbrev pub sheet_lines : (m n : ℕ) (sheet : List ℕ) → List ℕ
sheet_lines m n sheet = rows n (sheet_line m sheet)

-- A sheet of a row of m bytes for each of n slots, where n is within the document's bound.
pub record InRows (m n : ℕ) (sheet : List ℕ) : Type 0 where
  pub entries : length sheet ≡ m * n
  pub slots : n ≤ 1024

-- The sheet belongs to the plan, and the area is long enough for their listing: 278,568 bytes serve for 1,024 slots and 65,536 entries.
pub record Printable (m : ℕ) (plan sheet out : List ℕ) : Type 0 where
  pub rack : InRows m (length plan) sheet
  pub area : 40 + 16 * length plan + 4 * length sheet ≤ length out

-- The area is long enough for the line of a refusal.
pub record LineRoom (out : List ℕ) : Type 0 where
  pub area : 64 ≤ length out
