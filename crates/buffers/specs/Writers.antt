-- A writer: a lent area and the place up to which it is written.
use Rattle.std.specs.Prelude.{ℕ, ◌+◌, ◌≤◌, ◌<◌, ◌≡◌, refl, List, ◌++◌, length}
use Rattle.basics.specs.Core.{◌∙◌}
use Rattle.basics.specs.Bytes.{bytes_of}
use Rattle.basics.specs.Lists.{rows, written_over}
use Rattle.basics.specs.Writing.{Room, Written, RowsWritten, written_more, written_start, rows_none, rows_room, rows_more, rows_all}
use Rattle.buffers.specs.declared.Writer.{Writer}

-- The text fits behind what is written.
abbrev pub Fits : (text : List ℕ) → Writer → Type 0
Fits text w = Room text w.at w.out.now

-- The w lowest of a number's four bytes fit behind what is written.
pub record NumberFits (w n : ℕ) (writer : Writer) : Type 0 where
  pub width : w ≤ 4
  pub room : Fits (bytes_of w n) writer

-- The text is written behind it, and the writer still holds the same area.
pub record Wrote (text : List ℕ) (old new : Writer) : Type 0 where
  pub same_area : new.out.ghost_name ≡ old.out.ghost_name
  pub written : Written text old.at old.out.now new.out.now new.at

-- Writing one text and then another writes the two joined.
pub wrote_more : {a b : List ℕ} {old mid new : Writer} → Wrote a old mid → Wrote b mid new → Wrote (a ++ b) old new
wrote_more v w = record { same_area = w.same_area ∙ v.same_area; written = written_more v.written w.written }

-- What a writer wrote from the front on stands over the front of its area, and its place is the text's length.
pub wrote_front :
    {text : List ℕ} {old new : Writer} → old.at ≡ 0 → Wrote text old new →
    (new.at ≡ length text) × (new.out.now ≡ written_over text old.out.now)
wrote_front front w = written_start (rw front at w.written)

-- A loop that writes f 0, f 1, .. behind what is written: k of n are written.
pub record RowsWrote (f : ℕ → List ℕ) (n : ℕ) (old : Writer) (k : ℕ) (new : Writer) : Type 0 where
  pub same_area : new.out.ghost_name ≡ old.out.ghost_name
  pub rows_so_far : RowsWritten f n old.at old.out.now k new.out.now new.at

-- Before the first turn nothing is written.
pub wrote_none : (f : ℕ → List ℕ) (n : ℕ) {w : Writer} → Fits (rows n f) w → RowsWrote f n w 0 w
wrote_none f n r = record { same_area = refl; rows_so_far = rows_none f n r }

-- Where all rows fit, the next one does.
pub row_fits : {f : ℕ → List ℕ} {n k : ℕ} {old new : Writer} → Fits (rows n f) old → RowsWrote f n old k new → k < n → Fits (f k) new
row_fits room r h = rows_room room r.rows_so_far h

-- Each turn writes the next row.
pub wrote_row :
    {f : ℕ → List ℕ} {n k : ℕ} {old new newer : Writer} → RowsWrote f n old k new → k < n → Wrote (f k) new newer → RowsWrote f n old (k + 1) newer
wrote_row r h w = record { same_area = w.same_area ∙ r.same_area; rows_so_far = rows_more r.rows_so_far h w.written }

-- After the last turn all rows are written.
pub wrote_rows : {f : ℕ → List ℕ} {n k : ℕ} {old new : Writer} → RowsWrote f n old k new → n ≤ k → Wrote (rows n f) old new
wrote_rows r h = record { same_area = r.same_area; written = rows_all r.rows_so_far h }
