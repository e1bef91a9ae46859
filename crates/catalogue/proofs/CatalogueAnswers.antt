-- What the first entries of the constant are: the bytes that the catalogue call writes, and the table of every card that has them; and what the
-- call answers and leaves in its area.
use Rattle.std.specs.Prelude.{ℕ, ◌+◌, ◌≤◌, ◌≡◌, refl, true, false, cond, not, ltb, ◌||◌, List, length, take, Ok, Err}
use Rattle.basics.specs.Core.{ap, ◌∙◌, sym, arith, take_at, length-take-le}
use Rattle.basics.specs.Lists.{written_over}
use Rattle.basics.specs.Rows.{element_bytes, length_numbers, taken_bytes}
use Rattle.basics.specs.Writing.{Room}
use Rattle.model.specs.Instance.{table_size, rack_number}
use Rattle.model.specs.Catalogue.{catalogue_top, catalogue_entry, entry_of, TestedTable, catalogue_bytes}
use Rattle.model.specs.declared.Refusal.{Refusal}
use Rattle.model.specs.declared.Refusal.TheVariants.{RackSize, BufferTooShort}
use Rattle.model.specs.Specs.{first_of, any_short, at_exit}
use Rattle.model.specs.Calls.{catalogue_table, spec_of, answer, buffers_at_exit, table_at_exit}
use Rattle.model.specs.Promises.{WritesTable}
use Rattle.laws.specs.Acceptance.{rack_range}
use Rattle.laws.specs.CardTables.{head_top, table_behind}
use Rattle.laws.specs.CatalogueTables.{entry_is, catalogue_card}
use Rattle.catalogue.specs.Entries.{EntriesRoom}

-- Room for so many entries of four bytes each is room for their bytes.
pub entries_room : {n : ℕ} {table out : List ℕ} → EntriesRoom n table out → Room (element_bytes 4 (take n table)) 0 out
entries_room {n} {table} r =
    let size = length_numbers 4 (length (take n table)) (entry_of (take n table)) in
    record { room = omega (arith, size, length-take-le n table r.within, r.room) }

module _ (top : ℕ) {whole : List ℕ} (ranged : rack_number top ≡ true) (tested : TestedTable whole) where
  most : top ≤ catalogue_top
  most = (rack_range top ranged).1

  -- The first entries of the constant are the table's bytes.
  pub bytes_are : element_bytes 4 (take (top + 1) whole) ≡ catalogue_bytes top
  unfolding catalogue_bytes
  bytes_are =
      taken_bytes 4 (top + 1) catalogue_entry whole (omega (arith, tested.size, most))
      (λ k h. entry_is tested k (omega (arith, most)))

  -- Every card that has them as its table has the catalogue module's table.
  pub writes_table : (old new : List ℕ) → new ≡ written_over (element_bytes 4 (take (top + 1) whole)) old → WritesTable top new 0
  unfolding catalogue_bytes
  writes_table old new written =
      let size : length (catalogue_bytes top) ≡ table_size top = omega (arith, length_numbers 4 (top + 1) catalogue_entry) in
      let front : take (table_size top) new ≡ catalogue_bytes top = rw (written, bytes_are) (take_at (catalogue_bytes top) _ (table_size top) size) in
      record {
        in_card = λ n card e has. catalogue_card tested card (omega (arith, most)) (has ∙ front ∙ ap catalogue_bytes (sym e));
        behind_head =
            λ n head loads sized e.
            let same = head_top head (catalogue_bytes top) loads sized ∙ e in
            let behind = table_behind head (catalogue_bytes top) loads sized (rw e size) in
            rw front (catalogue_card tested _ (omega (arith, same, most)) (behind ∙ ap catalogue_bytes (sym same)));
      }

module _ (top : ℕ) (table : List ℕ) where
  -- A top step outside 1 to 200 is refused, and then an area that is too short.
  pub answer_is :
      answer (catalogue_table top table) ≡
      cond (not (rack_number top)) (Err RackSize) (cond (ltb (length table) (table_size top) || false) (Err BufferTooShort) (Ok 0))
  unfolding answer spec_of first_of any_short
  answer_is = refl

  -- A refusal leaves the area as it was.
  pub left : {x : Refusal} → answer (catalogue_table top table) ≡ Err x → table_at_exit (catalogue_table top table) ≡ table
  unfolding table_at_exit buffers_at_exit spec_of at_exit
  left e = rw e

  -- A success has the table's bytes written over its front.
  pub holds : answer (catalogue_table top table) ≡ Ok 0 → table_at_exit (catalogue_table top table) ≡ written_over (catalogue_bytes top) table
  unfolding table_at_exit buffers_at_exit spec_of at_exit
  holds e = rw e

pub ruleset answers = (bytes_are, writes_table, answer_is, left, holds)
