-- Where the row of a slot lies in a sheet, and that it has room for the slot's count.
use Rattle.std.specs.Prelude.{ℕ, ◌+◌, ◌-◌, ◌*◌, ◌≤◌, ◌<◌, ◌≡◌, List, length, get_or}
use Rattle.basics.specs.Core.{arith}
use borrow.Rule.Slice.PartMut.{mid_of}
use Rattle.basics.specs.Parts.{part_length}
use Rattle.basics.specs.Rows.{row_within}
use Rattle.model.specs.Specs.{sheet_bytes}
use Rattle.laws.specs.Acceptance.{accepted_bounds}
use Rattle.card.specs.declared.Card.{Card}
use Rattle.card.specs.Shows.{show_of}
use Rattle.card.proofs.FieldsThere.{in_header}
use Rattle.plans.specs.PlanRequires.{PlanReady}
use Rattle.plans.proofs.Loads.{slot_served}
use Rattle.sheets.specs.SheetRequires.{RowFits, RowShort}

-- The row of slot t lies inside a sheet.
pub row_there : (card : Card) {t size : ℕ} → t < card.header.slots → sheet_bytes (show_of card) ≤ size → t * card.header.modules + card.header.modules ≤ size
row_there card below room = rw card.header_is.modules_is (row_within (show_of card).modules (in_header card below) room)

-- A row has at most 200 bytes.
pub row_short :
    (card : Card) (l : List ℕ) (a : ℕ) → a + card.header.modules ≤ length l → RowShort (mid_of a (a + card.header.modules - a) l)
row_short card l a inside =
    record { short = omega (arith, part_length a card.header.modules l inside, (accepted_bounds _ card.accepted).modules.1) }

-- A slot's row has room for its count.
pub row_fits :
    {card : Card} {p : List ℕ} {t n load : ℕ} (l : List ℕ) (a : ℕ) → PlanReady card p → t < length p →
    a + card.header.modules ≤ length l → n ≡ get_or p t 0 → load ≡ (show_of card).load t → RowFits card n load (mid_of a (a + card.header.modules - a) l)
row_fits {card} l a given below inside e f =
    let slot = slot_served given below e f in
    record { served = slot; in_row = omega (arith, slot.in_rack, part_length a card.header.modules l inside) }
