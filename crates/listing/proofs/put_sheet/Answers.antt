use Rattle.buffers.specs.Writers.{wrote_none, row_fits, wrote_row}
use Rattle.listing.proofs.SheetRows.{row_line}
use Rattle.listing.proofs.put_sheet.Goals as goal

pub loop-t-init : goal.loop-t-init
loop-t-init c = search wrote_none

pub put_slot-requires-clause-room : goal.put_slot-requires-clause-room
put_slot-requires-clause-room c = rw row_line (row_fits c.requires.room c.loop-t.invariant c.loop-t-test.true)

pub loop-t-preserved : goal.loop-t-preserved
loop-t-preserved c = wrote_row c.loop-t.invariant c.loop-t-test.true (rw row_line at c.put_slot.ensures)
