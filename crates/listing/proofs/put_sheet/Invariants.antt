use Rattle.buffers.specs.Writers.{RowsWrote}
use Rattle.listing.specs.Texts.{sheet_line}
use Rattle.listing.proofs.put_sheet.Given as goal

abbrev pub invariant-loop-t : goal.invariant-loop-t
invariant-loop-t l = RowsWrote (sheet_line l.m l.sheet) l.slots l.initial.writer l.t l.writer
