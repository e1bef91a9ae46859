use Rattle.buffers.specs.Writers.{RowsWrote}
use Rattle.model.specs.Catalogue.{catalogue_size}
use Rattle.model.specs.Listing.{entry_line}
use Rattle.catalogue_program.proofs.put_lines.Given as goal

abbrev pub invariant-loop-k : goal.invariant-loop-k
invariant-loop-k l = RowsWrote entry_line catalogue_size l.initial.writer l.k l.writer
