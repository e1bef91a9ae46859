use Rattle.basics.specs.Core.{arith}
use Rattle.buffers.specs.Writers.{wrote_none, row_fits, wrote_row, wrote_rows}
use Rattle.model.specs.Listing.{catalogue_lines}
use Rattle.catalogue_program.proofs.put_lines.Goals as goal

pub loop-k-init : goal.loop-k-init
unfolding catalogue_lines
loop-k-init c = search wrote_none

pub put_entry-requires-clause-room : goal.put_entry-requires-clause-room
unfolding catalogue_lines
put_entry-requires-clause-room c = row_fits c.requires c.loop-k.invariant (omega arith)

pub loop-k-preserved : goal.loop-k-preserved
loop-k-preserved c = wrote_row c.loop-k.invariant (omega arith) c.put_entry.ensures

pub returns : goal.returns
unfolding catalogue_lines
returns c = wrote_rows c.loop-k.invariant (omega arith)
