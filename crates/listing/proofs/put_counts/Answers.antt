use Rattle.buffers.specs.Writers.{wrote_none, row_fits, wrote_row}
use Rattle.listing.proofs.put_counts.Goals as goal

pub loop-count-init : goal.loop-count-init
loop-count-init c = search wrote_none

pub put_count-requires : goal.put_count-requires
put_count-requires c = row_fits c.requires c.loop-count.invariant c.loop-count-test.true

pub loop-count-preserved : goal.loop-count-preserved
loop-count-preserved c = search wrote_row
