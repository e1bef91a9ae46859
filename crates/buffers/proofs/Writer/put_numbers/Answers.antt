use Rattle.basics.specs.Core.{arith}
use Rattle.buffers.specs.Writers.{wrote_none, row_fits, wrote_row}
use Rattle.buffers.proofs.Writer.put_numbers.Goals as goal

pub loop-number-init : goal.loop-number-init
loop-number-init c = search wrote_none

pub put_number-requires : goal.put_number-requires
put_number-requires c =
    record { width = omega arith; room = rw c.from.ensures (row_fits c.requires c.loop-number.invariant c.loop-number-test.true) }

pub loop-number-preserved : goal.loop-number-preserved
loop-number-preserved c = wrote_row c.loop-number.invariant c.loop-number-test.true (rw c.from.ensures at c.put_number.ensures)
