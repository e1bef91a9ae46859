use Rattle.basics.specs.Core.{arith}
use Rattle.basics.specs.Summing.{summed_none, summed_more, summed_all, summed_room}
use Rattle.sheets.specs.Marks.{bytes_cost, byte_at}
use Rattle.sheets.proofs.SheetBytes.{bytes_each}
use Rattle.sheets.proofs.rows_cost.Goals as goal

pub loop-x-init : goal.loop-x-init
loop-x-init c = summed_none _ _

pub overflow_add-cost : goal.overflow_add-cost
overflow_add-cost c =
    let each = bytes_each c.requires.bytes_ready (byte_at c.args.earlier.now) in
    let room = summed_room c.loop-x.invariant c.loop-x-test.true c.byte_cost-cost.ensures each in
    record { fits = omega (arith, room) }

pub loop-x-preserved : goal.loop-x-preserved
loop-x-preserved c = search summed_more

pub returns : goal.returns
unfolding bytes_cost
returns c = search summed_all
