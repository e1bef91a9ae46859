use Rattle.basics.specs.Core.{arith}
use Rattle.basics.specs.Summing.{summed_none, summed_more, summed_all, summed_room}
use Rattle.sheets.specs.Marks.{bytes_cost, all_off}
use Rattle.sheets.proofs.SheetBytes.{bytes_each}
use Rattle.sheets.proofs.row_start_cost.Goals as goal

pub loop-b-init : goal.loop-b-init
loop-b-init c = summed_none _ _

pub overflow_add-cost : goal.overflow_add-cost
overflow_add-cost c =
    let each = bytes_each c.requires all_off in
    let room = summed_room c.loop-b.invariant c.loop-b-test.true c.byte_cost-cost.ensures each in
    record { fits = omega (arith, room) }

pub loop-b-preserved : goal.loop-b-preserved
loop-b-preserved c = search summed_more

pub returns : goal.returns
unfolding bytes_cost
returns c = search summed_all
