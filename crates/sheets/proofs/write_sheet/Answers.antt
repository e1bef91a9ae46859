use Rattle.plans.proofs.Loads.{in_slots, no_more_slots, slot_in_show}
use Rattle.sheets.proofs.RowPlaces.{row_there, row_fits}
use Rattle.sheets.proofs.Filled.{filled_none, filled_room, filled_more, filled_all}
use Rattle.sheets.proofs.write_sheet.Goals as goal

pub loop-t-init : goal.loop-t-init
loop-t-init c = filled_none _ _ _

pub write_slot-requires : goal.write_slot-requires
write_slot-requires c =
    let given = c.requires in
    let below = slot_in_show given.plan.sized c.loop-t-test.true in
    let inside = row_there c.args.card.now below (filled_room c.loop-t.invariant given.room) in
    search row_fits

pub loop-t-preserved : goal.loop-t-preserved
loop-t-preserved c =
    let below = in_slots c.requires.plan.sized c.loop-t-test.true in
    search filled_more

pub returns : goal.returns
returns c = filled_all c.loop-t.invariant c.requires.room (search no_more_slots)
