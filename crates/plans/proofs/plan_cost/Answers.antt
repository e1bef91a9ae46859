use Rattle.std.specs.Prelude.{refl}
use Rattle.basics.specs.Core.{arith}
use Rattle.basics.specs.Summing.{summed_none, summed_more, summed_all, summed_room}
use Rattle.model.specs.Thesis.{count_at, counts_cost}
use Rattle.laws.specs.Acceptance.{accepted_bounds}
use Rattle.plans.proofs.Loads.{in_slots, no_more_slots, slot_in_show, slot_served, slot_at_most, slot_is, count_next}
use Rattle.plans.proofs.plan_cost.Goals as goal

pub loop-t-init : goal.loop-t-init
unfolding count_at
loop-t-init c = (summed_none _ _, refl)

pub load-requires : goal.load-requires
load-requires c = search slot_in_show

pub slot_cost-cost-requires : goal.slot_cost-cost-requires
slot_cost-cost-requires c = search slot_served

pub overflow_add-cost : goal.overflow_add-cost
overflow_add-cost c =
    let given = c.requires in
    let room = summed_room {y = c.slot_cost-cost.result} c.loop-t.invariant.0 (search in_slots) (search slot_is) (slot_at_most given) in
    record { fits = omega (arith, room, (accepted_bounds _ c.args.card.now.accepted).slots) }

pub loop-t-preserved : goal.loop-t-preserved
loop-t-preserved c =
    (summed_more c.loop-t.invariant.0 (search in_slots) (search slot_is), search count_next)

pub returns : goal.returns
unfolding counts_cost
returns c = summed_all c.loop-t.invariant.0 (search no_more_slots)
