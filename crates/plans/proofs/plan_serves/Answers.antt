use Rattle.basics.specs.Tests.{passed_none, passed_more, passed_all, passed_not}
use Rattle.model.specs.Plans.{plan_serves}
use Rattle.plans.proofs.Loads.{in_slots, no_more_slots, slot_in_show, serve_failed, serve_passed}
use Rattle.plans.proofs.plan_serves.Goals as goal

pub loop-t-init : goal.loop-t-init
loop-t-init c = passed_none _ _

pub load-requires : goal.load-requires
load-requires c = search slot_in_show

pub returns-then-most-load : goal.returns-then-most-load
unfolding plan_serves
returns-then-most-load c = passed_not c.loop-t.invariant (search in_slots) (search serve_failed)

pub loop-t-preserved : goal.loop-t-preserved
loop-t-preserved c = passed_more c.loop-t.invariant (search in_slots) (search serve_passed)

pub returns : goal.returns
unfolding plan_serves
returns c = passed_all c.loop-t.invariant (search no_more_slots)
