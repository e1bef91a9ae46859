use Rattle.basics.specs.Tests.{test_failed, test_passed}
use Rattle.card.proofs.Sizes.{sheet_size_fits}
use Rattle.calls.proofs.Making.{make_short, make_length, make_entries, make_load, plan_ready, make_cost}
use Rattle.basics.specs.Core.{◌∙◌, sym}
use Rattle.calls.proofs.check_plan.Goals as goal

pub overflow_mul-size : goal.overflow_mul-size
overflow_mul-size c = search sheet_size_fits

pub returns-then-sheet-size : goal.returns-then-sheet-size
returns-then-sheet-size c = search make_short

pub returns-then-plan-slots : goal.returns-then-plan-slots
returns-then-plan-slots c = search make_length

pub returns-then-not-plan_in_rack : goal.returns-then-not-plan_in_rack
returns-then-not-plan_in_rack c = search (make_entries, test_failed)

pub returns-then-not-plan_serves : goal.returns-then-not-plan_serves
returns-then-not-plan_serves c = search (make_load, test_failed, test_passed)

pub plan_cost-requires : goal.plan_cost-requires
plan_cost-requires c =
    let entries = (sym c.plan_in_rack.ensures ∙ c.if-not-plan_in_rack.false) in
    plan_ready _ _ c.args.sheet.now c.if-plan-slots.false entries
    (sym c.plan_serves.ensures ∙ c.if-not-plan_serves.false)

pub returns : goal.returns
returns c = search (make_cost, test_passed)
