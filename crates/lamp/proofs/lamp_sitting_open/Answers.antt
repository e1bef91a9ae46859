use Rattle.basics.specs.Core.{◌∙◌, ap}
use Rattle.sitting.specs.declared.OpenOutcome.{OpenOutcome}
use Rattle.sitting.specs.Opened.{opening_reply, opening_seats, opening_plan, opening_work}
use Rattle.lamp.proofs.Promised.{opening_own_sheet, opening_least}
use Rattle.lamp.proofs.lamp_sitting_open.Goals as goal

pub returns : goal.returns
returns c =
    let a = c.args in
    let opened = c.opening-outcome.ensures in
    let told =
    ap (λ (o : OpenOutcome). o.reply) opened.value ∙
    opening_reply a.sitting a.seats.now a.caller a.allowance a.card.now a.plan.now a.work.now in
    let plan = opened.plan_after ∙ opening_plan a.sitting a.seats.now a.caller a.allowance a.card.now a.plan.now a.work.now in
    let seats = rw opened.value at c.empty_first.ensures in
    record {
      outcome = told;
      seats = seats ∙ opening_seats a.sitting a.seats.now a.caller a.allowance a.card.now a.plan.now a.work.now;
      plan_bytes = plan;
      work_bytes = opened.work_after ∙ opening_work a.sitting a.seats.now a.caller a.allowance a.card.now a.plan.now a.work.now;
      own_sheet = opening_own_sheet a.sitting a.seats.now a.caller a.allowance a.card.now a.plan.now a.work.now told plan;
      least = opening_least a.sitting a.seats.now a.caller a.allowance a.card.now a.plan.now a.work.now told;
    }
