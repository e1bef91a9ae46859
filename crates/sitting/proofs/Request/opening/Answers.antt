use Rattle.sitting.proofs.Openings.{opening_refused, opening_done_lem}
use Rattle.sitting.proofs.Request.opening.Goals as goal

pub returns-in-Err : goal.returns-in-Err
returns-in-Err c =
    let (value, (plan_after, work_after)) = opening_refused _ _ _ _ _ _ (
      c.answer_opening.ensures.value,
      (c.answer_opening.ensures.plan_after, c.answer_opening.ensures.work_after),
    ) c.in-Err.is c.reply_giving.ensures in
    record { value = value; plan_after = plan_after; work_after = work_after }

pub returns-in-Ok : goal.returns-in-Ok
returns-in-Ok c =
    let (value, (plan_after, work_after)) = opening_done_lem _ _ _ _ _ _ (
      c.answer_opening.ensures.value,
      (c.answer_opening.ensures.plan_after, c.answer_opening.ensures.work_after),
    ) c.in-Ok.is c.reply_giving-in-Ok.ensures in
    record { value = value; plan_after = plan_after; work_after = work_after }
