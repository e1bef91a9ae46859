use Rattle.sitting.proofs.Submissions.{barred_outcome, counted_outcome, marked_outcome}
use Rattle.sitting.proofs.Request.submitting.Goals as goal

pub returns-in-Err : goal.returns-in-Err
returns-in-Err c = barred_outcome _ _ _ _ _ c.in-Err.ensures c.unchanged.ensures

pub returns-in-Err-mark_sheet_on : goal.returns-in-Err-mark_sheet_on
returns-in-Err-mark_sheet_on c =
    counted_outcome _ _ _ _ _ c.in-Ok.ensures c.in-Ok.given.0.accepted c.mark_sheet_on.ensures c.in-Err-mark_sheet_on.is
    c.unchanged-in-Err-mark_sheet_on.ensures

pub returns-in-Ok-mark_sheet_on : goal.returns-in-Ok-mark_sheet_on
returns-in-Ok-mark_sheet_on c =
    marked_outcome _ _ _ _ _ c.in-Ok.ensures c.in-Ok.given.0.accepted c.mark_sheet_on.ensures c.in-Ok-mark_sheet_on.is c.lowered-seat.ensures c.reply_giving.ensures
