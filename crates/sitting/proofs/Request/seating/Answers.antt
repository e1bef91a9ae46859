use Rattle.sitting.proofs.Replies.{seating_refused, seating_done_lem}
use Rattle.sitting.proofs.Request.seating.Goals as goal

pub returns-in-Err : goal.returns-in-Err
returns-in-Err c = seating_refused _ _ _ _ _ c.in-Err.ensures c.unchanged.ensures

pub returns-in-Ok : goal.returns-in-Ok
returns-in-Ok c = seating_done_lem _ _ _ _ _ c.in-Ok.ensures c.reply_giving.ensures
