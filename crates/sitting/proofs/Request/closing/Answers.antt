use Rattle.sitting.proofs.Replies.{closing_refused, closing_done_lem}
use Rattle.sitting.proofs.Request.closing.Goals as goal

pub returns-in-Err : goal.returns-in-Err
returns-in-Err c = search closing_refused

pub returns-in-Ok : goal.returns-in-Ok
returns-in-Ok c = search closing_done_lem
