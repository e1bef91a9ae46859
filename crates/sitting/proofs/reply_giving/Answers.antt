use Rattle.sitting.proofs.Replies.{giving_cost, giving_refusal}
use Rattle.sitting.proofs.reply_giving.Goals as goal

pub returns-in-Ok : goal.returns-in-Ok
returns-in-Ok c = search giving_cost

pub returns-in-Err : goal.returns-in-Err
returns-in-Err c = search giving_refusal
