use Rattle.sitting.proofs.Replies.{used_reply}
use Rattle.sitting.proofs.Request.reading_used.Goals as goal

pub returns : goal.returns
returns c = search used_reply
