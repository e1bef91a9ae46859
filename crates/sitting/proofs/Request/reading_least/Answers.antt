use Rattle.sitting.proofs.Replies.{least_reply}
use Rattle.sitting.proofs.Request.reading_least.Goals as goal

pub returns : goal.returns
returns c = search least_reply
