use Rattle.buffers.specs.Writers.{wrote_more}
use Rattle.model.specs.Listing.{plan_line}
use Rattle.listing.proofs.put_plan.Goals as goal

pub returns : goal.returns
unfolding plan_line
returns c = search wrote_more
