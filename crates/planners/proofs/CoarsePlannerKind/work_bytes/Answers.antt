use Rattle.model.specs.Planners.{work_bytes}
use Rattle.card.proofs.Sizes.{coarse_size}
use Rattle.planners.proofs.CoarsePlannerKind.work_bytes.Goals as goal

pub returns : goal.returns
unfolding work_bytes
returns c = coarse_size c.args.card.now
