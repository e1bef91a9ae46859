use Rattle.model.specs.Planners.{work_bytes}
use Rattle.card.proofs.Sizes.{exact_size}
use Rattle.planners.proofs.ExactPlannerKind.work_bytes.Goals as goal

pub returns : goal.returns
unfolding work_bytes
returns c = exact_size c.args.card.now
