use Rattle.basics.specs.Core.{◌∙◌, lt-ltb}
use Rattle.planners.proofs.Planning.{plan_lacks, work_decides}
use Rattle.planners.proofs.either_short.Goals as goal

pub returns-then-plan-card : goal.returns-then-plan-card
returns-then-plan-card c = lt-ltb _ _ c.if-plan-card.true ∙ plan_lacks c.args.card.now _ _ _ c.if-plan-card.true

pub returns-else-plan-card : goal.returns-else-plan-card
returns-else-plan-card c = work_decides c.args.card.now _ _ _ c.if-plan-card.false
