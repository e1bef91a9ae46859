use Rattle.basics.specs.Core.{◌∙◌}
use Rattle.card.proofs.Lowest.{raised}
use Rattle.card.proofs.Card.active_step.Goals as goal

pub returns : goal.returns
returns c = c.max.ensures ∙ raised c.args.self.now c.args.k
