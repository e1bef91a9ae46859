use Rattle.basics.specs.Core.{eq-eqb, ne_eqb}
use Rattle.model.specs.Acts.{act_spec}
use Rattle.model.specs.Specs.{first_of}
use Rattle.model.specs.Sittings.{answer_to}
use Rattle.sitting.proofs.Phases.{when_open, unless_open}
use Rattle.sitting.proofs.Request.answer_closing.Goals as goal

pub returns-then-self-ne0 : goal.returns-then-self-ne0
unfolding answer_to act_spec first_of
returns-then-self-ne0 c = search ne_eqb

pub returns-in-Open : goal.returns-in-Open
unfolding answer_to act_spec first_of
returns-in-Open c = search (eq-eqb, when_open _ _ c.phase.ensures c.in-Open.is)

pub returns-in_default : goal.returns-in_default
unfolding answer_to act_spec first_of
returns-in_default c = search (eq-eqb, unless_open _ _ c.phase.ensures c.in_default.not-Open)
