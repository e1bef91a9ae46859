use Rattle.std.specs.Prelude.{refl}
use Rattle.basics.specs.Core.{eq-eqb, ne_eqb}
use Rattle.model.specs.Acts.{act_spec}
use Rattle.model.specs.Specs.{first_of}
use Rattle.model.specs.Sittings.{answer_to}
use Rattle.sitting.specs.Seen.{seen}
use Rattle.sitting.proofs.Phases.{when_unopened, unless_unopened, open_unclosed, when_closed, open_begun, closed_begun}
use Rattle.sitting.proofs.Request.answer_least.Goals as goal

pub returns-in-Unopened : goal.returns-in-Unopened
unfolding answer_to act_spec first_of seen
returns-in-Unopened c = search (when_unopened _ _ c.phase.ensures c.in-Unopened.is)

pub returns-in_default : goal.returns-in_default
unfolding answer_to act_spec first_of seen
returns-in_default c = search (eq-eqb, unless_unopened _ _ c.phase.ensures c.in_default.not-Unopened)

pub returns-in-Open : goal.returns-in-Open
unfolding answer_to act_spec first_of seen
returns-in-Open c = search (ne_eqb, open_begun _ _ c.in-Open.ensures refl, open_unclosed _ _ c.in-Open.ensures refl)

pub returns-in-Closed : goal.returns-in-Closed
unfolding answer_to act_spec first_of seen
returns-in-Closed c =
    search (ne_eqb, closed_begun _ _ c.in-Closed.ensures refl, when_closed _ _ c.in-Closed.ensures refl, c.if-is_none.ensures)

pub returns-in-Closed-2 : goal.returns-in-Closed-2
unfolding answer_to act_spec first_of seen
returns-in-Closed-2 c =
    search (ne_eqb, closed_begun _ _ c.in-Closed.ensures refl, when_closed _ _ c.in-Closed.ensures refl, c.if-is_none.ensures)
