use Rattle.basics.specs.Core.{eq-eqb, ne_eqb}
use Rattle.sitting.proofs.Phases.{when_unopened, unless_unopened}
use Rattle.sitting.proofs.Request.may_read_lowest.Goals as goal

pub returns-in-Unopened : goal.returns-in-Unopened
returns-in-Unopened c = search (when_unopened _ _ c.phase.ensures c.in-Unopened.is)

pub returns-then-self-eq0 : goal.returns-then-self-eq0
returns-then-self-eq0 c = search (eq-eqb, unless_unopened _ _ c.phase.ensures c.in_default.not-Unopened)

pub returns-else-self-eq0 : goal.returns-else-self-eq0
returns-else-self-eq0 c = search (ne_eqb, unless_unopened _ _ c.phase.ensures c.in_default.not-Unopened)
