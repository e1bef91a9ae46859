use Rattle.std.specs.Prelude.{refl}
use Rattle.basics.specs.Core.{ne_eqb}
use Rattle.model.specs.SittingState.{phase_of}
use Rattle.sitting.specs.Phases.{phase_meant}
use Rattle.sitting.proofs.Request.phase.Goals as goal

pub returns-in-1 : goal.returns-in-1
unfolding phase_meant phase_of
returns-in-1 c = rw c.in-1.is refl

pub returns-in-2 : goal.returns-in-2
unfolding phase_meant phase_of
returns-in-2 c = rw c.in-2.is refl

pub returns-in_default : goal.returns-in_default
unfolding phase_meant phase_of
returns-in_default c = search ne_eqb
