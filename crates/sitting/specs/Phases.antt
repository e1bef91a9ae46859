-- The phases of a sitting that the code tells apart.
use Rattle.model.specs.Acts.{Phase as SittingPhase, unopened, opened, closed}
use Rattle.sitting.specs.declared.Phase.{Phase}
use Rattle.sitting.specs.declared.Phase.TheVariants.{Unopened, Open, Closed}

-- The phase that one of the code's means.
unfoldable pub phase_meant : Phase → SittingPhase
phase_meant Unopened = unopened
phase_meant Open = opened
phase_meant Closed = closed
