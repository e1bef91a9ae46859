use Rattle.sitting.proofs.Lowest.{first_marked, lower_marked}
use Rattle.sitting.proofs.submit.lowered.Goals as goal

pub returns-in-0 : goal.returns-in-0
returns-in-0 c = search first_marked

pub returns-in_default : goal.returns-in_default
returns-in_default c = search lower_marked
