use Rattle.lamp.proofs.Promised.{gives_as}
use Rattle.lamp.proofs.lamp_rounded_count.Goals as goal

pub returns : goal.returns
returns c = search gives_as
