use Rattle.planners.proofs.short_for.Goals as goal

pub returns : goal.returns
returns g c = rw c.work_bytes.ensures at c.either_short.ensures
