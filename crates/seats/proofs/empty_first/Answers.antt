use Rattle.seats.specs.Found.{emptied}
use Rattle.seats.specs.FoundLaws.{empty_least}
use Rattle.seats.proofs.empty_first.Goals as goal

pub returns : goal.returns
unfolding emptied
returns c = rw (c.fill.ensures.after (λ s e. e), c.min-limit.ensures) (empty_least c.args.count c.args.seats.now)
