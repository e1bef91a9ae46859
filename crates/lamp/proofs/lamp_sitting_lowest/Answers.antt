use Rattle.basics.specs.Core.{◌∙◌}
use Rattle.sitting.specs.Acted.{lowest_shown}
use Rattle.lamp.proofs.lamp_sitting_lowest.Goals as goal

pub returns : goal.returns
returns c =
    let seen = rw c.find-found.ensures at c.reading_lowest.ensures in
    record { outcome = seen ∙ (lowest_shown c.args.sitting c.args.seats.now c.args.caller c.args.candidate _).0 }
