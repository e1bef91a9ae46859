use Rattle.basics.specs.Core.{◌∙◌}
use Rattle.sitting.specs.Acted.{least_shown}
use Rattle.lamp.proofs.Promised.{hidden_till_closed}
use Rattle.lamp.proofs.lamp_sitting_least.Goals as goal

pub returns : goal.returns
returns c =
    let seen = rw c.find-found.ensures at c.reading_least.ensures in
    let told = seen ∙ (least_shown c.args.sitting c.args.seats.now c.args.caller _).0 in
    record { outcome = told; hidden = hidden_till_closed c.args.sitting c.args.seats.now c.args.caller told }
