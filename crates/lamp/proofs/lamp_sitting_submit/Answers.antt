use Rattle.basics.specs.Core.{◌∙◌}
use Rattle.sitting.specs.Acted.{submission_acts}
use Rattle.lamp.proofs.lamp_sitting_submit.Goals as goal

pub returns : goal.returns
returns c =
    let outcome = rw c.find-found.ensures at c.submitting-outcome.ensures in
    let acted = submission_acts c.args.sitting c.args.seats.now c.args.caller c.args.card.now c.args.sheet.now _ in
    record { outcome = rw outcome acted.reply_is; seats = c.put.ensures ∙ rw outcome acted.list_is }
