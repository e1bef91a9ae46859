use Rattle.basics.specs.Core.{◌∙◌}
use Rattle.sitting.specs.Acted.{seating_acts}
use Rattle.lamp.proofs.lamp_sitting_seat.Goals as goal

pub returns : goal.returns
returns c =
    let acted = seating_acts c.args.sitting c.args.seats.now c.args.caller c.args.candidate in
    let outcome = rw (c.find-found.ensures, c.find-empty.ensures) at c.seating-outcome.ensures in
    record { outcome = rw outcome acted.reply_is; seats = c.put.ensures ∙ rw outcome acted.list_is }
