use Rattle.lamp.proofs.Promised.{marks}
use Rattle.lamp.proofs.lamp_mark.Goals as goal

pub returns : goal.returns
returns c =
    let (outcome, accepts) = marks _ _ c.mark_sheet.ensures c.from.ensures in
    record { outcome = outcome; accepts = accepts }
