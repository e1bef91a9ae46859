use Rattle.lamp.proofs.Promised.{makes}
use Rattle.lamp.proofs.lamp_sheet.Goals as goal

pub returns : goal.returns
returns c =
    let (outcome, (sheet_bytes, marked_alike)) = makes _ _ _ (c.make_sheet.ensures.value, c.make_sheet.ensures.sheet_after) c.from.ensures
    in
    record { outcome = outcome; sheet_bytes = sheet_bytes; marked_alike = marked_alike }
