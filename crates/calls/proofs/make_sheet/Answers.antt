use Rattle.std.proofs.lemmas.Result.{err_from_is_err_and}
use Rattle.calls.proofs.Making.{make_refused}
use Rattle.calls.proofs.make_sheet.Goals as goal

pub returns-in_err-card : goal.returns-in_err-card
returns-in_err-card c =
    let p = err_from_is_err_and c.from_residual.result c.from_residual.ensures.1 in
    let (value, sheet_after) = make_refused _ _ _ c.in_err-card.ensures in
    rw (p.1, p.2) (record { value = value; sheet_after = sheet_after })

pub returns : goal.returns
returns c =
    let made = c.make_sheet_on.ensures in
    record { value = rw c.in_ok-card.ensures at made.value; sheet_after = rw c.in_ok-card.ensures at made.sheet_after }
