use Rattle.std.proofs.lemmas.Result.{err_from_is_err_and}
use Rattle.calls.proofs.Marking.{mark_refused}
use Rattle.calls.proofs.mark_sheet.Goals as goal

pub returns-in_err-card : goal.returns-in_err-card
returns-in_err-card c =
    let p = err_from_is_err_and c.from_residual.result c.from_residual.ensures.1 in
    rw (p.1, p.2) (mark_refused _ _ c.in_err-card.ensures)

pub returns : goal.returns
returns c = rw c.in_ok-card.ensures at c.mark_sheet_on.ensures
