use Rattle.std.proofs.lemmas.Result.{err_from_is_err_and}
use Rattle.basics.specs.Core.{sym}
use Rattle.calls.proofs.check_card.Goals as goal

pub returns-in_err-check : goal.returns-in_err-check
returns-in_err-check c =
    let p = err_from_is_err_and c.from_residual.result c.from_residual.ensures.1 in
    rw (p.1, p.2) (sym c.in_err-check.ensures)

pub returns : goal.returns
returns c = sym (rw c.in_ok-check.ensures at c.in_ok-check.field-0.accepted)
