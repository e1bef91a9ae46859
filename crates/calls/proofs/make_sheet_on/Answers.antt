use Rattle.std.proofs.lemmas.Result.{err_from_is_err_and}
use Rattle.basics.specs.Core.{sym, ◌∙◌}
use Rattle.calls.proofs.Making.{made_ready, made_written, made_kept}
use Rattle.calls.proofs.make_sheet_on.Goals as goal

pub returns-in_err-cost : goal.returns-in_err-cost
returns-in_err-cost c =
    let p = err_from_is_err_and c.from_residual.result c.from_residual.ensures.1 in
    let (value, sheet_after) = made_kept _ _ _ c.check_plan.ensures c.in_err-cost.was in
    rw (p.1, p.2) (record { value = sym c.in_err-cost.was ∙ value; sheet_after = sheet_after })

pub write_sheet-requires : goal.write_sheet-requires
write_sheet-requires c = made_ready c.args.card.now _ _ c.check_plan.ensures c.in_ok-cost.was

pub returns : goal.returns
returns c =
    let (value, sheet_after) = made_written _ _ _ c.check_plan.ensures c.in_ok-cost.was c.write_sheet.ensures in
    record { value = sym c.in_ok-cost.was ∙ value; sheet_after = sheet_after }
