use Rattle.std.specs.Prelude.{refl}
use Rattle.std.proofs.lemmas.Result.{err_from_is_err_and}
use Rattle.basics.specs.Writing.{start_same}
use Rattle.plan_program.proofs.Printing.{printed_invalid, printed_refusal, printed_listing, planned_text}
use Rattle.plan_program.proofs.print_planned.Goals as goal

pub returns-in_err-card : goal.returns-in_err-card
returns-in_err-card c =
    let p = err_from_is_err_and c.from_residual.result c.from_residual.ensures.1 in
    rw (p.1, p.2) (printed_invalid _ c.in_err-card.ensures, refl)

pub returns-in_err-cost : goal.returns-in_err-cost
returns-in_err-cost c =
    let p = err_from_is_err_and c.from_residual-in_err-cost.result c.from_residual-in_err-cost.ensures.1 in
    let told = printed_refusal _ _ _ c.area-plan.ensures c.area-work.ensures c.plan_show_on.ensures.value c.in_err-cost.was in
    rw (p.1, p.2) (rw c.in_ok-card.ensures at told, refl)

pub print_plan-requires : goal.print_plan-requires
print_plan-requires c =
    planned_text c.in_ok-card.card _ _ c.area-work.ensures c.plan_show_on.ensures.value c.in_ok-cost.was c.plan_show_on.ensures.plan_after c.requires

pub returns : goal.returns
returns c =
    let told = printed_listing _ _ _ c.area-plan.ensures c.area-work.ensures c.plan_show_on.ensures.value c.in_ok-cost.was in
    start_same _ _ _ (rw c.in_ok-card.ensures at told) (rw c.in_ok-card.ensures at c.print_plan.ensures.size, rw c.in_ok-card.ensures at c.print_plan.ensures.bytes)
