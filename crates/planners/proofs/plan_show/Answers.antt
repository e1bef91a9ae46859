use Rattle.std.proofs.lemmas.Result.{err_from_is_err_and}
use Rattle.planners.proofs.Planning.{plan_refused}
use Rattle.planners.proofs.plan_show.Goals as goal

pub returns-in_err-card : goal.returns-in_err-card
returns-in_err-card g c =
    let p = err_from_is_err_and c.from_residual.result c.from_residual.ensures.1 in
    let (value, (plan_after, work_after)) = plan_refused _ _ _ _ c.in_err-card.ensures in
    rw (p.1, p.2) (record { value = value; plan_after = plan_after; work_after = work_after })

pub returns : goal.returns
returns g c =
    let done = c.plan_show_on.ensures in
    let same = c.in_ok-card.ensures in
    record { value = rw same at done.value; plan_after = rw same at done.plan_after; work_after = rw same at done.work_after }
