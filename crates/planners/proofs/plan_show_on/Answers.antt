use Rattle.basics.specs.Core.{sym, ◌∙◌}
use Rattle.std.proofs.lemmas.Result.{err_from_is_err_and}
use Rattle.planners.proofs.Planning.{list_kept, list_broken, buffers_given, plan_unlisted, plan_short, plan_done}
use Rattle.planners.proofs.plan_show_on.Goals as goal

pub returns-in_err-check_list : goal.returns-in_err-check_list
returns-in_err-check_list g c =
    let p = err_from_is_err_and c.from_residual.result c.from_residual.ensures.1 in
    let (broken, is) = list_broken _ _ (sym c.check_list.ensures ∙ c.in_err-check_list.was) in
    let (value, (plan_after, work_after)) = plan_unlisted _ c.args.card.now _ _ broken in
    rw (p.1, p.2, is) (record { value = value; plan_after = plan_after; work_after = work_after })

pub short_for-requires : goal.short_for-requires
short_for-requires g c = record { keeps = list_kept _ _ (sym c.check_list.ensures ∙ c.in_ok-check_list.was) }

pub returns-then-short_for : goal.returns-then-short_for
returns-then-short_for g c =
    let (value, (plan_after, work_after)) =
    plan_short _ c.args.card.now _ _ (list_kept _ _ (sym c.check_list.ensures ∙ c.in_ok-check_list.was)) c.short_for.ensures c.if-short_for.true in
    record { value = value; plan_after = plan_after; work_after = work_after }

pub plan_by-requires : goal.plan_by-requires
plan_by-requires g c =
    record {
      keeps = list_kept _ _ (sym c.check_list.ensures ∙ c.in_ok-check_list.was);
      buffers = buffers_given c.short_for.ensures c.if-short_for.false;
    }

pub returns : goal.returns
returns g c =
    let (value, (plan_after, work_after)) =
    plan_done _ c.args.card.now _ _ (list_kept _ _ (sym c.check_list.ensures ∙ c.in_ok-check_list.was)) c.short_for.ensures c.if-short_for.false
    (c.plan_by.ensures.value, (c.plan_by.ensures.plan_after, c.plan_by.ensures.work_after)) in
    record { value = value; plan_after = plan_after; work_after = work_after }
