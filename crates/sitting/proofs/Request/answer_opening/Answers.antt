use Rattle.std.specs.Prelude.{refl}
use Rattle.std.proofs.lemmas.Result.{err_from_is_err_and}
use Rattle.basics.specs.Core.{◌∙◌, sym}
use Rattle.planners.proofs.Planning.{buffers_given}
use Rattle.sitting.proofs.Openings.{opening_on, opening_short, opening_barred, opening_spent, opening_planned}
use Rattle.sitting.proofs.Request.answer_opening.Goals as goal

pub returns-in_err-card : goal.returns-in_err-card
returns-in_err-card c =
    let p = err_from_is_err_and c.from_residual.result c.from_residual.ensures.1 in
    let (value, (plan_after, work_after)) = opening_on _ _ _ _ _ _ c.in_err-card.ensures in
    rw (p.1, p.2) (record { value = value; plan_after = plan_after; work_after = work_after })

pub returns-then-short_for : goal.returns-then-short_for
returns-then-short_for c =
    let (value, (plan_after, work_after)) = opening_short _ _ _ c.in_ok-card.card _ _ c.short_for.ensures c.if-short_for.true in
    rw (← c.in_ok-card.ensures) (record { value = value; plan_after = plan_after; work_after = work_after })

pub returns-then-self-ne0 : goal.returns-then-self-ne0
returns-then-self-ne0 c =
    let (value, (plan_after, work_after)) = opening_barred _ _ _ c.in_ok-card.card _ _ c.short_for.ensures c.if-short_for.false
    c.if-self-ne0.true in
    rw (← c.in_ok-card.ensures) (record { value = value; plan_after = plan_after; work_after = work_after })

pub returns-then-not-allowance_in_range : goal.returns-then-not-allowance_in_range
returns-then-not-allowance_in_range c =
    let (value, (plan_after, work_after)) = opening_spent _ _ _ c.in_ok-card.card _ _ c.short_for.ensures c.if-short_for.false
    c.if-self-ne0.false (sym c.allowance_in_range.ensures ∙ c.if-not-allowance_in_range.true) in
    rw (← c.in_ok-card.ensures) (record { value = value; plan_after = plan_after; work_after = work_after })

pub plan_by-requires : goal.plan_by-requires
plan_by-requires c = record { keeps = refl; buffers = buffers_given c.short_for.ensures c.if-short_for.false }

pub returns : goal.returns
returns c =
    let (value, (plan_after, work_after)) = opening_planned _ _ _ c.in_ok-card.card _ _ c.short_for.ensures c.if-short_for.false
    c.if-self-ne0.false (sym c.allowance_in_range.ensures ∙ c.if-not-allowance_in_range.false) (
      c.plan_by.ensures.value,
      (c.plan_by.ensures.plan_after, c.plan_by.ensures.work_after),
    ) in
    rw (← c.in_ok-card.ensures) (record { value = value; plan_after = plan_after; work_after = work_after })
