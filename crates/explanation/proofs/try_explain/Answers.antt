use Rattle.std.proofs.lemmas.Result.{err_from_is_err_and}
use Rattle.explanation.proofs.Explaining.{refused_card, refused_short, refused_sheet, sheet_marked, explained}
use Rattle.explanation.proofs.try_explain.Goals as goal

pub returns-in_err-card : goal.returns-in_err-card
returns-in_err-card c =
    let p = err_from_is_err_and c.from_residual.result c.from_residual.ensures.1 in
    let (value, work_after) = refused_card _ _ _ c.in_err-card.ensures in
    rw (p.1, p.2) (record { value = value; work_after = work_after })

pub returns-then-work-work_bytes : goal.returns-then-work-work_bytes
returns-then-work-work_bytes c =
    let (value, work_after) =
    rw c.in_ok-card.ensures at (refused_short c.in_ok-card.card c.args.sheet.now _ c.work_bytes.ensures c.if-work-work_bytes.true) in
    record { value = value; work_after = work_after }

pub returns-in_err-cost : goal.returns-in_err-cost
returns-in_err-cost c =
    let p = err_from_is_err_and c.from_residual-in_err-cost.result c.from_residual-in_err-cost.ensures.1 in
    let (value, work_after) =
    rw c.in_ok-card.ensures at
    (refused_sheet c.in_ok-card.card c.args.sheet.now _ c.work_bytes.ensures c.if-work-work_bytes.false c.mark_sheet_on.ensures
    c.in_err-cost.was) in
    rw (p.1, p.2) (record { value = value; work_after = work_after })

pub points_of-requires-clause-marked : goal.points_of-requires-clause-marked
points_of-requires-clause-marked c = sheet_marked c.in_ok-card.card _ c.mark_sheet_on.ensures c.in_ok-cost.was

pub returns : goal.returns
returns c =
    let (value, work_after) =
    rw c.in_ok-card.ensures at
    (explained c.in_ok-card.card c.args.sheet.now _ c.work_bytes.ensures c.if-work-work_bytes.false c.mark_sheet_on.ensures
    c.in_ok-cost.was c.points_of.ensures.value c.points_of.ensures.work_after) in
    record { value = value; work_after = work_after }
