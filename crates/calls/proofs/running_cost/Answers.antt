use Rattle.std.proofs.lemmas.Result.{err_from_is_err_and}
use Rattle.calls.proofs.RunningCost.{pair_refused, pair_entry, light_fits, pair_load, served, pair_cost}
use Rattle.calls.proofs.running_cost.Goals as goal

pub returns-in_err-card : goal.returns-in_err-card
returns-in_err-card c =
    let p = err_from_is_err_and c.from_residual.result c.from_residual.ensures.1 in
    rw (p.1, p.2) (pair_refused _ _ _ c.in_err-card.ensures)

pub returns-then-card-count : goal.returns-then-card-count
returns-then-card-count c = rw c.in_ok-card.ensures at (pair_entry c.in_ok-card.card _ c.args.load c.if-card-count.true)

pub overflow_mul-count : goal.overflow_mul-count
overflow_mul-count c = light_fits c.in_ok-card.card _ c.args.load c.if-card-count.false

pub returns-then-count-card : goal.returns-then-count-card
returns-then-count-card c = rw c.in_ok-card.ensures at (pair_load c.in_ok-card.card _ _ c.if-card-count.false c.if-count-card.true)

pub operating_cost-requires : goal.operating_cost-requires
operating_cost-requires c = served c.in_ok-card.card _ _ c.if-card-count.false c.if-count-card.false

pub returns : goal.returns
returns c = rw c.in_ok-card.ensures at (pair_cost c.in_ok-card.card _ _ c.if-card-count.false c.if-count-card.false c.operating_cost.ensures)
