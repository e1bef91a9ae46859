use Rattle.basics.specs.Core.{sym, length-take-le}
use Rattle.planners.proofs.Searched.{plan_long, work_long, least_written, made_ready}
use Rattle.planners.proofs.plan_over.Goals as goal

pub slice_bounds-search-end-2 : goal.slice_bounds-search-end-2
slice_bounds-search-end-2 c = sym (length-take-le _ _ (search plan_long))

pub slice_bounds-search-end-4 : goal.slice_bounds-search-end-4
slice_bounds-search-end-4 c = sym (length-take-le _ _ (search work_long))

pub returns : goal.returns
returns c =
    let given = c.requires in
    let (value, (plan_after, work_after)) = least_written given c.search.ensures.plan c.plan_cost.ensures c.search.ensures.work in
    record { value = value; plan_after = plan_after; work_after = work_after }

pub plan_cost-requires : goal.plan_cost-requires
plan_cost-requires c = search made_ready
