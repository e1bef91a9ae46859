use Rattle.planners.proofs.Planning.{counts_ready, plan_written}
use Rattle.planners.proofs.plan_by.Goals as goal

pub plan_over-requires : goal.plan_over-requires
plan_over-requires g c =
    counts_ready _ c.requires.keeps c.requires.buffers _ c.fill_counts-width.ensures.value c.fill_counts-width.ensures.counts_after
    c.work_bytes-asked.ensures

pub returns : goal.returns
returns g c =
    let (value, (plan_after, work_after)) =
    plan_written _ c.requires.keeps c.requires.buffers _ c.fill_counts-width.ensures.value c.fill_counts-width.ensures.counts_after
    c.work_bytes-asked.ensures (c.plan_over.ensures.value, (c.plan_over.ensures.plan_after, c.plan_over.ensures.work_after)) in
    record { value = value; plan_after = plan_after; work_after = work_after }
