use Rattle.lamp.proofs.Promised.{plans_listed}
use Rattle.lamp.proofs.lamp_plan_groups.Goals as goal

pub returns : goal.returns
returns c =
    let (outcome, (plan_bytes, (work_bytes, (own_sheet, (at_most, least_within))))) = plans_listed _ _ _ _ _ (
      c.plan_show.ensures.value,
      (c.plan_show.ensures.plan_after, c.plan_show.ensures.work_after),
    ) c.from.ensures in
    record {
      outcome = outcome;
      plan_bytes = plan_bytes;
      work_bytes = work_bytes;
      own_sheet = own_sheet;
      at_most = at_most;
      least_within = least_within;
    }
