use Rattle.model.specs.Planners.{exact}
use Rattle.lamp.proofs.Promised.{plans}
use Rattle.lamp.proofs.lamp_plan_exact.Goals as goal

pub returns : goal.returns
returns c =
    let (outcome, (plan_bytes, (work_bytes, (own_sheet, least)))) = plans exact _ _ _ (
      c.plan_show.ensures.value,
      (c.plan_show.ensures.plan_after, c.plan_show.ensures.work_after),
    ) c.from.ensures in
    record { outcome = outcome; plan_bytes = plan_bytes; work_bytes = work_bytes; own_sheet = own_sheet; least = least }
