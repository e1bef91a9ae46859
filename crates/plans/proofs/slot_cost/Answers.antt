use Rattle.basics.specs.Core.{arith}
use Rattle.laws.specs.Acceptance.{accepted_bounds}
use Rattle.counts.proofs.Shares.{operating_most}
use Rattle.plans.proofs.SlotCosts.{switching_most, slot_raised}
use Rattle.plans.proofs.slot_cost.Goals as goal

pub overflow_add-price : goal.overflow_add-price
overflow_add-price c =
    let accepted = c.args.card.now.accepted in
    record { fits = omega (arith, (accepted_bounds _ accepted).power_up, (accepted_bounds _ accepted).power_down) }

pub overflow_mul-result : goal.overflow_mul-result
overflow_mul-result c =
    record { fits = omega (arith, switching_most c.requires _ c.saturating_sub.ensures) }

pub overflow_add-result : goal.overflow_add-result
overflow_add-result c =
    record { fits = omega (arith, operating_most c.requires, switching_most c.requires _ c.saturating_sub.ensures) }

pub returns : goal.returns
returns c = search slot_raised
