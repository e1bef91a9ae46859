use Rattle.basics.specs.Core.{arith}
use Rattle.laws.specs.Acceptance.{accepted_bounds}
use Rattle.sheets.proofs.SheetBytes.{cost_started, cost_kept}
use Rattle.sheets.proofs.byte_cost.Goals as goal

pub overflow_add-result : goal.overflow_add-result
overflow_add-result c =
    let bounds = accepted_bounds _ c.args.card.now.accepted in
    record { fits = omega (arith, bounds.power_up, bounds.power_down) }

pub returns-then-prev-eq255 : goal.returns-then-prev-eq255
returns-then-prev-eq255 c = search cost_started

pub returns : goal.returns
returns c = search cost_kept
