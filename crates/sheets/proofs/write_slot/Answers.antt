use Rattle.basics.specs.Core.{arith}
use Rattle.sheets.proofs.Row.{active_fits, row_off, row_shared}
use Rattle.sheets.proofs.write_slot.Goals as goal

pub returns-then-n-eq0 : goal.returns-then-n-eq0
returns-then-n-eq0 c = search row_off

pub overflow_cast-low : goal.overflow_cast-low
overflow_cast-low c = active_fits c.requires.served c.if-n-eq0.false c.active_step-low.ensures (omega arith)

pub overflow_cast-high : goal.overflow_cast-high
overflow_cast-high c =
    active_fits c.requires.served c.if-n-eq0.false c.active_step-high.ensures (omega arith)

pub returns : goal.returns
returns c = search row_shared
