use Rattle.basics.specs.Parts.{get_or_within}
use Rattle.buffers.specs.Writers.{wrote_none, row_fits, wrote_row}
use Rattle.model.specs.Sheets.{off}
use Rattle.listing.proofs.put_steps.Goals as goal

pub loop-step-init : goal.loop-step-init
loop-step-init c = search wrote_none

pub put_step-requires : goal.put_step-requires
put_step-requires c =
    let below = c.loop-step-test.true in
    rw (get_or_within _ _ off 0 below) at (row_fits c.requires c.loop-step.invariant below)

pub loop-step-preserved : goal.loop-step-preserved
loop-step-preserved c =
    let below = c.loop-step-test.true in
    wrote_row c.loop-step.invariant below (rw (get_or_within _ _ off 0 below) c.put_step.ensures)
