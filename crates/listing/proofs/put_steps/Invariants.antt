use Rattle.std.specs.Prelude.{length, get_or}
use Rattle.buffers.specs.Writers.{RowsWrote}
use Rattle.model.specs.Sheets.{off}
use Rattle.listing.specs.Texts.{module_text}
use Rattle.listing.proofs.put_steps.Given as goal

abbrev pub invariant-loop-step : goal.invariant-loop-step
invariant-loop-step l = RowsWrote (λ j. module_text (get_or l.row j off)) (length l.row) l.initial.writer l.step-index l.writer
