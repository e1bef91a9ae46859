use Rattle.std.specs.Prelude.{length, get_or}
use Rattle.buffers.specs.Writers.{RowsWrote}
use Rattle.listing.specs.Texts.{count_text}
use Rattle.listing.proofs.put_counts.Given as goal

abbrev pub invariant-loop-count : goal.invariant-loop-count
invariant-loop-count l = RowsWrote (λ j. count_text (get_or l.plan j 0)) (length l.plan) l.initial.writer l.count-index l.writer
