use Rattle.std.specs.Iterator.Adapters.{enumerate_source, enumerate_count}
use Rattle.std.specs.Slice.Iter.{chunks_exact_rest, chunks_exact_size}
use Rattle.basics.specs.Core.{inl, ap, ◌∙◌}
use Rattle.basics.specs.Filling.{upto_none}
use Rattle.sheets.proofs.RowCuts.{has_modules, rows_few, rows_at_start, row_cut, rows_done}
use Rattle.explanation.proofs.WritingCounts.{count_written, counts_written}
use Rattle.explanation.proofs.write_counts.Goals as goal

pub chunks_exact-requires : goal.chunks_exact-requires
chunks_exact-requires c = has_modules c.requires.sized

pub loop-t-init-derived : goal.loop-t-init-derived
loop-t-init-derived c =
    let same = c.into_iter-t-iterator.ensures.into_iter_gives in
    let count = ap enumerate_count same ∙ c.enumerate-t-items.ensures.count in
    let source = ap enumerate_source same ∙ c.enumerate-t-items.ensures.source in
    let size = ap chunks_exact_size source ∙ c.chunks_exact.ensures.size in
    let rest = ap chunks_exact_rest source ∙ c.chunks_exact.ensures.rest in
    ((rw size (has_modules c.requires.sized), tt, inl (rw (count, size, rest) (rows_few c.requires.sized))), tt)

pub loop-t-init : goal.loop-t-init
loop-t-init c =
    let same = c.into_iter-t-iterator.ensures.into_iter_gives in
    let count = ap enumerate_count same ∙ c.enumerate-t-items.ensures.count in
    let source = ap enumerate_source same ∙ c.enumerate-t-items.ensures.source in
    let size = ap chunks_exact_size source ∙ c.chunks_exact.ensures.size in
    let rest = ap chunks_exact_rest source ∙ c.chunks_exact.ensures.rest in
    (rows_at_start c.requires.sized size count rest, rw count (upto_none _ _))

pub row_active-requires : goal.row_active-requires
row_active-requires c =
    let step = c.in-Some.ensures.steps in
    let cut = row_cut c.requires.sized c.loop-t.invariant.0 step.0.0 step.0.1 step.1 in
    cut.short

pub loop-t-preserved : goal.loop-t-preserved
loop-t-preserved c =
    let step = c.in-Some.ensures.steps in
    let cut = row_cut c.requires.sized c.loop-t.invariant.0 step.0.0 step.0.1 step.1 in
    let written = count_written c.requires (rw (← step.1) at c.loop-t.invariant.1) cut c.row_active.ensures in
    rw (step.2, ← step.1) (cut.later, written)

pub returns : goal.returns
returns c =
    counts_written c.requires c.loop-t.invariant.1 (rows_done c.requires.sized c.loop-t.invariant.0 c.in-None.ensures.steps.0.1.0)
