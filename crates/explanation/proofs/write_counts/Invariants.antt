use Rattle.std.specs.Iterator.Adapters.{enumerate_source, enumerate_count}
use Rattle.std.specs.Slice.Iter.{chunks_exact_rest, chunks_exact_size}
use Rattle.sheets.proofs.RowCuts.{RowsLeft}
use Rattle.explanation.proofs.WritingCounts.{Written}
use Rattle.explanation.proofs.write_counts.Given as goal

abbrev pub invariant-loop-t : goal.invariant-loop-t
invariant-loop-t l =
    let rows = enumerate_source l.t-iterator in
    let t = enumerate_count l.t-iterator in
    RowsLeft l.card l.sheet (chunks_exact_size rows) t (chunks_exact_rest rows) × Written l.card l.sheet t l.initial.counts l.counts
