use Rattle.std.specs.Prelude.{suc, leb}
use Rattle.std.specs.Iterator.Adapters.{enumerate_source, enumerate_count}
use Rattle.std.specs.Slice.Iter.{chunks_exact_rest, chunks_exact_size}
use Rattle.basics.specs.Tests.{Passed}
use Rattle.card.specs.Shows.{show_of}
use Rattle.model.specs.Sheets.{light_at}
use Rattle.sheets.proofs.RowCuts.{RowsLeft}
use Rattle.sheets.proofs.sheet_light.Given as goal

abbrev pub invariant-loop-t : goal.invariant-loop-t
invariant-loop-t l =
    let rows = enumerate_source l.t-iterator in
    let t = enumerate_count l.t-iterator in
    RowsLeft l.card l.sheet (chunks_exact_size rows) t (chunks_exact_rest rows) ×
    Passed (show_of l.card).slots (λ u. leb ((show_of l.card).load u) (light_at (show_of l.card) l.sheet (suc u))) t
