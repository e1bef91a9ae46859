use Rattle.std.proofs.Common.{rules}
use Rattle.std.specs.Prelude.{ℕ, zip}
use Rattle.std.proofs.lemmas.Iterator.{YieldsList-from_slice, YieldsList-from_zip, YieldsList-from_map}
use Rattle.std.proofs.lemmas.Iterator.Consumers.{YieldsList-at, sum_by_from_yields_List}
use Rattle.sheets.proofs.ListSums.{pairs_by_places}
use Rattle.explanation.specs.Exchanges.{start_of, row_starts}
use Rattle.explanation.proofs.row_starts.Goals as goal

pub returns : goal.returns
unfolding row_starts
returns c =
    let start = λ (p : ℕ × ℕ). start_of p.1 p.0 in
    let pairs =
    YieldsList-from_zip (YieldsList-from_slice {s = c.zip.result.a} c.args.row.now (cc))
    (YieldsList-from_slice {s = c.zip.result.b} c.args.before.now (cc)) in
    let chain = YieldsList-at c.map.ensures.source pairs in
    pairs_by_places (λ b was. start_of was b) c.args.row.now c.args.before.now c.requires.before_len
    (sum_by_from_yields_List start (zip c.args.row.now c.args.before.now) c.map.result _ c.sum.ensures.ran
    (YieldsList-from_map _ start chain c.map.ensures.closure (λ x r q k. search rules)))
