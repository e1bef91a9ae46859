use Rattle.std.specs.Iterator.Adapters.{enumerate_source, enumerate_count}
use Rattle.std.specs.Slice.Iter.{chunks_exact_rest, chunks_exact_size}
use Rattle.basics.specs.Core.{inl, ap, ◌∙◌}
use Rattle.basics.specs.Tests.{passed_none, passed_more, passed_all, passed_not}
use Rattle.card.proofs.FieldsThere.{in_header, past_header}
use Rattle.model.specs.Sheets.{sheet_light}
use Rattle.sheets.proofs.RowCuts.{has_modules, rows_few, rows_at_start, row_cut, rows_done}
use Rattle.sheets.proofs.States.{light_failed, light_passed}
use Rattle.sheets.specs.Marks.{row_light}
use Rattle.sheets.proofs.sheet_light.Goals as goal

pub chunks_exact-requires : goal.chunks_exact-requires
chunks_exact-requires c = has_modules c.requires

pub loop-t-init-derived : goal.loop-t-init-derived
loop-t-init-derived c =
    let same = c.into_iter-t-iterator.ensures.into_iter_gives in
    let count = ap enumerate_count same ∙ c.enumerate-t-items.ensures.count in
    let source = ap enumerate_source same ∙ c.enumerate-t-items.ensures.source in
    let size = ap chunks_exact_size source ∙ c.chunks_exact.ensures.size in
    let rest = ap chunks_exact_rest source ∙ c.chunks_exact.ensures.rest in
    ((rw size (has_modules c.requires), tt, inl (rw (count, size, rest) (rows_few c.requires))), tt)

pub loop-t-init : goal.loop-t-init
loop-t-init c =
    let same = c.into_iter-t-iterator.ensures.into_iter_gives in
    let count = ap enumerate_count same ∙ c.enumerate-t-items.ensures.count in
    let source = ap enumerate_source same ∙ c.enumerate-t-items.ensures.source in
    let size = ap chunks_exact_size source ∙ c.chunks_exact.ensures.size in
    let rest = ap chunks_exact_rest source ∙ c.chunks_exact.ensures.rest in
    (rows_at_start c.requires size count rest, rw count (passed_none _ _))

pub slot_light-light-requires : goal.slot_light-light-requires
slot_light-light-requires c =
    let step = c.in-Some.ensures.steps in (row_cut c.requires c.loop-t.invariant.0 step.0.0 step.0.1 step.1).short

pub load-requires : goal.load-requires
load-requires c =
    let step = c.in-Some.ensures.steps in record { in_show = (row_cut c.requires c.loop-t.invariant.0 step.0.0 step.0.1 step.1).below }

pub returns-then-light-load : goal.returns-then-light-load
unfolding sheet_light
returns-then-light-load c =
    let step = c.in-Some.ensures.steps in
    let cut = row_cut c.requires c.loop-t.invariant.0 step.0.0 step.0.1 step.1 in
    let light = c.slot_light-light.ensures ∙ ap row_light cut.row_is in
    passed_not (rw (← step.1) at c.loop-t.invariant.1) (in_header c.args.card.now cut.below)
    (search (light_failed c.requires cut.below light c.load.ensures.is))

pub loop-t-preserved : goal.loop-t-preserved
loop-t-preserved c =
    let step = c.in-Some.ensures.steps in
    let cut = row_cut c.requires c.loop-t.invariant.0 step.0.0 step.0.1 step.1 in
    let light = c.slot_light-light.ensures ∙ ap row_light cut.row_is in
    let passed = light_passed c.requires cut.below light c.load.ensures.is c.if-light-load.false in
    rw (step.2, ← step.1) (cut.later, passed_more (rw (← step.1) at c.loop-t.invariant.1) (in_header c.args.card.now cut.below) passed)

pub returns : goal.returns
unfolding sheet_light
returns c =
    passed_all c.loop-t.invariant.1 (past_header c.args.card.now (rows_done c.requires c.loop-t.invariant.0 c.in-None.ensures.steps.0.1.0))
