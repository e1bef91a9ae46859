use Rattle.basics.specs.Core.{arith}
use Rattle.model.specs.Planners.{allowed_counts}
use Rattle.laws.specs.Acceptance.{accepted_bounds}
use Rattle.planners.proofs.CoarsePlannerKind.fill_counts.Goals as goal

pub fill_coarse-requires : goal.fill_coarse-requires
fill_coarse-requires c =
    let (some, most) = (accepted_bounds _ c.args.card.now.accepted).modules in
    let same = c.args.card.now.header_is.modules_is in
    record { some = omega arith; most = omega arith; room = omega (arith, c.requires.room) }

pub returns : goal.returns
unfolding allowed_counts
returns c =
    let same = c.args.card.now.header_is.modules_is in
    record { value = rw same at c.fill_coarse.ensures.value; counts_after = rw same at c.fill_coarse.ensures.counts_after }
