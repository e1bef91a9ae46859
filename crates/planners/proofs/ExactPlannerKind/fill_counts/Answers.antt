use Rattle.basics.specs.Core.{arith}
use Rattle.model.specs.Planners.{allowed_counts}
use Rattle.laws.specs.Acceptance.{accepted_bounds}
use Rattle.planners.proofs.ExactPlannerKind.fill_counts.Goals as goal

pub fill_all-requires : goal.fill_all-requires
fill_all-requires c =
    record { room = omega (arith, c.requires.room, (accepted_bounds _ c.args.card.now.accepted).modules.1, c.args.card.now.header_is.modules_is) }

pub returns : goal.returns
unfolding allowed_counts
returns c =
    let same = c.args.card.now.header_is.modules_is in
    record { value = rw same at c.fill_all.ensures.value; counts_after = rw same at c.fill_all.ensures.counts_after }
