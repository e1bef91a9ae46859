use Rattle.std.specs.Prelude.{◌≤◌, refl, length}
use Rattle.basics.specs.Core.{sym, arith, length-take-le}
use Rattle.model.specs.Planners.{allowed_counts}
use Rattle.theory.specs.CountLists.{rules_hold}
use Rattle.count_lists.proofs.ListedPlannerKind.fill_counts.Goals as goal
use Rattle.count_lists.proofs.ListedPlannerKind.fill_counts.Goals.{Start}

-- A list that keeps the rules has no more entries than there is room for.
fits : (c : Start) → length c.args.self.now.list.now ≤ length c.args.counts.now
fits c = omega (arith, (rules_hold _ _ _ c.requires.keeps).1, c.requires.room)

pub slice_bounds-widen-end : goal.slice_bounds-widen-end
slice_bounds-widen-end c = fits (goal.at.slice_bounds-widen-end c).Start

pub slice_bounds-widen-end-2 : goal.slice_bounds-widen-end-2
slice_bounds-widen-end-2 c = sym (length-take-le _ _ (fits (goal.at.slice_bounds-widen-end-2 c).Start))

pub widen-requires : goal.widen-requires
widen-requires c = length-take-le _ _ (fits (goal.at.widen-requires c).Start)

pub returns : goal.returns
unfolding allowed_counts
returns c = record { value = refl; counts_after = rw c.widen.ensures }
