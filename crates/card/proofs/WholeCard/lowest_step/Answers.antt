use Rattle.std.specs.Prelude.{◌≡◌}
use Rattle.basics.specs.Core.{arith}
use Rattle.card.proofs.Lowest.{fallen_none, fallen_more, fallen_found}
use Rattle.card.proofs.WholeCard.lowest_step.Goals as goal

pub loop-k-init : goal.loop-k-init
loop-k-init c = fallen_none _ _

pub returns-then-entry : goal.returns-then-entry
returns-then-entry c =
    fallen_found _ c.args.self.now.sized.header.top_is c.requires c.loop-k.invariant
    (λ _. rw (← c.entry.ensures.is, ← c.entry-in-loop-k.ensures.is) c.if-entry.true)

pub loop-k-preserved : goal.loop-k-preserved
loop-k-preserved c =
    fallen_more c.loop-k.invariant (omega arith)
    (rw (← c.entry.ensures.is, ← c.entry-in-loop-k.ensures.is) c.if-entry.false)

pub returns : goal.returns
returns c =
    let same : c.loop-k.k ≡ c.args.self.now.header.top_step = omega arith in
    rw (← same) (fallen_found _ c.args.self.now.sized.header.top_is c.requires c.loop-k.invariant (λ below. absurd (omega arith)))
