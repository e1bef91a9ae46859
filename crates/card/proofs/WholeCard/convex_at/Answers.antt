use Rattle.model.specs.Instance.{convex_at}
use Rattle.card.proofs.WholeCard.convex_at.Goals as goal

pub returns : goal.returns
unfolding convex_at
returns c = rw (← c.entry-low.ensures.is, ← c.entry-middle.ensures.is, ← c.entry-high.ensures.is)
