use Rattle.basics.specs.Filling.{upto_all}
use Rattle.search.specs.Written.{counts_at}
use Rattle.search.proofs.to_counts.Goals as goal

pub returns : goal.returns
unfolding counts_at
returns c = upto_all c.loop-place.invariant c.loop-place-test.false
