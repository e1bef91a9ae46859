use Rattle.std.specs.Prelude.{◌≡◌}
use Rattle.model.specs.Instance.{instance_of}
use Rattle.card.specs.Checking.{loads_fit}
use Rattle.card.proofs.WholeCard.loads_fit.Given as goal

-- The loads before are compared.
abbrev pub invariant-loop-k : goal.invariant-loop-k
invariant-loop-k l = (l.fit ≡ loads_fit (instance_of l.self.bytes.now) l.most l.first l.k)
