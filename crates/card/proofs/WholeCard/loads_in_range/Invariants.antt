use Rattle.std.specs.Prelude.{◌≡◌, ◌*◌, true}
use Rattle.model.specs.Instance.{instance_of}
use Rattle.card.specs.Checking.{loads_fit}
use Rattle.card.proofs.WholeCard.loads_in_range.Given as goal

-- The loads of the blocks before keep the bound.
abbrev pub invariant-loop-block : goal.invariant-loop-block
invariant-loop-block l = (loads_fit (instance_of l.self.bytes.now) l.most 0 (64 * l.block) ≡ true)
