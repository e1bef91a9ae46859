use Rattle.std.specs.Prelude.{◌*◌, ◌/◌, ◌≡◌}
use Rattle.basics.specs.Core.{sym, ◌∙◌, arith}
use Rattle.model.specs.Instance.{Instance, instance_of}
use Rattle.card.specs.declared.WholeCard.{WholeCard}
use Rattle.card.proofs.CardTests.{no_block, next_block, block_fails, last_block}
use Rattle.card.proofs.WholeCard.loads_in_range.Goals as goal

-- The bound is the show's.
bound : (card : WholeCard) → let i : Instance = instance_of card.bytes.now in card.header.modules * card.header.top_step ≡ i.modules * i.top_step
bound card = rw (card.sized.header.modules_is, card.sized.header.top_is)

pub loop-block-init : goal.loop-block-init
loop-block-init c = no_block _ (bound c.args.self.now)

pub returns-then-not-loads_fit : goal.returns-then-not-loads_fit
returns-then-not-loads_fit c =
    block_fails _ (bound c.args.self.now) _ _ (omega (arith, c.args.self.now.sized.header.slots_is))
    (sym c.loads_fit.ensures ∙ c.if-not-loads_fit.true)

pub loop-block-preserved : goal.loop-block-preserved
loop-block-preserved c =
    next_block _ (bound c.args.self.now) _ c.loop-block.invariant (sym c.loads_fit.ensures ∙ c.if-not-loads_fit.false)

pub returns : goal.returns
returns c =
    let all : c.loop-block.block ≡ c.args.self.now.header.slots / 64 = omega arith in
    last_block _ (bound c.args.self.now) _ _ (rw all at c.loop-block.invariant) c.loads_fit-2.ensures
    (omega (arith, c.args.self.now.sized.header.slots_is))
