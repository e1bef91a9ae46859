use Rattle.std.specs.Prelude.{refl}
use Rattle.basics.specs.Core.{arith}
use Rattle.card.proofs.FieldsThere.{in_show}
use Rattle.search.proofs.ForwardWalk.{forward_starts, carried_small, forward_turns, forward_ends}
use Rattle.search.proofs.forward.Goals as goal

pub loop-t-init : goal.loop-t-init
loop-t-init c = forward_starts c.requires c.level_price-lead.ensures

pub load-requires : goal.load-requires
load-requires c =
    let p = c.requires in
    record { in_show = in_show c.args.allowed.now.card.now (omega arith) }

pub judge-verdict-requires : goal.judge-verdict-requires
judge-verdict-requires c =
    let p = c.requires in
    record {
      price_is = c.level_price-price.ensures;
      small =
          carried_small p c.loop-t.invariant c.from-place.ensures refl c.level_price-price.ensures c.carry-carried.ensures;
    }

pub loop-t-preserved : goal.loop-t-preserved
loop-t-preserved c =
    let p = c.requires in
    forward_turns p c.loop-t.invariant c.from-place.ensures refl c.level_price-price.ensures c.carry-carried.ensures
    c.load.ensures.is c.judge-verdict.ensures (omega arith)

pub returns : goal.returns
returns c = forward_ends c.requires c.loop-t.invariant c.loop-t-test.false
