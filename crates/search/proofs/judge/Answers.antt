use Rattle.basics.specs.Core.{sym, ◌∙◌, arith}
use Rattle.counts.proofs.Shares.{operating_most}
use Rattle.search.proofs.LevelPrices.{can_serve_lem, served_at_lem, served_above, level_most}
use Rattle.thresholds.specs.ThresholdLaws.{judge_beyond, judge_serves}
use Rattle.search.proofs.judge.Goals as goal

pub returns-then-counts-level : goal.returns-then-counts-level
returns-then-counts-level c = sym (judge_beyond _ _ _ _ _ c.if-counts-level.true)

pub operating_cost-requires : goal.operating_cost-requires
operating_cost-requires c =
    served_above c.args.allowed.now _ (omega arith) (omega arith)

pub overflow_add-upper : goal.overflow_add-upper
overflow_add-upper c =
    omega (arith, c.operating_cost.ensures, operating_most (served_above c.args.allowed.now {l = c.args.l} c.args.level (omega arith) (omega arith)))

pub operating_cost-lower-requires : goal.operating_cost-lower-requires
operating_cost-lower-requires c =
    served_at_lem c.args.allowed.now _ (omega arith)

pub weigh-requires : goal.weigh-requires
weigh-requires c =
    record {
      priced = rw c.requires.price_is (level_most c.args.allowed.now _);
      served = rw c.operating_cost-lower.ensures (operating_most (served_at_lem c.args.allowed.now {l = c.args.l} c.args.level (omega arith)));
    }

pub returns : goal.returns
returns c =
    rw (c.requires.price_is, c.operating_cost-lower.ensures, c.operating_cost.ensures) at c.weigh.ensures ∙
    sym (judge_serves _ _ _ _ _ (omega arith) (can_serve_lem c.args.allowed.now _ (omega arith)))
