use Rattle.basics.specs.Core.{sym, ◌∙◌, arith}
use Rattle.count_rules.proofs.Rules.{window_rising, next_ascends, gap_wrong, gap_right, no_gaps}
use Rattle.count_rules.proofs.gaps_grow.Goals as goal

pub gap_grows-requires : goal.gap_grows-requires
gap_grows-requires c = window_rising _ c.loop-window.invariant.0 c.in-Some.ensures.steps.1 c.loop-window.invariant.1 c.requires.ratio_bound

pub returns-then-not-gap_grows : goal.returns-then-not-gap_grows
returns-then-not-gap_grows c =
    gap_wrong _ c.loop-window.invariant.0 c.in-Some.ensures.steps.1 _ c.gap_grows.ensures c.if-not-gap_grows.true ∙ c.loop-window.invariant.2

pub loop-window-preserved : goal.loop-window-preserved
loop-window-preserved c = (
  c.in-Some.ensures.steps.0 ∙ c.loop-window.invariant.0,
  next_ascends _ c.loop-window.invariant.0 c.in-Some.ensures.steps.1 c.loop-window.invariant.1,
  gap_right _ c.loop-window.invariant.0 c.in-Some.ensures.steps.1 _ c.gap_grows.ensures c.if-not-gap_grows.false ∙ c.loop-window.invariant.2,
)

pub returns : goal.returns
returns c = sym (no_gaps c.args.ratio _ (omega (arith, c.in-None.ensures.steps.1.0))) ∙ c.loop-window.invariant.2
