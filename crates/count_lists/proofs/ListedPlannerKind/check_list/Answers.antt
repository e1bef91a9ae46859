use Rattle.model.specs.Specs.{first_of}
use Rattle.count_lists.proofs.ListedPlannerKind.check_list.Goals as goal

pub returns-then-not-keeps_rules : goal.returns-then-not-keeps_rules
unfolding first_of
returns-then-not-keeps_rules c = rw (← c.args.card.now.header_is.modules_is, ← c.keeps_rules.ensures, c.if-not-keeps_rules.true)

pub returns : goal.returns
unfolding first_of
returns c = rw (← c.args.card.now.header_is.modules_is, ← c.keeps_rules.ensures, c.if-not-keeps_rules.false)
