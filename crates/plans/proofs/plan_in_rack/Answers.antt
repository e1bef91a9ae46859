use Rattle.std.specs.Prelude.{leb}
use Rattle.std.proofs.Common.{rules, tests}
use Rattle.std.proofs.lemmas.Iterator.{YieldsList-from_slice}
use Rattle.std.proofs.lemmas.Iterator.Search.{all_from_yields_List}
use Rattle.basics.specs.Core.{◌∙◌}
use Rattle.basics.specs.Tests.{every_element}
use Rattle.model.specs.Plans.{plan_in_rack}
use Rattle.plans.proofs.plan_in_rack.Goals as goal

pub returns : goal.returns
unfolding plan_in_rack
returns c =
    all_from_yields_List (λ n. leb n c.args.card.now.header.modules) _ _ _ c.all.ensures.ran (YieldsList-from_slice c.args.plan.now (cc))
    (λ x b q k. search (rules, tests)) ∙
    rw (every_element _ c.args.plan.now 0 c.requires.slotwise, c.args.card.now.header_is.modules_is)
