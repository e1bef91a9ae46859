use Rattle.std.specs.Prelude.{ltb}
use Rattle.std.proofs.Common.{rules, tests}
use Rattle.std.proofs.lemmas.List.Sorted.{answers_always}
use Rattle.count_rules.proofs.Rules.{neighbours_ascend}
use Rattle.count_rules.proofs.strictly_ascends.Goals as goal

pub returns : goal.returns
returns c = neighbours_ascend _ _ (c.is_sorted_by.ensures.cases ltb (answers_always _ _ _ (λ f a r g h. search (rules, tests))))
