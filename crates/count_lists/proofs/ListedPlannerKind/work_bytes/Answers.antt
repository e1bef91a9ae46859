use Rattle.basics.specs.Core.{arith}
use Rattle.model.specs.Planners.{work_bytes}
use Rattle.theory.specs.CountLists.{rules_hold}
use Rattle.card.proofs.Sizes.{product_fits}
use Rattle.count_lists.proofs.ListedPlannerKind.work_bytes.Goals as goal

-- A list that keeps the rules has few entries, so 64 bits can count the bytes.
pub overflow_mul-result : goal.overflow_mul-result
overflow_mul-result c = product_fits c.args.card.now _ (omega (arith, (rules_hold _ _ _ c.requires.keeps).1))

pub returns : goal.returns
unfolding work_bytes
returns c = rw c.args.card.now.header_is.slots_is
