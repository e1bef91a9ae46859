use Rattle.basics.specs.Tests.{test_failed, test_passed}
use Rattle.card.proofs.CardTests.{body_up, body_down, body_table, body_not_convex, body_load, body_passed}
use Rattle.card.proofs.WholeCard.check_body.Goals as goal

pub returns-then-h-gt500000000 : goal.returns-then-h-gt500000000
returns-then-h-gt500000000 c = search body_up

pub returns-then-h-gt500000000-2 : goal.returns-then-h-gt500000000-2
returns-then-h-gt500000000-2 c = search body_down

pub returns-then-not-table_in_range : goal.returns-then-not-table_in_range
returns-then-not-table_in_range c = search (body_table, test_failed)

pub returns-then-not-is_convex : goal.returns-then-not-is_convex
returns-then-not-is_convex c = search (body_not_convex, test_failed, test_passed)

pub returns-then-not-loads_in_range : goal.returns-then-not-loads_in_range
returns-then-not-loads_in_range c = search (body_load, test_failed, test_passed)

pub returns : goal.returns
returns c = search (body_passed, test_passed)
