use Rattle.basics.specs.Tests.{test_failed, test_passed}
use Rattle.card.proofs.CardTests.{front_short, front_unmarked, front_version, front_passed}
use Rattle.card.proofs.check_front.Goals as goal

pub returns-then-bytes : goal.returns-then-bytes
returns-then-bytes c = search front_short

pub returns-then-not-has_mark : goal.returns-then-not-has_mark
returns-then-not-has_mark c = search (front_unmarked, test_failed)

pub returns-then-version-ne1 : goal.returns-then-version-ne1
returns-then-version-ne1 c = search (front_version, test_passed)

pub returns : goal.returns
returns c = search (front_passed, test_passed)
