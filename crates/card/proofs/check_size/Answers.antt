use Rattle.basics.specs.Tests.{test_failed, test_passed}
use Rattle.card.proofs.CardTests.{size_rack, size_slots, size_length, size_passed}
use Rattle.card.proofs.check_size.Goals as goal

pub returns-then-not-rack_in_range : goal.returns-then-not-rack_in_range
returns-then-not-rack_in_range c = search (size_rack, test_failed)

pub returns-then-h-gt1024 : goal.returns-then-h-gt1024
returns-then-h-gt1024 c = search (size_slots, test_passed)

pub returns-then-bytes-load_place : goal.returns-then-bytes-load_place
returns-then-bytes-load_place c = search (size_length, test_passed)

pub returns : goal.returns
returns c = search (size_passed, test_passed)
