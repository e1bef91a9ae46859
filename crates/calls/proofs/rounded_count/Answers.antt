use Rattle.std.specs.Prelude.{ℕ, ◌≤◌, ◌≡◌, true}
use Rattle.basics.specs.Tests.{test_failed, test_passed}
use Rattle.model.specs.Instance.{rack_number}
use Rattle.laws.specs.Acceptance.{rack_range}
use Rattle.laws.specs.RoundedAnswers.{round_rack, round_entry, round_cost}
use Rattle.counts.specs.AllowedCounts.{RackCount}
use Rattle.calls.proofs.rounded_count.Goals as goal

-- A count that passes both tests is a count of a rack.
rack-count : {n m : ℕ} → rack_number m ≡ true → n ≤ m → RackCount n m
rack-count {m = m} right few = let (some, most) = rack_range m right in record { some = some; most = most; in_rack = few }

pub returns-then-not-rack_number : goal.returns-then-not-rack_number
returns-then-not-rack_number c = search (round_rack, test_failed)

pub returns-then-modules-count : goal.returns-then-modules-count
returns-then-modules-count c = search (round_entry, test_passed)

pub rounded-requires : goal.rounded-requires
rounded-requires c = search (rack-count, test_passed)

pub returns : goal.returns
returns c = search (round_cost, test_passed)
