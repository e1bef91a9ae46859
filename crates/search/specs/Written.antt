-- What the functions of the search return and write.
use Rattle.std.specs.Prelude.{ℕ, List, length}
use Rattle.basics.specs.Lists.{tabulate}
use Rattle.thresholds.specs.Places.{count_at_place}
use Rattle.thresholds.specs.Thresholds.{Verdict, in_slot}
use Rattle.search.specs.declared.Verdict.{Verdict as Returned}

-- A verdict as the code returns it.
abbrev pub verdict_of : Returned → Verdict
verdict_of v = record { lead = v.lead; side = v.side }

-- The counts at the places of a plan.
unfoldable pub counts_at : (counts plan : List ℕ) → List ℕ
counts_at counts plan = tabulate (length plan) (λ t. count_at_place counts (in_slot plan t))
