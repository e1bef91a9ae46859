use Rattle.basics.specs.Filling.{Upto}
use Rattle.thresholds.specs.Places.{count_at_place}
use Rattle.thresholds.specs.Thresholds.{in_slot}
use Rattle.search.proofs.to_counts.Given as goal

-- Up to the place the plan has counts, and from there on places.
abbrev pub invariant-loop-place : goal.invariant-loop-place
invariant-loop-place l = Upto (λ u. count_at_place l.counts (in_slot l.initial.plan u)) l.place-index l.initial.plan l.plan
