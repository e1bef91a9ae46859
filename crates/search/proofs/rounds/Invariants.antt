use Rattle.card.specs.Shows.{show_of}
use Rattle.search.proofs.RoundsWalk.{RoundsLoop}
use Rattle.search.proofs.rounds.Given as goal

abbrev pub invariant-loop-e : goal.invariant-loop-e
invariant-loop-e l = RoundsLoop (show_of l.allowed.card.now) l.allowed.counts.now l.digits l.initial.plan l.initial.sides l.plan l.sides l.e
