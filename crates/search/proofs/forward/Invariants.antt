use Rattle.card.specs.Shows.{show_of}
use Rattle.search.proofs.ForwardWalk.{ForwardLoop}
use Rattle.search.proofs.forward.Given as goal

abbrev pub invariant-loop-t : goal.invariant-loop-t
invariant-loop-t l = ForwardLoop (show_of l.allowed.card.now) l.allowed.counts.now l.width l.plan l.initial.sides l.sides l.before l.lead l.t
