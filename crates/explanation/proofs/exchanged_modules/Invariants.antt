use Rattle.explanation.proofs.Exchanging.{Counted}
use Rattle.explanation.proofs.exchanged_modules.Given as goal

abbrev pub invariant-loop-t : goal.invariant-loop-t
invariant-loop-t l = Counted l.card l.sheet l.t l.total
