use Rattle.basics.specs.Filling.{Upto}
use Rattle.counts.proofs.fill_places.Given as goal

abbrev pub invariant-loop-k : goal.invariant-loop-k
invariant-loop-k l = Upto (λ j. j) l.k l.initial.part l.part
