use Rattle.std.specs.Prelude.{get_or}
use Rattle.basics.specs.Filling.{Upto}
use Rattle.count_lists.proofs.widen.Given as goal

abbrev pub invariant-loop-k : goal.invariant-loop-k
invariant-loop-k l = Upto (λ j. get_or l.list j 0) l.k l.initial.counts l.counts
