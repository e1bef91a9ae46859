use Rattle.std.specs.Prelude.{◌^◌}
use Rattle.basics.specs.Filling.{Upto}
use Rattle.counts.proofs.fill_powers.Given as goal

abbrev pub invariant-loop-k : goal.invariant-loop-k
invariant-loop-k l = Upto (λ j. 2 ^ j) l.k l.initial.part l.part
