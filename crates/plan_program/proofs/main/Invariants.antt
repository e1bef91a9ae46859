use Rattle.std.specs.Prelude.{◌-◌, ◌≤◌}
use Rattle.plan_program.proofs.main.Given as goal

abbrev pub invariant-loop-n : goal.invariant-loop-n
invariant-loop-n l = l.n ≤ 2870

abbrev pub decreases-loop-n : goal.decreases-loop-n
decreases-loop-n l = 2870 - l.n
