use Rattle.std.specs.Prelude.{◌≤◌, ◌≡◌, None}
use Rattle.seats.specs.Scanning.{turns, view_at}
use Rattle.seats.proofs.find.Given as goal

-- The records before are seen, and nothing is found.
abbrev pub invariant-loop-at : goal.invariant-loop-at
invariant-loop-at l = (l.at ≤ turns l.candidate l.seats) × (view_at l.candidate l.seats l.at ≡ None)
