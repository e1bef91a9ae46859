-- What an explanation returns, as a result: `points_from`.
use Rattle.std.specs.Prelude.{Result, Ok, Err}
use Rattle.model.specs.declared.Refusal.{Refusal}
use Rattle.model.specs.declared.Points.{Points}
use Rattle.model.specs.ExplainedPoints.{no_points}

-- The points of a result: those found, or those of a refusal.
abbrev pub points_from : Result Points Refusal → Points
points_from (Ok p) = p
points_from (Err x) = no_points x
