-- What the explanation of a sheet returns and leaves (document 02, §7).
use Rattle.std.specs.Prelude.{ℕ, List, [], get_or}
use Rattle.model.specs.declared.Refusal.{Refusal}
use Rattle.model.specs.Answers.{Answer}
use Rattle.std.specs.Prelude.{Ok, Err}
use Rattle.model.specs.declared.Points.{Points}
use Rattle.model.specs.Answers.{refusal_number}
use Rattle.model.specs.Instance.{Instance, instance_of}
use Rattle.model.specs.Explanation.{excess_operating_cost, excess_switching_cost, excess_of_counts}
use Rattle.model.specs.Calls.{Call, explain_sheet, answer, buffers_at_exit}

-- What a refused explanation returns: 'Refused, all three are 0.'
abbrev pub no_points : Refusal → Points
no_points x = record { number = refusal_number x; spread = 0; swaps = 0; counts = 0 }

-- What the explanation of a sheet returns with an answer: with a success the three numbers of 02 §7.
unfoldable pub points_with : Answer → Instance → (sheet : List ℕ) → Points
points_with (Ok n) i s =
    record { number = 0; spread = excess_operating_cost i s; swaps = excess_switching_cost i s; counts = excess_of_counts i s }
points_with (Err x) i s = no_points x

-- What the explanation of a sheet returns.
unfoldable pub points_of : (card sheet work : List ℕ) → Points
points_of c s w = points_with (answer (explain_sheet c s w)) (instance_of c) s

-- The work buffer of an explanation at exit, which is the only one lent to it.
unfoldable pub explained_work : Call → List ℕ
explained_work c = get_or (buffers_at_exit c) 0 []
