-- More light than the load (document 02, §2): what a module costs that gives the light of a step or more, and the step it is active at.
use Rattle.std.specs.Prelude.{ℕ, ◌-◌, eqb}
use Rattle.basics.specs.Ranges.{least_over, first_over}
use Rattle.model.specs.Instance.{Instance}

-- 'G(k), the least F(j) for j from k to Q': of F(k) and the Q − k entries after it. Beyond Q it means nothing.
unfoldable pub least_from : Instance → (k : ℕ) → ℕ
least_from i k = least_over i.table k (i.top_step - k)

-- The step at which a module is active for a step k: 'The sheet burns each module at the smallest such j for its step', the smallest j
-- from k to Q with F(j) = G(k).
unfoldable pub active_step : Instance → (k : ℕ) → ℕ
active_step i k = first_over (λ j. eqb (i.table j) (least_from i k)) k (i.top_step - k)
