-- A list as it is copied.
use Rattle.std.specs.Prelude.{ℕ, ◌≤◌, ◌≡◌, refl, List, length, get_or}
use Rattle.basics.specs.Core.{sym, ◌∙◌, arith}
use Rattle.basics.specs.Lists.{equal_tabulate}
use Rattle.basics.specs.Filling.{Upto, upto_all}

-- What is copied up to the end is the list.
pub copied : (l : List ℕ) {k : ℕ} {old new : List ℕ} → Upto (λ j. get_or l j 0) k old new → length old ≡ length l → length l ≤ k → new ≡ l
copied l {old = old} u size all = upto_all u (omega arith) ∙ sym (equal_tabulate {n = length old} (sym size) (λ j h. refl))
