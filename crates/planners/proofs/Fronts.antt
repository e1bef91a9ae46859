-- A list at the front of a longer one, where a filling function has left it.
use Rattle.std.specs.Prelude.{ℕ, ◌≡◌, List, length, take, drop}
use Rattle.basics.specs.Core.{sym, ◌∙◌, ap, take_at}
use Rattle.basics.specs.Lists.{written_over}

module _ (l old : List ℕ) {new : List ℕ} {r : ℕ} (size : r ≡ length l) (filled : new ≡ written_over l old) where
  pub front_is : take r new ≡ l
  front_is = rw filled (take_at l (drop (length l) old) r (sym size))

  pub front_length : r ≡ length (take r new)
  front_length = size ∙ sym (ap length front_is)
