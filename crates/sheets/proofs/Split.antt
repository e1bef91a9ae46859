-- A sheet's bytes in rows of m: the first row, and the rows but the first beside the rows but the last.
use Rattle.std.specs.Prelude.{ℕ, ◌+◌, ◌-◌, ◌<◌, ◌≡◌, List, length, get_or, take}
use Rattle.basics.specs.Core.{ap, ◌∙◌, le_refl, add-sub_cancel_left, arith, length-take-le}
use Rattle.basics.specs.Core.{get_or-take, lt-ltb, le-ltb}
use borrow.Rule.Slice.PartMut.{mid_of, mid_len}
use Rattle.basics.specs.Sums.{sum, sum_ext, sum_join}
use Rattle.basics.specs.Parts.{part_at}
use Rattle.model.specs.Instance.{Instance}
use Rattle.sheets.specs.Marks.{byte_cost, bytes_cost, all_off, byte_at}
use Rattle.sheets.proofs.States.{state_before}

-- The part of a list from place a on.
abbrev pub from : ℕ → List ℕ → List ℕ
from a s = mid_of a (length s - a) s

-- A sheet whose first row has m bytes and whose last row begins at place last.
module _ (s : List ℕ) (m last : ℕ) (all : m + last ≡ length s) where
  pub first_length : length (take m s) ≡ m
  first_length = length-take-le m s (omega arith)

  pub earlier_length : length (take last s) ≡ last
  earlier_length = length-take-le last s (omega arith)

  pub later_length : length (from m s) ≡ last
  later_length = mid_len m (length s) s (le_refl (length s)) ∙ omega arith

  pub last_length : length (from last s) ≡ m
  last_length = mid_len last (length s) s (le_refl (length s)) ∙ omega arith

  pub later_at : (k : ℕ) → k < last → get_or (from m s) k 0 ≡ get_or s (m + k) 0
  later_at k h = part_at m (length s) s k 0 (omega arith)

  pub last_at : (k : ℕ) → k < m → get_or (from last s) k 0 ≡ get_or s (last + k) 0
  last_at k h = part_at last (length s) s k 0 (omega arith)

  module _ (i : Instance) where
    abbrev cost_at : ℕ → ℕ
    cost_at x = byte_cost i (state_before m s x) (get_or s x 0)

    first_cost : bytes_cost i all_off (take m s) ≡ sum m cost_at
    unfolding bytes_cost state_before
    first_cost = rw first_length (sum_ext m (λ k h. rw (get_or-take m s k 0 h, lt-ltb k m h)))

    later_cost : bytes_cost i (byte_at (take last s)) (from m s) ≡ sum last (λ k. cost_at (m + k))
    unfolding bytes_cost state_before
    later_cost =
        rw later_length
        (sum_ext last (λ k h. rw (get_or-take last s k 0 h, later_at k h, le-ltb (m + k) m (omega arith), add-sub_cancel_left m k)))

    pub rows_cost : bytes_cost i all_off (take m s) + bytes_cost i (byte_at (take last s)) (from m s) ≡ bytes_cost i (state_before m s) s
    unfolding bytes_cost
    rows_cost = omega (arith, first_cost, later_cost, sum_join m last cost_at, ap (λ (n : ℕ). sum n cost_at) all)
