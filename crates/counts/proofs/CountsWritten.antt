-- The allowed counts as they are written over a list: all of them, or 0 at the first place, the powers of two after it, and m if it is
-- no power.
use Rattle.std.specs.Prelude.{ℕ, zero, suc, ◌+◌, ◌-◌, ◌^◌, ◌≤◌, ◌<◌, ◌≡◌, List, [], ◌∷◌, ◌++◌, length, get_or, take, drop, set}
use Rattle.basics.specs.Core.{sym, ◌∙◌, ap, append_assoc, add-one, arith}
use Rattle.basics.specs.Core.{length-set, length-append, length-take, length-drop, get_or-append, length-take-le, take-suc-set, drop-set-lt}
use Rattle.basics.specs.Core.{drop-cons, set_at, eq-eqb, ne_eqb}
use borrow.Rule.Slice.PartMut.{put_mid, mid_of, mid_len, Post-is}
use Rattle.basics.specs.Lists.{tabulate, length_tabulate, get_or_tabulate, written_over}
use Rattle.model.specs.Counts.{all_counts, coarse_counts}
use Rattle.counts.specs.AllowedCounts.{CoarseRoom, numbers_below, first_powers, powers_up_to}
use Rattle.counts.proofs.Powers.{zero_and_powers, joined, coarse_known}

-- All counts from 0 to m are written.
pub all_written :
    (m : ℕ) (old : List ℕ) {front : List ℕ} → m + 1 ≤ length old → front ≡ numbers_below (length (take (m + 1) old)) →
    (m + 1 ≡ length (all_counts m)) × (front ++ drop (m + 1) old ≡ written_over (all_counts m) old)
unfolding numbers_below all_counts
all_written m old room filled =
    let size : length (tabulate (m + 1) (λ n. n)) ≡ m + 1 = length_tabulate (m + 1) (λ n. n) in
    (sym size, rw (filled, length-take-le (m + 1) old room, size))

length_zero_and_powers : (p : ℕ) → length (zero_and_powers p) ≡ p + 1
unfolding zero_and_powers first_powers
length_zero_and_powers p = omega (arith, length_tabulate p (λ k. 2 ^ k))

last_power : (p : ℕ) → 1 ≤ p → get_or (zero_and_powers p) p 0 ≡ 2 ^ (p - 1)
unfolding zero_and_powers first_powers
last_power zero h = absurd (omega arith)
last_power (suc q) h =
    let e : suc q - 1 ≡ q = omega arith in
    rw e (get_or_tabulate (suc q) (λ k. 2 ^ k) q 0 (omega arith))

-- The counts from which m's coarse counts are written, where p is the number of powers among them.
module _ (xs : List ℕ) (m : ℕ) (asked : CoarseRoom xs m) {p : ℕ} (p-is : p ≡ powers_up_to m) where
  known : (1 ≤ p) × (p ≤ 8) × (coarse_counts m ≡ joined p m)
  known = let k = coarse_known m asked.some asked.most in rw p-is (k.low, k.high, k.list)

  part_within : p + 1 ≤ length (set xs 0 0)
  part_within = omega (arith, length-set xs 0 0, known.1, asked.room)

  part_length : length (mid_of 1 (p + 1 - 1) (set xs 0 0)) ≡ p
  part_length = mid_len 1 (p + 1) (set xs 0 0) part_within ∙ omega arith

  -- The part of the powers is filled.
  module _ {ys : List ℕ} (filled : ys ≡ first_powers (length (mid_of 1 (p + 1 - 1) (set xs 0 0)))) where
    abbrev after : List ℕ
    after = put_mid 1 (p + 1 - 1) (set xs 0 0) ys

    after_is : after ≡ zero_and_powers p ++ drop (p + 1) xs
    unfolding zero_and_powers
    after_is =
        let some : 0 < length xs = omega (arith, asked.room) in
        rw (
          take-suc-set xs 0 0 some,
          Post-is 1 (p + 1) (set xs 0 0) (omega arith),
          drop-set-lt (p + 1) xs 0 0 (omega arith),
          filled,
          part_length,
        )

    -- The entry that is compared with m is the last power.
    at_last : get_or after p 0 ≡ 2 ^ (p - 1)
    at_last =
        let inside : p < length (zero_and_powers p) = omega (arith, length_zero_and_powers p) in
        ap (λ (l : List ℕ). get_or l p 0) after_is ∙
        get_or-append (zero_and_powers p) (drop (p + 1) xs) 0 p inside ∙
        last_power p known.0

    -- Where m is a power, the list is complete as it stands.
    module _ (equal : get_or after p 0 ≡ m) where
      power_list : coarse_counts m ≡ zero_and_powers p
      unfolding joined
      power_list = known.2 ∙ rw (eq-eqb (2 ^ (p - 1)) m (sym at_last ∙ equal))

      pub power_length : p + 1 ≡ length (coarse_counts m)
      power_length = sym (ap length power_list ∙ length_zero_and_powers p)

      pub power_written : after ≡ written_over (coarse_counts m) xs
      power_written = rw (← power_length, power_list) after_is

    -- Where m is no power, it is joined.
    module _ (other : get_or after p 0 ≡ m → ⊥) where
      other_list : coarse_counts m ≡ zero_and_powers p ++ (m ∷ [])
      unfolding joined
      other_list = known.2 ∙ rw (ne_eqb (2 ^ (p - 1)) m (λ e. other (at_last ∙ e)))

      pub other_length : p + 1 + 1 ≡ length (coarse_counts m)
      other_length =
          let joined = length-append (zero_and_powers p) (m ∷ []) in
          omega (arith, ap length other_list, length_zero_and_powers p)

      pub other_written : set after (p + 1) m ≡ written_over (coarse_counts m) xs
      other_written =
          let inside : p + 1 < length xs = omega (arith, known.1, asked.room) in
          rw (← other_length, other_list, after_is, drop-cons xs (p + 1) 0 inside, add-one (p + 1), append_assoc)
          (set_at (zero_and_powers p) _ _ m (p + 1) (length_zero_and_powers p))

-- What becomes of the counts, of how many they are and of the places in them, once the part of the powers is filled.
pub ruleset filled = (coarse_known, power_length, power_written, other_length, other_written, length-append, length-take, length-drop, length-set)
