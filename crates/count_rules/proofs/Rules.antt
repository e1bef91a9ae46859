-- The rules for a list of allowed counts and its ratio, test by test.
use Rattle.std.specs.Prelude.{ℕ, suc, ◌+◌, ◌-◌, ◌*◌, ◌≤◌, ◌<◌, ◌≡◌, Bool, true, false, ◌&&◌, List, [], ◌∷◌, length, get_or, take, drop, leb, ltb}
use Rattle.std.specs.List.{IsAllAdjacentAnswer}
use Rattle.basics.specs.Core.{sym, ◌∙◌, add-one, get_or-take, le_of_lt, arith, ltb-true, leb-true}
use Rattle.basics.specs.Tests.{and_left, and_right, every, every_at, every_all, every_first, every_fails}
use Rattle.model.specs.CountRules.{gap_after, strictly_ascends, gaps_grow_by, ends_at, ratio_in_range}
use Rattle.count_rules.specs.RuleRequires.{Rising}

-- What the library says of a test of all neighbours in a list: the list ascends if each number is below the next one.
pub neighbours_ascend : (l : List ℕ) (r : Bool) → IsAllAdjacentAnswer (λ x y b. b ≡ ltb x y) l r → r ≡ strictly_ascends l
unfolding strictly_ascends
neighbours_ascend l true each = sym (every_all (length l - 1) _ (λ k b. sym (each k 0 (omega arith))))
neighbours_ascend l false (k, b, fails) = sym (every_fails (length l - 1) _ k (omega arith) (sym (fails 0)))

-- The first three numbers of a list that ascends rise.
rising :
    (l : List ℕ) {r : ℕ} → strictly_ascends l ≡ true → r ≤ 200 → 3 ≤ length l → Rising (get_or l 0 0) (get_or l 1 0) (get_or l 2 0) r
unfolding strictly_ascends
rising l up most long =
    let at : (j : ℕ) → j < length l - 1 → get_or l j 0 < get_or l (j + 1) 0 = λ j b. ltb-true _ _ (every_at (length l - 1) _ up j b) in
    record { first = le_of_lt (at 0 (omega arith)); second = le_of_lt (at 1 (omega arith)); ratio_most = most }

-- A list that ascends still does without its first number.
tail_ascends : (l : List ℕ) → strictly_ascends l ≡ true → strictly_ascends (drop 1 l) ≡ true
unfolding strictly_ascends
tail_ascends [] up = up
tail_ascends (x ∷ xs) up =
    every_all (length xs - 1) (λ j. ltb (get_or xs j 0) (get_or xs (j + 1) 0))
    (λ k b. simp add-one (simp add-one at (every_at (length (x ∷ xs) - 1) _ up (suc k) (omega arith))))

-- The gaps of a list grow if its first two do, and those of the list without its first number.
first_gap :
    (r : ℕ) (l : List ℕ) → 3 ≤ length l →
    gaps_grow_by r l ≡ (leb (get_or l 2 0 - get_or l 1 0) (r * (get_or l 1 0 - get_or l 0 0)) && gaps_grow_by r (drop 1 l))
unfolding gaps_grow_by
first_gap r [] h = absurd (omega arith)
first_gap r (x ∷ xs) h =
    let size : length (x ∷ xs) - 2 ≡ suc (length xs - 2) = omega arith in
    rw size (simp add-one (simp add-one at (every_first (length xs - 2) (λ j. leb (gap_after (x ∷ xs) (j + 1)) (r * gap_after (x ∷ xs) j)))))

-- Of fewer than three numbers no gap has one before it.
pub no_gaps : (r : ℕ) (l : List ℕ) → length l < 3 → gaps_grow_by r l ≡ true
unfolding gaps_grow_by every
no_gaps r l h = let none : length l - 2 ≡ 0 = omega arith in rw none

-- A turn of a loop over windows of three: the window has the first three of what is left of the list, and the next turn has what is left without
-- the first.
module _ (rest : List ℕ) {size : ℕ} {next w : List ℕ} (three : size ≡ 3)
    (step : (size ≤ length rest) × (w ≡ take size rest) × (next ≡ drop 1 rest) × (length w ≡ size)) where
  window_at : (k : ℕ) → k < 3 → get_or w k 0 ≡ get_or rest k 0
  window_at k h = rw (step.1, three) (get_or-take 3 rest k 0 h)

  pub window_rising : {r : ℕ} → strictly_ascends rest ≡ true → r ≤ 200 → Rising (get_or w 0 0) (get_or w 1 0) (get_or w 2 0) r
  window_rising up most =
      rw (window_at 0 (omega arith), window_at 1 (omega arith), window_at 2 (omega arith)) (rising rest up most (omega arith))

  pub next_ascends : strictly_ascends rest ≡ true → strictly_ascends next ≡ true
  next_ascends up = rw step.2 (tail_ascends rest up)

  first_of_window : (r : ℕ) → gaps_grow_by r rest ≡ (leb (get_or w 2 0 - get_or w 1 0) (r * (get_or w 1 0 - get_or w 0 0)) && gaps_grow_by r next)
  first_of_window r =
      rw (window_at 0 (omega arith), window_at 1 (omega arith), window_at 2 (omega arith), step.2) (first_gap r rest (omega arith))

  module _ (r : ℕ) {grows : Bool} (is : grows ≡ leb (get_or w 2 0 - get_or w 1 0) (r * (get_or w 1 0 - get_or w 0 0))) where
    pub gap_wrong : grows ≡ false → false ≡ gaps_grow_by r rest
    gap_wrong above = sym (rw (sym is ∙ above) at (first_of_window r))

    pub gap_right : grows ≡ true → gaps_grow_by r next ≡ gaps_grow_by r rest
    gap_right within = sym (rw (sym is ∙ within) at (first_of_window r))

-- What the rules on the ends and on the ratio say.
pub ends_two : (l : List ℕ) (m : ℕ) → ends_at l m ≡ true → 2 ≤ length l
unfolding ends_at
ends_two l m e = leb-true _ _ (and_left _ _ (and_left _ _ e))

pub ratio_most : (r : ℕ) → ratio_in_range r ≡ true → r ≤ 200
unfolding ratio_in_range
ratio_most r e = leb-true _ _ (and_right (leb 1 r) _ e)
