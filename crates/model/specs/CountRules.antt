-- A list of allowed counts that a customer gives, with its ratio, and the rules for both (document 02, §8).
use Rattle.std.specs.Prelude.{ℕ, ◌+◌, ◌-◌, ◌*◌, Bool, ◌&&◌, List, length, get_or, leb, ltb, eqb}
use Rattle.basics.specs.Tests.{every}

-- The gap after entry j (from 0): how much higher the next entry is. Where it is not higher, the gap is 0.
abbrev pub gap_after : List ℕ → ℕ → ℕ
gap_after l j = get_or l (j + 1) 0 - get_or l j 0

-- 'strictly ascending': each entry is below the next one.
unfoldable pub strictly_ascends : List ℕ → Bool
strictly_ascends l = every (length l - 1) (λ j. ltb (get_or l j 0) (get_or l (j + 1) 0))

-- 'each gap is at most r times the gap before it'.
unfoldable pub gaps_grow_by : (r : ℕ) → List ℕ → Bool
gaps_grow_by r l = every (length l - 2) (λ j. leb (gap_after l (j + 1)) (r * gap_after l j))

-- 'two to 201 entries', of which the list 'begins with 0 and ends with m'.
unfoldable pub ends_at : (counts : List ℕ) (m : ℕ) → Bool
ends_at l m = (leb 2 (length l) && leb (length l) 201) && (eqb (get_or l 0 0) 0 && eqb (get_or l (length l - 1) 0) m)

-- 'a whole number r from 1 to 200'.
unfoldable pub ratio_in_range : ℕ → Bool
ratio_in_range r = leb 1 r && leb r 200

-- A list of allowed counts and a ratio r keep the rules in a rack of m; 'The first entry after 0 is at most r'.
unfoldable pub keeps_rules : (counts : List ℕ) (r m : ℕ) → Bool
keeps_rules l r m = ends_at l m && (strictly_ascends l && (ratio_in_range r && (leb (get_or l 1 0) r && gaps_grow_by r l)))
