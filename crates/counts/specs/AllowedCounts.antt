-- The lists of allowed counts as they are written to memory, and what writing them asks for.
use Rattle.std.specs.Prelude.{ℕ, ◌+◌, ◌-◌, ◌^◌, ◌≤◌, ◌<◌, List, length}
use Rattle.std.specs.Int.Count.{count_leading_zeros}
use Rattle.basics.specs.Lists.{tabulate}

-- There is room for all counts from 0 to m.
pub record AllRoom (counts : List ℕ) (m : ℕ) : Type 0 where
  pub room : m + 1 ≤ length counts

-- A rack has from 1 to 200 modules, and there is room for all its coarse counts: 0, at most eight powers of two, and m.
pub record CoarseRoom (counts : List ℕ) (m : ℕ) : Type 0 where
  pub some : 1 ≤ m
  pub most : m ≤ 200
  pub room : 10 ≤ length counts

-- A power of two that the table of powers has.
pub record PowerListed (k : ℕ) : Type 0 where
  pub listed : k < 8

-- A count of a rack that has from 1 to 200 modules.
pub record RackCount (count modules : ℕ) : Type 0 where
  pub some : 1 ≤ modules
  pub most : modules ≤ 200
  pub in_rack : count ≤ modules

-- The numbers 0, 1, .., n - 1.
unfoldable pub numbers_below : ℕ → List ℕ
numbers_below n = tabulate n (λ k. k)

-- The first p powers of two: 1, 2, 4 and so on.
unfoldable pub first_powers : ℕ → List ℕ
first_powers p = tabulate p (λ k. 2 ^ k)

-- How many powers of two are at most n, for n below 2 to the 64: the number of n's binary digits.
abbrev pub powers_up_to : ℕ → ℕ
powers_up_to n = 64 - count_leading_zeros 64 n
