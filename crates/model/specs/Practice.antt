-- Practice shows from a number (document 02, §1): the generator, and the show that it draws.
use Rattle.std.specs.Prelude.{ℕ, zero, suc, ◌+◌, ◌*◌, ◌/◌, ◌%◌, ◌^◌}
use Rattle.std.specs.Int.Bits.{bit_xor}
use Rattle.model.specs.Instance.{Instance}

-- How many states the generator has: all numbers of 32 bits, as 'a 32-bit start'.
abbrev pub states : ℕ
states = 2 ^ 32

-- What is kept of a number that was shifted left: 'low 32 bits', and 'low 32 bits again'.
abbrev pub low32 : ℕ → ℕ
low32 n = n % states

-- The three steps of a draw: 's xor (s shifted left 13, low 32 bits), then xor right shift 17, then xor left shift 5, low 32 bits again'.
unfoldable pub xor_left : (bits s : ℕ) → ℕ
xor_left bits s = bit_xor s (low32 (s * 2 ^ bits))

unfoldable pub xor_right : (bits s : ℕ) → ℕ
xor_right bits s = bit_xor s (s / 2 ^ bits)

-- One draw from the state s. What it gives 'is the new s'.
unfoldable pub draw : ℕ → ℕ
draw s = xor_left 5 (xor_right 17 (xor_left 13 s))

-- Draw number n of a start, where the first draw has number 1: each works on what the one before it gave, and the first on the start.
unfoldable pub drawn : (start n : ℕ) → ℕ
drawn start zero = start
drawn start (suc n) = draw (drawn start n)

-- The difference F(k + 1) − F(k): 'the first difference draw mod 11, each next one larger by draw mod 4'. The first one is draw 7.
unfoldable pub practice_difference : (start k : ℕ) → ℕ
practice_difference start zero = drawn start 7 % 11
practice_difference start (suc k) = practice_difference start k + drawn start (8 + k) % 4

-- F(k): 'F(0) draw mod 1,001', draw 6, and then its differences.
unfoldable pub practice_entry : (start k : ℕ) → ℕ
practice_entry start zero = drawn start 6 % 1001
practice_entry start (suc k) = practice_entry start k + practice_difference start k

-- The practice show of a start: 'In order: m = 1 + draw mod 200; Q likewise; T = draw mod 65; warm-up, then cool-down, each a draw
-- mod 1,001; F(0) ..; the first difference ..; each load draw mod (m × Q + 1).' Q differences are drawn before the first load.
unfoldable pub practice_show : (start : ℕ) → Instance
practice_show start =
    let m = 1 + drawn start 1 % 200 in
    let q = 1 + drawn start 2 % 200 in
    record {
      modules = m;
      top_step = q;
      slots = drawn start 3 % 65;
      power_up = drawn start 4 % 1001;
      power_down = drawn start 5 % 1001;
      table = practice_entry start;
      load = λ t. drawn start (7 + q + t) % (m * q + 1);
    }

-- The length of the longest practice card, of Q 200 and T 64: 17 + 4 × 201 + 2 × 64.
abbrev pub longest_practice : ℕ
longest_practice = 949
