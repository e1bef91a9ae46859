-- Laws of decimal numbers: what their digits are, and how many they have.
use Rattle.std.specs.Prelude.{ℕ, zero, suc, ◌*◌, ◌/◌, ◌%◌, ◌^◌, ◌≤◌, ◌<◌, ◌≡◌, Bool, true, false, cond, [], ◌∷◌, ◌++◌, ltb, length}
use Rattle.basics.specs.Core.{⊎_elim, pow-suc, arith}
use Rattle.basics.specs.Core.{length-append, lt-ltb, le-ltb}
use Rattle.basics.specs.Numbers.{le_or_lt}
use Rattle.model.specs.Listing.{digit, digits, decimal}

-- A tenth of a number has a digit less.
tenth : (a n : ℕ) → n < 10 ^ suc a → n / 10 < 10 ^ a
tenth a n h = let small : n < 10 * 10 ^ a = omega (arith, pow-suc 10 a) in omega arith

-- One digit more than are enough changes nothing.
digits_enough : (a n : ℕ) → n < 10 ^ suc a → digits (suc a) n ≡ digits (suc (suc a)) n
unfolding digits
digits_enough zero n h = rw (lt-ltb n 10 h)
digits_enough (suc a) n h = rw (digits_enough a (n / 10) (tenth (suc a) n h))

-- A number below 10 is one digit.
pub decimal_one : (n : ℕ) → n < 10 → decimal n ≡ digit n ∷ []
unfolding decimal digits
decimal_one n h = rw (lt-ltb n 10 h)

-- A number of 10 or more is its tenth and then its last digit.
pub decimal_more : (n : ℕ) → 10 ≤ n → n < 2 ^ 64 → decimal n ≡ decimal (n / 10) ++ (digit (n % 10) ∷ [])
unfolding decimal digits
decimal_more n h top =
    let small : n / 10 < 10 ^ 19 = omega arith in
    rw (le-ltb n 10 h, digits_enough 18 (n / 10) small)

-- A number below 10 to the power a + 1 has at most a + 1 digits, whatever the most that `digits` may give.
digits_most : (a most n : ℕ) → n < 10 ^ suc a → length (digits most n) ≤ suc a
unfolding digits
digits_most a zero n h = omega arith
digits_most zero (suc most) n h = rw (lt-ltb n 10 h) (omega arith)
digits_most (suc a) (suc most) n h = go (ltb n 10) (digits_most a most (n / 10) (tenth (suc a) n h))
  where
    go :
        (one : Bool) → length (digits most (n / 10)) ≤ suc a →
        length (cond one (digit n ∷ []) (digits most (n / 10) ++ (digit (n % 10) ∷ []))) ≤ suc (suc a)
    go true rest = omega arith
    go false rest = simp length-append (omega arith)

-- A number below 10 to the power a + 1 has at most a + 1 digits.
pub decimal_most : (a n : ℕ) → n < 10 ^ suc a → length (decimal n) ≤ suc a
unfolding decimal
decimal_most a = digits_most a 20

digits_some : (most n : ℕ) → 1 ≤ length (digits (suc most) n)
unfolding digits
digits_some most n = go (ltb n 10)
  where
    go : (one : Bool) → 1 ≤ length (cond one (digit n ∷ []) (digits most (n / 10) ++ (digit (n % 10) ∷ [])))
    go true = omega arith
    go false = simp length-append (omega arith)

-- Every number has a digit.
pub decimal_some : (n : ℕ) → 1 ≤ length (decimal n)
unfolding decimal
decimal_some = digits_some 19

digits_rise : (most a b : ℕ) → a ≤ b → length (digits most a) ≤ length (digits most b)
unfolding digits
digits_rise zero a b h = omega arith
digits_rise (suc most) a b h =
    let rest = digits_rise most (a / 10) (b / 10) (omega arith) in
    ⊎_elim
    (λ (more : 10 ≤ a).
    let further : 10 ≤ b = omega arith in
    rw (le-ltb a 10 more, le-ltb b 10 further) (simp length-append (omega arith)))
    (λ (one : a < 10). rw (lt-ltb a 10 one) (digits_some most b))
    (le_or_lt 10 a)

-- A larger number has no fewer digits.
pub decimal_rise : (a b : ℕ) → a ≤ b → length (decimal a) ≤ length (decimal b)
unfolding decimal
decimal_rise = digits_rise 20
