-- Exclusive or, beyond the toolchain's laws on it, and functions that it passes through.
use Rattle.std.specs.Prelude.{ℕ, zero, suc, ◌+◌, ◌*◌, ◌/◌, ◌%◌, ◌^◌, ◌<◌, ◌≡◌, refl}
use Rattle.basics.specs.Core.{sym, ap, ap₂, ◌∙◌, add-zero, mod-lt, div-add-mod', arith}
use Rattle.std.proofs.Math.Arith.{bin_ind}
use Rattle.std.proofs.Common.{pow_pos}
use Rattle.std.specs.Int.Bits.{bit_xor, differ, xor_step, xor_self, xor_add_and}
use Rattle.std.proofs.lemmas.Nat.{xor_comm, xor_block, xor_mod, xor_shr, xor_lt, and_le_l, and_le_r}

-- Two numbers whose exclusive or is 0 are equal.
pub xor_none : (a b : ℕ) → bit_xor a b ≡ 0 → a ≡ b
xor_none a b e = omega (arith, xor_add_and a b, and_le_l a b, and_le_r a b)

-- Three binary digits differ alike in both groupings.
differ_group : (x y z : ℕ) → x < 2 → y < 2 → z < 2 → differ (differ x y) z ≡ differ x (differ y z)
differ_group zero y z f g h = refl
differ_group (suc zero) zero z f g h = refl
differ_group (suc zero) (suc zero) zero f g h = refl
differ_group (suc zero) (suc zero) (suc zero) f g h = refl
differ_group (suc zero) (suc zero) (suc (suc z)) f g h = absurd (omega arith)
differ_group (suc zero) (suc (suc y)) z f g h = absurd (omega arith)
differ_group (suc (suc x)) y z f g h = absurd (omega arith)

-- Exclusive or of three numbers is the same in both groupings.
xor_assoc : (a b c : ℕ) → bit_xor (bit_xor a b) c ≡ bit_xor a (bit_xor b c)
xor_assoc =
    bin_ind (λ (n : ℕ). (b c : ℕ) → bit_xor (bit_xor n b) c ≡ bit_xor n (bit_xor b c)) (λ b c. refl)
    (λ n below b c.
    let digits = differ_group (n % 2) (b % 2) (c % 2) (mod-lt n (omega arith)) (mod-lt b (omega arith)) (mod-lt c (omega arith)) in
    xor_step (bit_xor n b) c ∙
    ap₂ (λ (x y : ℕ). bit_xor x (c / 2) * 2 + differ y (c % 2)) (halved n b) (last n b) ∙
    ap₂ (λ (x y : ℕ). x * 2 + y) (below (b / 2) (c / 2)) digits ∙
    sym (ap₂ (λ (x y : ℕ). bit_xor (n / 2) x * 2 + differ (n % 2) y) (halved b c) (last b c)) ∙
    sym (xor_step n (bit_xor b c)))
  where
    halved : (a b : ℕ) → bit_xor a b / 2 ≡ bit_xor (a / 2) (b / 2)
    halved a b = xor_shr a b 1

    last : (a b : ℕ) → bit_xor a b % 2 ≡ differ (a % 2) (b % 2)
    last a b = omega (arith, xor_step a b, div-add-mod' (bit_xor a b) 2, halved a b)

-- In an exclusive or of two pairs the middle numbers may change places.
xor_exchange : (a b c d : ℕ) → bit_xor (bit_xor a b) (bit_xor c d) ≡ bit_xor (bit_xor a c) (bit_xor b d)
xor_exchange a b c d =
    xor_assoc a b (bit_xor c d) ∙
    ap (bit_xor a) (sym (xor_assoc b c d) ∙ ap (λ (x : ℕ). bit_xor x d) (xor_comm b c) ∙ xor_assoc c b d) ∙
    sym (xor_assoc a c (bit_xor b d))

-- A function is linear if exclusive or passes through it.
abbrev pub Linear : (ℕ → ℕ) → Type 0
Linear f = (a b : ℕ) → f (bit_xor a b) ≡ bit_xor (f a) (f b)

-- Shifting left within w bits is linear.
left_linear : (k w : ℕ) → Linear (λ x. x * 2 ^ k % 2 ^ w)
left_linear k w a b =
    let shifted = simp add-zero at (xor_block k a b 0 0 (pow_pos k) (pow_pos k)) in
    ap (λ (x : ℕ). x % 2 ^ w) (sym shifted) ∙ xor_mod (a * 2 ^ k) (b * 2 ^ k) w

-- Shifting right is linear.
right_linear : (k : ℕ) → Linear (λ x. x / 2 ^ k)
right_linear k a b = xor_shr a b k

-- A number's exclusive or with a linear function of it is linear.
with_linear : (g : ℕ → ℕ) → Linear g → Linear (λ x. bit_xor x (g x))
with_linear g h a b = ap (bit_xor (bit_xor a b)) (h a b) ∙ xor_exchange a b (g a) (g b)

-- The exclusive or of a number and of its shift is linear in the number.
pub xor_left_linear : (k w : ℕ) → Linear (λ x. bit_xor x (x * 2 ^ k % 2 ^ w))
xor_left_linear k w = with_linear (λ x. x * 2 ^ k % 2 ^ w) (left_linear k w)

pub xor_right_linear : (k : ℕ) → Linear (λ x. bit_xor x (x / 2 ^ k))
xor_right_linear k = with_linear (λ x. x / 2 ^ k) (right_linear k)

-- A linear function that is 0 at 0 alone, among the numbers of w bits, has different values at different ones of them.
pub linear_injective :
    {f : ℕ → ℕ} (w : ℕ) → Linear f → ((x : ℕ) → x < 2 ^ w → f x ≡ 0 → x ≡ 0) →
    (a b : ℕ) → a < 2 ^ w → b < 2 ^ w → f a ≡ f b → a ≡ b
linear_injective {f} w linear none a b ha hb e =
    xor_none a b (none (bit_xor a b) (xor_lt w a b ha hb) (linear a b ∙ ap (bit_xor (f a)) (sym e) ∙ xor_self (f a)))
