-- The generator of practice shows (document 02, §1): no start of 32 bits but 0 ever draws 0, `never_zero`, start 0 draws nothing else,
-- `zero_repeats`, and different starts never draw the same number at the same place, `starts_apart`.
use Rattle.std.specs.Prelude.{ℕ, zero, suc, ◌+◌, ◌*◌, ◌/◌, ◌%◌, ◌^◌, ◌≤◌, ◌<◌, ◌≡◌, refl}
use Rattle.basics.specs.Core.{sym, ap, ◌∙◌, ⊎_elim, mod-lt, mod-eq_of_lt}
use Rattle.basics.specs.Core.{mul-add-mod_self_left, mul-mod_right, div-add-mod', eq-zero-or-pos, arith}
use Rattle.std.proofs.lemmas.Nat.{xor_lt}
use Rattle.basics.specs.ExclusiveOr.{xor_none, xor_left_linear, xor_right_linear, linear_injective}
use Rattle.model.specs.Practice.{states, low32, xor_left, xor_right, draw, drawn}

-- The three steps of a draw keep to 32 bits.
left_below : (k s : ℕ) → s < states → xor_left k s < states
unfolding xor_left
left_below k s h = xor_lt 32 s (low32 (s * 2 ^ k)) h (mod-lt (s * 2 ^ k) (omega arith))

right_below : (s : ℕ) → s < states → xor_right 17 s < states
unfolding xor_right
right_below s h = xor_lt 32 s (s / 2 ^ 17) h (omega arith)

-- A number below m that a multiple of m brings to another multiple is 0.
none_below : (m s a b : ℕ) → s < m → m * a + s ≡ m * b → s ≡ 0
none_below m s a b h e = sym (mod-eq_of_lt h) ∙ sym (mul-add-mod_self_left m a s) ∙ ap (λ (x : ℕ). x % m) e ∙ mul-mod_right m b

-- A step gives 0 for 0 alone. A left shift that leaves s as it is does so any number of times over, and shifts that are by 32 bits or more
-- together leave nothing of the low 32 bits.
left_none :
    (k f c : ℕ) → ((s q : ℕ) → q * states + s ≡ s * 2 ^ k → states * (f * q) + s ≡ states * (c * s)) →
    (s : ℕ) → s < states → xor_left k s ≡ 0 → s ≡ 0
unfolding xor_left
left_none k f c over s h e =
    let q = s * 2 ^ k / states in
    let same : s ≡ low32 (s * 2 ^ k) = xor_none s (low32 (s * 2 ^ k)) e in
    none_below states s (f * q) (c * s) h (over s q (omega (arith, div-add-mod' (s * 2 ^ k) states)))

-- Three shifts by 13, where f is 1 + 2^13 + 2^26.
first_none : (s : ℕ) → s < states → xor_left 13 s ≡ 0 → s ≡ 0
first_none = left_none 13 67117057 (2 ^ 7) (λ s q e. omega arith)

second_none : (s : ℕ) → s < states → xor_right 17 s ≡ 0 → s ≡ 0
unfolding xor_right
second_none s h e = omega (arith, xor_none s (s / 2 ^ 17) e)

-- Seven shifts by 5, where f is 1 + 2^5 + .. + 2^30.
third_none : (s : ℕ) → s < states → xor_left 5 s ≡ 0 → s ≡ 0
third_none = left_none 5 1108378657 (2 ^ 3) (λ s q e. omega arith)

-- A draw is a number of 32 bits.
draw_below : (s : ℕ) → s < states → draw s < states
unfolding draw
draw_below s h = left_below 5 _ (right_below _ (left_below 13 s h))

-- Every draw of a start is a number of 32 bits.
drawn_below : (start n : ℕ) → start < states → drawn start n < states
unfolding drawn
drawn_below start zero h = h
drawn_below start (suc n) h = draw_below (drawn start n) (drawn_below start n h)

-- Start 0 draws 0 for ever.
pub zero_repeats : (n : ℕ) → drawn 0 n ≡ 0
unfolding drawn draw xor_left xor_right
zero_repeats zero = refl
zero_repeats (suc n) = rw (zero_repeats n)

-- Different numbers of 32 bits have different draws, since each step is linear in exclusive or and gives 0 for 0 alone.
draw_apart : (a b : ℕ) → a < states → b < states → draw a ≡ draw b → a ≡ b
unfolding draw xor_left xor_right
draw_apart a b ha hb e =
    let la = left_below 13 a ha in
    let lb = left_below 13 b hb in
    let third = linear_injective 32 (xor_left_linear 5 32) third_none _ _ (right_below _ la) (right_below _ lb) e in
    let second = linear_injective 32 (xor_right_linear 17) second_none _ _ la lb third in
    linear_injective 32 (xor_left_linear 13 32) first_none a b ha hb second

-- Different starts are never in one state after the same number of draws.
pub starts_apart : (a b n : ℕ) → a < states → b < states → drawn a n ≡ drawn b n → a ≡ b
unfolding drawn
starts_apart a b zero ha hb e = e
starts_apart a b (suc n) ha hb e =
    starts_apart a b n ha hb (draw_apart _ _ (drawn_below a n ha) (drawn_below b n hb) e)

-- No start of 32 bits but 0 ever draws 0, since start 0 always does.
pub never_zero : (start n : ℕ) → 1 ≤ start → start < states → 1 ≤ drawn start n
never_zero start n some h =
    ⊎_elim
    (λ (none : drawn start n ≡ 0).
    let start-zero = starts_apart start 0 n h (omega arith) (none ∙ sym (zero_repeats n)) in
    absurd (omega arith))
    (λ (pos : 0 < drawn start n). pos)
    (eq-zero-or-pos (drawn start n))
