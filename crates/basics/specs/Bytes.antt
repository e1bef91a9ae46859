-- Little-endian numbers of any width: read from a list of bytes, `little_endian`, and written, `bytes_of`. The laws hold for every width; a number
-- that fits its bytes is read back from them, `little_bytes`.
use Rattle.std.specs.Prelude.{ℕ, zero, suc, ◌+◌, ◌*◌, ◌/◌, ◌%◌, ◌^◌, ◌≤◌, ◌<◌, ◌≡◌, refl, List, [], ◌∷◌, ◌++◌, length, get_or, take, drop}
use Rattle.basics.specs.Core.{◌∙◌, zero-add, one-mul, suc-add}
use Rattle.basics.specs.Core.{pow-zero, pow-suc, add-zero, add_assoc, mul_comm, div-one, div-add-mod, div-lt_iff_lt-mul, div-div-eq-div-mul}
use Rattle.basics.specs.Core.{arith, get_or-take, get_or-drop, get_or-append-add}

-- The number in the w bytes of s from place p on, least byte first.
unfoldable pub little_endian : ℕ → List ℕ → ℕ → ℕ
little_endian zero s p = 0
little_endian (suc w) s p = get_or s p 0 + 256 * little_endian w s (p + 1)

-- A number of one byte is that byte.
pub little_one : (s : List ℕ) (p : ℕ) → little_endian 1 s p ≡ get_or s p 0
unfolding little_endian
little_one s p = omega arith

-- A number of v + w bytes is one of v bytes and then one of w.
pub little_join : (v w : ℕ) (s : List ℕ) (p : ℕ) → little_endian (v + w) s p ≡ little_endian v s p + 256 ^ v * little_endian w s (p + v)
unfolding little_endian
little_join zero w s p = simp (zero-add, pow-zero, one-mul, add-zero)
little_join (suc v) w s p =
    let e = little_join v w s (p + 1) in
    let at : p + suc v ≡ p + 1 + v = omega arith in
    rw (suc-add v w, e, at, pow-suc) (omega arith)

-- A number within the first n bytes is one of those bytes alone.
pub little_take : (w n : ℕ) (s : List ℕ) (p : ℕ) → p + w ≤ n → little_endian w (take n s) p ≡ little_endian w s p
unfolding little_endian
little_take zero n s p h = refl
little_take (suc w) n s p h =
    let here : p < n = omega arith in
    rw (get_or-take n s p 0 here, little_take w n s (p + 1) (omega arith))

-- A number of w bytes is told by these bytes alone.
pub little_same :
    (w : ℕ) (s r : List ℕ) (p q : ℕ) → ((j : ℕ) → j < w → get_or s (p + j) 0 ≡ get_or r (q + j) 0) → little_endian w s p ≡ little_endian w r q
unfolding little_endian
little_same zero s r p q same = refl
little_same (suc w) s r p q same =
    let first = same 0 (omega arith) in
    let next : (j : ℕ) → j < w → get_or s (p + 1 + j) 0 ≡ get_or r (q + 1 + j) 0 =
    λ j h.
    let left : p + 1 + j ≡ p + suc j = omega arith in
    let right : q + 1 + j ≡ q + suc j = omega arith in
    rw (left, right) (same (suc j) (omega arith)) in
    omega (arith, rw (add-zero p, add-zero q) at first, little_same w s r (p + 1) (q + 1) next)

-- A number behind the first n bytes is one of what follows them.
pub little_drop : (w n : ℕ) (s : List ℕ) (p : ℕ) → little_endian w (drop n s) p ≡ little_endian w s (n + p)
little_drop w n s p = little_same w (drop n s) s p (n + p) (λ j h. rw (add_assoc n p j) (get_or-drop n s (p + j) 0))

-- A number behind the front of a list is a number of the rest.
pub little_after :
    (w : ℕ) (front rest : List ℕ) {p : ℕ} (q : ℕ) → p ≡ length front + q → little_endian w (front ++ rest) p ≡ little_endian w rest q
little_after w front rest {p} q place =
    little_same w (front ++ rest) rest p q (λ j h. rw (place, add_assoc (length front) q j) (get_or-append-add front rest (q + j) 0))

-- A number as w bytes, least byte first.
unfoldable pub bytes_of : ℕ → ℕ → List ℕ
bytes_of zero n = []
bytes_of (suc w) n = (n % 256) ∷ bytes_of w (n / 256)

pub length_bytes : (w n : ℕ) → length (bytes_of w n) ≡ w
unfolding bytes_of
length_bytes zero n = refl
length_bytes (suc w) n = omega (arith, length_bytes w (n / 256))

-- The bytes of a number are its v lowest ones, and then those of what is left of it.
pub bytes_join : (v w n : ℕ) → bytes_of (v + w) n ≡ bytes_of v n ++ bytes_of w (n / 256 ^ v)
unfolding bytes_of
bytes_join zero w n = rw (zero-add w, pow-zero, div-one n)
bytes_join (suc v) w n =
    let rest : n / 256 / 256 ^ v ≡ n / 256 ^ suc v = div-div-eq-div-mul n 256 (256 ^ v) ∙ rw (pow-suc, mul_comm 256 (256 ^ v)) in
    rw (suc-add v w, bytes_join v w (n / 256), rest)

-- A number that fits w bytes is read back from them.
pub little_bytes : (w n : ℕ) → n < 256 ^ w → little_endian w (bytes_of w n) 0 ≡ n
unfolding little_endian bytes_of
little_bytes zero n h = omega arith
little_bytes (suc w) n h =
    let below : n / 256 < 256 ^ w = (div-lt_iff_lt-mul {k = 256} (omega arith)).1 (omega arith) in
    let rest = little_same w (n % 256 ∷ bytes_of w (n / 256)) (bytes_of w (n / 256)) 1 0 (λ j b. tail j) in
    omega (arith, rest, little_bytes w (n / 256) below, div-add-mod n 256)
  where
    tail : (j : ℕ) → get_or (n % 256 ∷ bytes_of w (n / 256)) (1 + j) 0 ≡ get_or (bytes_of w (n / 256)) (0 + j) 0
    tail j =
        let place : 1 + j ≡ suc j = omega arith in
        rw (place, zero-add j)
