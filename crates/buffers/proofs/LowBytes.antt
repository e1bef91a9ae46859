-- The bytes of a number as the library's `to_le_bytes` has them.
use Rattle.std.specs.Prelude.{ℕ, zero, suc, ◌/◌, ◌%◌, ◌^◌, ◌≤◌, ◌≡◌, refl, take}
use Rattle.std.specs.Int.{byte_at, bytes_low_first}
use Rattle.basics.specs.Core.{sym, arith, div-one, pow-zero, pow-suc, div-div-eq-div-mul}
use Rattle.basics.specs.Bytes.{bytes_of}

-- Byte i of a number is the lowest one of what is left of it above the bytes before.
byte_is : (i n : ℕ) → byte_at i n ≡ n / 256 ^ i % 256
byte_is zero n = rw (pow-zero, div-one)
byte_is (suc i) n = refl

-- The first w of the k bytes from byte i upward are the w bytes of what is left above the bytes before.
low_bytes : (i k w n : ℕ) → w ≤ k → take w (bytes_low_first i k n) ≡ bytes_of w (n / 256 ^ i)
unfolding bytes_of
low_bytes i k zero n h = refl
low_bytes i zero (suc w) n h = absurd (omega arith)
low_bytes i (suc k) (suc w) n h =
    let rest : n / 256 ^ suc i ≡ n / 256 ^ i / 256 = rw pow-suc (sym (div-div-eq-div-mul n (256 ^ i) 256)) in
    rw (byte_is i n, low_bytes (suc i) k w n (omega arith), rest)

-- The first w of the bytes that `to_le_bytes` gives are the number's w lowest ones.
pub low_first : (w n : ℕ) → w ≤ 4 → take w (bytes_low_first 0 4 n) ≡ bytes_of w n
low_first w n h = rw (pow-zero, div-one) at (low_bytes 0 4 w n h)
