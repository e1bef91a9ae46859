-- Taking a number of some bytes, from the highest byte down.
use Rattle.std.specs.Prelude.{ℕ, suc, refl, ◌+◌, ◌-◌, ◌*◌, ◌^◌, ◌≤◌, ◌<◌, ◌≡◌, List, get_or}
use Rattle.basics.specs.Core.{sym, ◌∙◌, ap, mul-le-mul_left, add-zero, sub-zero, sub_self, pow-suc, pow-le-pow_right, arith}
use lib.Pow.{pow-add}
use mir.Syntax.{w8}
use mir.Val.{Fits}
use Rattle.basics.specs.Bytes.{little_endian, little_join}
use Rattle.card.specs.Fields.{ReadAt}

-- The bytes from the k-th on of a number of w bytes at place p are taken.
pub record Taken (s : List ℕ) (p w k value : ℕ) : Type 0 where
  pub number : value ≡ little_endian (w - k) s (p + k)
  pub bound : value < 256 ^ (w - k)

-- Two numbers of w bytes one after the other are one of w + w bytes.
pub read_join : (w : ℕ) {s : List ℕ} {p q z x y : ℕ} → ReadAt s p w x q → ReadAt s q w y z → ReadAt s p (w + w) (x + 256 ^ w * y) z
read_join w {s} {p} {q} {z} {x} {y} a b =
    record {
      number =
          let e : little_endian w s (p + w) ≡ y = ap (little_endian w s) (sym a.position) ∙ sym b.number in
          rw (little_join w w s p, e, a.number);
      bound = rw (pow-add 256 w w) (omega (arith, mul-le-mul_left (256 ^ w) b.bound));
      position = omega arith;
    }

-- The number that was read at a place is the number there by another name of the place.
pub read_at : {s : List ℕ} {p w x q r : ℕ} → ReadAt s p w x q → p ≡ r → x ≡ little_endian w s r
read_at {s} {p} {w} a e = a.number ∙ ap (little_endian w s) e

pub taken_none : (s : List ℕ) (p w : ℕ) → Taken s p w w 0
unfolding little_endian
taken_none s p w = record { number = rw (sub_self w) refl; bound = rw (sub_self w) (omega arith) }

-- The byte before is taken too.
pub taken_more : {s : List ℕ} {p w k value byte : ℕ} → Taken s p w (k + 1) value → k < w → byte ≡ get_or s (p + k) 0 → byte < 256 → Taken s p w k (256 * value + byte)
unfolding little_endian
taken_more {s} {p} {w} {k} {value} {byte} t below is small =
    let more : w - k ≡ suc (w - (k + 1)) = omega arith in
    let place : p + (k + 1) ≡ p + k + 1 = omega arith in
    record {
      number = rw (more, is, t.number, place) (omega arith);
      bound = rw (more, pow-suc) (omega (arith, t.bound));
    }

-- A number of at most eight bytes fits 64 bits.
pub taken_fits : {s : List ℕ} {p w k value : ℕ} → Taken s p w (k + 1) value → k < w → w ≤ 8 → (byte : ℕ) → byte < 256 → 256 * value + byte < 256 ^ 8
taken_fits {s} {p} {w} {k} {value} t below narrow byte small =
    let most : 256 ^ (w - (k + 1)) ≤ 256 ^ 7 = pow-le-pow_right {n = 256} (omega arith) {i = w - (k + 1)} {j = 7} (omega arith) in
    omega (arith, t.bound, most)

pub taken_read : {s : List ℕ} {p w value next : ℕ} → Taken s p w 0 value → next ≡ p + w → ReadAt s p w value next
taken_read {s} {p} {w} t is = record { number = rw (add-zero p, sub-zero w) at t.number; bound = rw (sub-zero w) at t.bound; position = is }

-- A byte is below 256.
pub byte_small : (s : List ℕ) (i : ℕ) {x : ℕ} → ((j : ℕ) → Fits w8 (get_or s j 0)) → x ≡ get_or s i 0 → x < 256
byte_small s i bytes is = omega (arith, bytes i)
