-- The mark, one byte at a time.
use Rattle.std.specs.Prelude.{ℕ, ◌≤◌, ◌≡◌, false, ◌&&◌, List, [], ◌∷◌, length, get_or, eqb}
use Rattle.basics.specs.Core.{◌∙◌, and-true, not-suc-le-zero, arith, eq-eqb, ne_eqb}
use Rattle.basics.specs.Lists.{same_list}
use Rattle.basics.specs.Bytes.{little_one}
use Rattle.model.specs.Instance.{head_length, mark_of, card_mark}
use Rattle.card.specs.Fields.{ReadAt}
use Rattle.card.proofs.FieldsRead.{read_at}

mark_bytes :
    (s : List ℕ) → head_length ≤ length s →
    same_list (mark_of s) card_mark ≡ (eqb (get_or s 0 0) 0x44 && (eqb (get_or s 1 0) 0x4C && eqb (get_or s 2 0) 0x53))
unfolding same_list
mark_bytes [] h = absurd (not-suc-le-zero h)
mark_bytes (a ∷ []) h = absurd (omega arith)
mark_bytes (a ∷ b ∷ []) h = absurd (omega arith)
mark_bytes (a ∷ b ∷ d ∷ s) h = rw (and-true (eqb d 0x53))

module _ (s : List ℕ) (long : head_length ≤ length s) {x p : ℕ} (r : ReadAt s 0 1 x p) where
  first : x ≡ get_or s 0 0
  first = r.number ∙ little_one s 0

  pub mark_first : (x ≡ 0x44 → ⊥) → false ≡ same_list (mark_of s) card_mark
  mark_first n = rw (mark_bytes s long, ← first, ne_eqb x 0x44 n)

  module _ (x-is : x ≡ 0x44) {y q : ℕ} (t : ReadAt s p 1 y q) where
    second : y ≡ get_or s 1 0
    second = read_at t r.position ∙ little_one s 1

    pub mark_second : (y ≡ 0x4C → ⊥) → false ≡ same_list (mark_of s) card_mark
    mark_second n = rw (mark_bytes s long, ← first, eq-eqb x 0x44 x-is, ← second, ne_eqb y 0x4C n)

    module _ (y-is : y ≡ 0x4C) {z w : ℕ} (u : ReadAt s q 1 z w) where
      third : z ≡ get_or s 2 0
      third = read_at u (omega (arith, r.position, t.position)) ∙ little_one s 2

      pub mark_third : eqb z 0x53 ≡ same_list (mark_of s) card_mark
      mark_third = rw (mark_bytes s long, ← first, eq-eqb x 0x44 x-is, ← second, eq-eqb y 0x4C y-is, ← third)
