-- A sheet that is cut into rows one after the other: each cut is the row of its slot.
use Rattle.std.specs.Prelude.{ℕ, ◌+◌, ◌-◌, ◌*◌, ◌/◌, ◌^◌, ◌≤◌, ◌<◌, ◌≡◌, List, ◌++◌, length, drop}
use Rattle.std.proofs.Math.Nat.{lt_of_mul-lt-mul_left, div-le_self}
use Rattle.std.proofs.Math.Seq.{take-append_seam, drop-append_seam}
use Rattle.basics.specs.Core.{ap, sym, ◌∙◌, arith, length-append, length-drop, drop-drop, add-sub_cancel_left, zero-mul}
use borrow.Rule.Slice.PartMut.{mid_of}
use Rattle.laws.specs.Acceptance.{accepted_bounds}
use Rattle.card.specs.declared.Card.{Card}
use Rattle.sheets.specs.SheetRequires.{RowShort, SheetSized}
use Rattle.sheets.proofs.SheetBytes.{area_small}

-- The rows of a sheet from slot t on are left, to be cut to rows of `size` bytes.
pub record RowsLeft (card : Card) (sheet : List ℕ) (size t : ℕ) (rest : List ℕ) : Type 0 where
  pub size_is : size ≡ card.header.modules
  pub rest_is : rest ≡ drop (t * card.header.modules) sheet

-- The row of slot t was cut off, and the rows of the slots after it are left.
pub record RowCut (card : Card) (size t : ℕ) (sheet row after : List ℕ) : Type 0 where
  pub below : t < card.header.slots
  pub short : RowShort row
  pub row_is : row ≡ mid_of (t * card.header.modules) (t * card.header.modules + card.header.modules - t * card.header.modules) sheet
  pub later : RowsLeft card sheet size (t + 1) after

module _ {card : Card} {sheet : List ℕ} (given : SheetSized card sheet) where
  pub has_modules : 0 < card.header.modules
  has_modules = omega (arith, card.header_is.modules_is, (accepted_bounds _ card.accepted).modules.0)

  pub rows_few : 0 + length sheet / card.header.modules < 2 ^ 64
  rows_few = omega (arith, div-le_self (length sheet) card.header.modules, given.size, area_small card)

  area : length sheet ≡ card.header.modules * card.header.slots
  area = rw (card.header_is.modules_is, card.header_is.slots_is) given.size

  pub rows_at_start : {size t : ℕ} {rest : List ℕ} → size ≡ card.header.modules → t ≡ 0 → rest ≡ sheet → RowsLeft card sheet size t rest
  rows_at_start s e r = record { size_is = s; rest_is = rw (e, zero-mul card.header.modules) r }

  module _ {size t : ℕ} {rest : List ℕ} (left : RowsLeft card sheet size t rest) where
    pub row_cut :
        {n k : ℕ} {after row : List ℕ} → n ≡ size → (rest ≡ row ++ after) × (length row ≡ size) → k ≡ t → RowCut card n k sheet row after
    row_cut {n} {k} {after} {row} n-is (cut, whole) k-is =
        let m = card.header.modules in
        let long : length row ≡ m = whole ∙ left.size_is in
        let from : drop (k * m) sheet ≡ row ++ after = rw k-is (sym left.rest_is ∙ cut) in
        let end : (k + 1) * m ≡ k * m + m = omega arith in
        let sizes = ap (λ (l : List ℕ). length l) from in
        record {
          below = lt_of_mul-lt-mul_left m (omega (arith, area, has_modules, sizes, length-append row after, length-drop (k * m) sheet));
          short = record { short = omega (arith, long, card.header_is.modules_is, (accepted_bounds _ card.accepted).modules.1) };
          row_is = rw (add-sub_cancel_left (k * m) m, from, ← long) (sym (take-append_seam row after));
          later =
              record {
                size_is = n-is ∙ left.size_is;
                rest_is = rw (end, ← drop-drop m (k * m) sheet, from, ← long) (sym (drop-append_seam row after));
              };
        }

    -- Where no whole row is left, every slot had its row.
    pub rows_done : length rest < size → card.header.slots ≤ t
    rows_done few =
        let n = card.header.modules in
        let h : card.header.slots < t + 1 =
        lt_of_mul-lt-mul_left n
        (omega (arith, area, left.size_is, ap (λ (l : List ℕ). length l) left.rest_is, length-drop (t * n) sheet))
        in
        omega arith
