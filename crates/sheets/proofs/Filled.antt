-- A sheet buffer of which the first t slots are filled.
use Rattle.std.specs.Prelude.{ℕ, ◌+◌, ◌-◌, ◌*◌, ◌≤◌, ◌<◌, ◌≡◌, List, ◌++◌, length, get_or, drop}
use Rattle.basics.specs.Core.{ap, ◌∙◌, mul-le-mul_left, zero-mul, arith}
use borrow.Rule.Slice.PartMut.{mid_of, put_mid}
use Rattle.basics.specs.Lists.{tabulate, rows, written_over, length_rows}
use Rattle.basics.specs.Parts.{part_length}
use Rattle.basics.specs.Rows.{row_within, rows_size, next_row_lem}
use Rattle.model.specs.Instance.{Instance}
use Rattle.model.specs.Specs.{sheet_bytes}
use Rattle.model.specs.Plans.{module_byte, slot_row, sheet_of}
use Rattle.laws.specs.Operating.{slot_row_length}

-- The row of slot t by a plan.
abbrev plan_row : Instance → List ℕ → ℕ → List ℕ
plan_row i p t = slot_row i (get_or p t 0) (i.load t)

-- The rows of the first t slots are the plan's, and the rest is as it was.
pub record Filled (i : Instance) (p old : List ℕ) (t : ℕ) (new : List ℕ) : Type 0 where
  pub within : t ≤ i.slots
  pub so_far : new ≡ rows t (plan_row i p) ++ drop (t * i.modules) old

pub filled_none : (i : Instance) (p old : List ℕ) → Filled i p old 0 old
unfolding rows
filled_none i p old = record { within = omega arith; so_far = rw (zero-mul i.modules) }

module _ {i : Instance} {p old l : List ℕ} {t : ℕ} (given : Filled i p old t l) (room : sheet_bytes i ≤ length old) where
  pub filled_size : length l ≡ length old
  filled_size =
      let rows_fit = mul-le-mul_left i.modules given.within in
      ap length given.so_far ∙ rows_size i.modules (plan_row i p) (λ t. slot_row_length i _ _) t old (omega arith)

  pub filled_room : sheet_bytes i ≤ length l
  filled_room = omega (arith, filled_size)

  -- One slot more is filled, where what the loop has at hand is the slot's.
  pub filled_more :
      {m n load : ℕ} {row : List ℕ} → t < i.slots → m ≡ i.modules → n ≡ get_or p t 0 → load ≡ i.load t →
      row ≡ tabulate (length (mid_of (t * m) (t * m + m - t * m) l)) (module_byte i n load) →
      Filled i p old (t + 1) (put_mid (t * m) (t * m + m - t * m) l row)
  unfolding slot_row
  filled_more {m} {n} {load} {row} h m-is n-is load_is filled =
      let start : t * m ≡ t * i.modules = rw m-is in
      let width : t * m + m - t * m ≡ i.modules = omega arith in
      record {
        within = omega arith;
        so_far = rw whole (next_row_lem i.modules (plan_row i p) (λ t. slot_row_length i _ _) t old start width given.so_far);
      }
    where
      long : t * m + m ≤ length l
      long = rw m-is (omega (arith, filled_size, row_within i.modules h room))

      whole : row ≡ plan_row i p t
      whole = filled ∙ rw (part_length (t * m) m l long, m-is, n-is, load_is)

  pub filled_all : i.slots ≤ t → l ≡ written_over (sheet_of i p) old
  unfolding sheet_of
  filled_all h =
      let same : t ≡ i.slots = omega arith in
      let count = length_rows i.modules i.slots (plan_row i p) (λ t. slot_row_length i _ _) in
      rw count (rw same at given.so_far)
