-- The loop that draws and writes the table of a practice show.
use Rattle.std.specs.Prelude.{ℕ, zero, suc, ◌+◌, ◌%◌, ◌≤◌, ◌<◌, ◌≡◌, refl}
use Rattle.basics.specs.Core.{ap, ◌∙◌, add-one, arith}
use Rattle.basics.specs.Bytes.{bytes_of}
use Rattle.buffers.specs.declared.Writer.{Writer}
use Rattle.buffers.specs.Writers.{Fits, Wrote, RowsWrote, wrote_none, row_fits, wrote_row, wrote_rows}
use Rattle.model.specs.Instance.{table_bytes}
use Rattle.model.specs.Practice.{draw, drawn, practice_difference, practice_entry, practice_show}
use Rattle.laws.specs.PracticeAccepted.{practice_sizes, difference_most, entry_most}
use Rattle.practice.specs.declared.draws.FirstDraws.{FirstDraws}
use Rattle.practice.specs.Drawing.{DrawnRoom, SmallDifference, next_difference}

module _ (start : ℕ) where
  -- The difference that led to F(k), 0 for F(0).
  unfoldable pub difference_to : ℕ → ℕ
  difference_to zero = 0
  difference_to (suc k) = practice_difference start k

  -- The difference drawn after it is the one from F(k) to F(k + 1).
  next_is : (k d s : ℕ) → d ≡ difference_to k → s ≡ drawn start (7 + k) → next_difference k d s ≡ practice_difference start k
  unfolding difference_to next_difference practice_difference
  next_is zero d s e f = ap (λ (x : ℕ). x % 11) f
  next_is (suc k) d s e f =
      let place : 7 + suc k ≡ 8 + k = omega arith in
      rw (e, f, place)

-- A table so far: the first k entries are written, and entry k is drawn.
pub record TableSoFar (first : FirstDraws) (old : Writer) (k : ℕ) (new : Writer) (state difference entry : ℕ) : Type 0 where
  pub written : RowsWrote (λ j. bytes_of 4 ((practice_show first.start).table j)) ((practice_show first.start).top_step + 1) old k new
  pub below : k ≤ first.fields.top_step
  pub state_is : state ≡ drawn first.start (6 + k)
  pub difference_is : difference ≡ difference_to first.start k
  pub entry_is : entry ≡ (practice_show first.start).table k

-- Before the first turn nothing is written, and F(0) is drawn.
pub table_starts :
    {first : FirstDraws} {w : Writer} → DrawnRoom table_bytes first w → TableSoFar first w 0 w first.state 0 first.first_entry
unfolding practice_show difference_to
table_starts {first} room =
    record {
      written = wrote_none _ _ room.room;
      below = omega arith;
      state_is = first.state_is;
      difference_is = refl;
      entry_is = first.first_is;
    }

module _
    {first : FirstDraws} {k : ℕ} {old new : Writer} {state difference entry : ℕ} (so : TableSoFar first old k new state difference entry) where
  top : first.fields.top_step ≤ 200
  top = let (_, _, _, most, _) = practice_sizes first.start in omega (arith, first.fields_are.top_is)

  -- There is room for the entry that is drawn.
  pub entry_room : DrawnRoom table_bytes first old → Fits (bytes_of 4 entry) new
  entry_room room = rw so.entry_is (row_fits room.room so.written (omega (arith, first.fields_are.top_is)))

  -- The difference that led to the entry is small.
  pub difference_small : SmallDifference difference
  unfolding difference_to
  difference_small = record { most = go k so.below so.difference_is }
    where
      go : (j : ℕ) → j ≤ first.fields.top_step → difference ≡ difference_to first.start j → difference ≤ 1000
      go zero b e = omega arith
      go (suc j) b e = omega (arith, top, difference_most first.start j)

  -- Drawn are the next state and the next difference.
  module _ {s d : ℕ} (drew : s ≡ draw state) (next : d ≡ next_difference k difference s) where
    next_state : s ≡ drawn first.start (7 + k)
    unfolding drawn
    next_state = let one_more : 7 + k ≡ suc (6 + k) = omega arith in rw one_more (drew ∙ ap draw so.state_is)

    next_drawn : d ≡ practice_difference first.start k
    next_drawn = next ∙ next_is first.start k difference s so.difference_is next_state

    next_entry : entry + d ≡ practice_entry first.start (suc k)
    unfolding practice_show practice_entry
    next_entry = omega (arith, so.entry_is, next_drawn)

    -- The next entry is small.
    pub next_small : k < first.fields.top_step → entry + d ≤ 123000
    next_small b = omega (arith, next_entry, top, entry_most first.start (suc k) (omega (arith, top)))

    -- One more entry is written, and the next one drawn.
    pub table_turns :
        {newer : Writer} → k < first.fields.top_step → Wrote (bytes_of 4 entry) new newer →
        TableSoFar first old (k + 1) newer s d (entry + d)
    unfolding difference_to practice_show
    table_turns b wrote =
        record {
          written = wrote_row so.written (omega (arith, first.fields_are.top_is)) (rw so.entry_is at wrote);
          below = omega arith;
          state_is = let at : 6 + (k + 1) ≡ 7 + k = omega arith in rw at next_state;
          difference_is = rw (add-one k) next_drawn;
          entry_is = rw (add-one k) next_entry;
        }

  -- With the last entry the table is written.
  pub table_ends :
      {newer : Writer} → first.fields.top_step ≤ k → Wrote (bytes_of 4 entry) new newer →
      Wrote (table_bytes (practice_show first.start)) old newer
  table_ends b wrote =
      wrote_rows (wrote_row so.written (omega (arith, first.fields_are.top_is)) (rw so.entry_is at wrote)) (omega (arith, first.fields_are.top_is))
