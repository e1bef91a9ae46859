-- The loop that draws and writes the loads of a practice show.
use Rattle.std.specs.Prelude.{ℕ, suc, ◌+◌, ◌*◌, ◌%◌, ◌≤◌, ◌<◌, ◌≡◌, refl}
use Rattle.basics.specs.Core.{ap, ◌∙◌, add-zero, mul-le-mul, arith}
use Rattle.basics.specs.Bytes.{bytes_of}
use Rattle.buffers.specs.declared.Writer.{Writer}
use Rattle.buffers.specs.Writers.{Fits, Wrote, RowsWrote, wrote_none, row_fits, wrote_row}
use Rattle.model.specs.Instance.{load_bytes}
use Rattle.model.specs.Practice.{draw, drawn, practice_show}
use Rattle.laws.specs.PracticeAccepted.{practice_sizes}
use Rattle.practice.specs.declared.draws.FirstDraws.{FirstDraws}
use Rattle.practice.specs.Drawing.{LoadsRoom}

-- Loads so far: those of the first t slots are written.
pub record LoadsSoFar (first : FirstDraws) (bound : ℕ) (old : Writer) (t : ℕ) (new : Writer) (state : ℕ) : Type 0 where
  pub bound_is : bound ≡ first.fields.modules * first.fields.top_step + 1
  pub written : RowsWrote (λ j. bytes_of 2 ((practice_show first.start).load j)) (practice_show first.start).slots old t new
  pub state_is : state ≡ drawn first.start (6 + first.fields.top_step + t)

-- m × Q is a small number.
pub full_range : (first : FirstDraws) → first.fields.modules * first.fields.top_step ≤ 40000
full_range first =
    let (_, most, _, top, _) = practice_sizes first.start in
    rw (first.fields_are.modules_is, first.fields_are.top_is) (mul-le-mul most top)

-- Before the first turn nothing is written.
pub loads_start :
    {first : FirstDraws} {state : ℕ} {w : Writer} → LoadsRoom first state w →
    LoadsSoFar first (first.fields.modules * first.fields.top_step + 1) w 0 w state
loads_start {first} room =
    record {
      bound_is = refl;
      written = wrote_none _ _ room.behind.room;
      state_is = rw (add-zero (6 + first.fields.top_step)) room.state_is;
    }

-- Drawn is the next state.
module _
    {first : FirstDraws} {bound t : ℕ} {old new : Writer} {state s : ℕ} (so : LoadsSoFar first bound old t new state)
    (drew : s ≡ draw state) where
  next_state : s ≡ drawn first.start (7 + first.fields.top_step + t)
  unfolding drawn
  next_state =
      let one_more : 7 + first.fields.top_step + t ≡ suc (6 + first.fields.top_step + t) = omega arith in
      rw one_more (drew ∙ ap draw so.state_is)

  load_is : s % bound ≡ (practice_show first.start).load t
  unfolding practice_show
  load_is = rw (next_state, so.bound_is, first.fields_are.modules_is, first.fields_are.top_is)

  -- There is room for the load that is drawn.
  pub load_room : Fits (load_bytes (practice_show first.start)) old → t < first.fields.slots → Fits (bytes_of 2 (s % bound)) new
  load_room room b = rw load_is (row_fits room so.written (omega (arith, first.fields_are.slots_is)))

  -- One more load is written.
  pub loads_turn :
      {newer : Writer} → t < first.fields.slots → Wrote (bytes_of 2 (s % bound)) new newer →
      LoadsSoFar first bound old (t + 1) newer s
  loads_turn b wrote =
      record {
        bound_is = so.bound_is;
        written = wrote_row so.written (omega (arith, first.fields_are.slots_is)) (rw load_is at wrote);
        state_is = let at : 6 + first.fields.top_step + (t + 1) ≡ 7 + first.fields.top_step + t = omega arith in rw at next_state;
      }
