-- Backward through the slots: the loop.
use Rattle.std.specs.Prelude.{ℕ, suc, ◌+◌, ◌-◌, ◌≤◌, ◌<◌, ◌≡◌, List, length, get_or, set}
use Rattle.basics.specs.Core.{sym, ◌∙◌, arith}
use Rattle.basics.specs.Filling.{Downto, downto_none, downto_more, downto_all}
use Rattle.thresholds.specs.Thresholds.{raised_place, raised_at, in_slot, backward}
use Rattle.thresholds.specs.ThresholdLaws.{raised_inside, raised_step, raised_end}
use Rattle.search.specs.SearchRequires.{BackReady}

-- From slot t on the places after the round are written, and the next one is that of slot t.
pub record BackwardLoop (b : ℕ) (old sides new : List ℕ) (next t : ℕ) : Type 0 where
  pub within : t ≤ length old
  pub written : Downto (raised_at (length old) b (in_slot old) (in_slot sides)) t old new
  follows : next ≡ raised_at (length old) b (in_slot old) (in_slot sides) t

pub backward_starts : (b : ℕ) (old sides : List ℕ) → BackwardLoop b old sides old 0 (length old)
backward_starts b old sides =
    record {
      within = omega arith;
      written = downto_none _ old;
      follows = sym (raised_end (length old) b (in_slot old) (in_slot sides));
    }

module _ {b : ℕ} {old sides new : List ℕ} {next t : ℕ} (f : BackwardLoop b old sides new next t) where
  -- The place and the side that a turn reads.
  module _ {place side x : ℕ} (some : 0 < t) (place_is : place ≡ get_or new (t - 1) 0) (side-is : side ≡ get_or sides (t - 1) 0)
      (x-is : x ≡ raised_place b place side next) where
    place_old : place ≡ in_slot old (t - 1)
    place_old = place_is ∙ f.written.kept (t - 1) (omega arith)

    pub backward_turns : BackwardLoop b old sides (set new (t - 1) x) x (t - 1)
    backward_turns =
        let inside : t - 1 < length old = omega arith in
        let again : suc (t - 1) ≡ t = omega arith in
        let again' : t - 1 + 1 ≡ t = omega arith in
        let step = rw again at (raised_step (length old) b (in_slot old) (in_slot sides) (t - 1) inside) in
        let is : x ≡ raised_at (length old) b (in_slot old) (in_slot sides) (t - 1) = x-is ∙ rw (place_old, side-is, f.follows) (sym step) in
        record { within = omega arith; written = downto_more {new = new} (rw again' f.written) inside is; follows = is }

    -- The new place fits in a byte.
    pub byte_raised : BackReady b old sides → place ≤ 255 → x < 256
    byte_raised r byte =
        rw x-is
        (raised_inside b place side next 256 (omega arith)
        (λ up. omega (arith, place_old, r.inside (t - 1) (omega arith) (rw side-is at up))))

  pub backward_ends : t ≤ 0 → new ≡ backward (length old) b old sides
  unfolding backward
  backward_ends h = let none : t ≡ 0 = omega arith in downto_all (rw none at f.written)
