-- What a verdict says of a level when its lead is only near the right one. Numbers only: x is the least plan's place in a slot, next its
-- place in the slot after, and the level is between the places j and j + 1.
use Rattle.std.specs.Prelude.{ℕ, ◌+◌, ◌≤◌, ◌<◌}
use Rattle.basics.specs.Core.{⊎_elim, arith}
use Rattle.basics.specs.Numbers.{le_or_lt}
use Rattle.thresholds.specs.Thresholds.{Verdict, weighed}
use Rattle.thresholds.specs.ThresholdLaws.{less_one, less_zero, less_most}

-- A lead that errs on the plan's own side of the level: it is at most the right one if the plan is above, and at least that if it is below.
pub record Near (j x lead own : ℕ) : Type 0 where
  pub above : j < x → lead ≤ own
  pub below : x ≤ j → own ≤ lead

-- What the two places cost, where `own` is the right lead, by the sides of the level on which the plan is in a slot and in the next.
pub record Sides (j x next w upper lower own : ℕ) : Type 0 where
  pub both : j < x → j < next → own + upper < lower + w
  pub falls : j < x → next ≤ j → own + upper < lower
  pub rises : x ≤ j → j < next → lower + w ≤ own + upper
  pub none : x ≤ j → next ≤ j → lower ≤ own + upper

-- The side that is found, with the next slot's, tells on which side of the level the plan is.
pub record Tells (j x next side : ℕ) : Type 0 where
  pub both : j < x → j < next → 1 ≤ side
  pub falls : j < x → next ≤ j → 2 ≤ side
  pub rises : x ≤ j → j < next → side ≤ 0
  pub none : x ≤ j → next ≤ j → side ≤ 1

-- A slot's verdict by the lead, where `own` is the right one: near leads stay near and tell the side, and a slot whose side is known gives
-- a near lead too.
pub record Judged (j x next w own : ℕ) (verdict : ℕ → Verdict) : Type 0 where
  pub near : (lead : ℕ) → Near j x lead own → Near j next (verdict lead).lead (verdict own).lead
  pub tells : (lead : ℕ) → Near j x lead own → Tells j x next (verdict lead).side
  pub from_above : j < x → Near j next 0 (verdict own).lead
  pub from_below : x ≤ j → Near j next w (verdict own).lead

-- Where what the two places cost decides the side, the verdict that weighs them is right about the plan.
pub judged_weighed :
    (j x next w upper lower own : ℕ) → Sides j x next w upper lower own →
    Judged j x next w own (λ lead. weighed w (lead + upper) lower)
judged_weighed j x next w upper lower own sides =
    record {
      near = λ lead here.
          ⊎_elim
          (λ (low : x ≤ j).
          record {
            above = λ up. omega (arith, here.below low, sides.rises low up);
            below = λ down. omega (arith, here.below low, sides.none low down);
          })
          (λ (high : j < x).
          record {
            above = λ up. omega (arith, here.above high, sides.both high up);
            below = λ down. omega (arith, here.above high, sides.falls high down);
          })
          (le_or_lt x j);
      tells = λ lead here.
          let cost = lead + upper in
          record {
            both = λ high up. omega (arith, less_one cost (lower + w) (omega (arith, here.above high, sides.both high up)));
            falls = λ high down.
                let less : cost < lower = omega (arith, here.above high, sides.falls high down) in
                omega (arith, less_one cost lower less, less_one cost (lower + w) (omega arith));
            rises = λ low up.
                let more : lower + w ≤ cost = omega (arith, here.below low, sides.rises low up) in
                omega (arith, less_zero cost lower (omega arith), less_zero cost (lower + w) more);
            none = λ low down.
                let more : lower ≤ cost = omega (arith, here.below low, sides.none low down) in
                omega (arith, less_zero cost lower more, less_most cost (lower + w));
          };
      from_above = λ high. record { above = λ up. omega arith; below = λ down. omega (arith, sides.falls high down) };
      from_below = λ low. record { above = λ up. omega (arith, sides.rises low up); below = λ down. omega arith };
    }

-- Where the plan must be above the level, the verdict that says so is right.
pub judged_forced : (j x next w own : ℕ) → j < x → Judged j x next w own (λ lead. record { lead = 0; side = 2 })
judged_forced j x next w own high = omega arith
