-- Each round of the search digit by digit halves the places in which the searched plan is known to be, until one is left in each slot:
-- `rounds_found`.
use Rattle.std.specs.Prelude.{ℕ, zero, suc, ◌+◌, ◌-◌, ◌^◌, ◌≤◌, ◌<◌, ◌≡◌, List, length, replicate}
use Rattle.basics.specs.Core.{sym, ap, ◌∙◌, ⊎_elim, pow-zero, two-pow-succ, arith}
use Rattle.std.proofs.Common.{pow_pos}
use Rattle.basics.specs.Numbers.{le_or_lt}
use Rattle.basics.specs.Backwards.{back_end}
use Rattle.basics.specs.Lists.{zeros_at}
use Rattle.model.specs.Instance.{Instance}
use Rattle.thresholds.specs.Places.{last_place, Ascending}
use Rattle.thresholds.specs.Thresholds.{level_price, judge, carried, level_at, lead_before, side_at, raised_at, in_slot, forward, round, rounds}
use Rattle.thresholds.specs.ThresholdLaws.{side_beyond, forward_entry, backward_entry, carried_same, carried_above, carried_below, raised_step, raised_end}
use Rattle.laws.specs.Tables.{Convex}
use Rattle.theory.specs.Hypotheses.{LoadsFit}
use Rattle.theory.specs.Columns.{selection, place_in}
use Rattle.theory.specs.NearLeads.{Near, Tells, Judged}
use Rattle.theory.specs.ConvexColumns.{slope, place_inside, first_slope, next_slope, judged_at}
use Rattle.theory.specs.Halves.{Apart, equal, lower, higher, first, Digit, halves_apart, raised_digit}

module _ (i : Instance) (counts : List ℕ) (start : ℕ) where
  -- The searched plan's place in a slot.
  abbrev place : ℕ → ℕ
  place = place_in i counts start

  -- A plan so far with the width h: the searched plan's place is one of the h places from `plan t` on, and those of neighbouring slots are
  -- the same or do not meet. The slot after the last counts too.
  record Within (h : ℕ) (plan : ℕ → ℕ) : Type 0 where
    low : (t : ℕ) → t ≤ i.slots → plan t ≤ place t
    high : (t : ℕ) → t ≤ i.slots → place t < plan t + h
    apart : (t : ℕ) → t < i.slots → Apart h (plan t) (plan (suc t))

  -- The sides of all slots in a round with the width b tell on which side of its level the searched plan is.
  abbrev AllTell : (b : ℕ) → (plan sides : ℕ → ℕ) → Type 0
  AllTell b plan sides = (t : ℕ) → t < i.slots → Tells (level_at b plan t) (place t) (place (suc t)) (sides t)

  -- Backward through the slots, by sides that tell.
  module _ (b : ℕ) (plan sides : ℕ → ℕ) (some : 1 ≤ b) (within : Within (b + b) plan) (tells : AllTell b plan sides) where
    -- The place in a slot after the round.
    abbrev raised : ℕ → ℕ
    raised = raised_at i.slots b plan sides

    -- In the slot that is d before the end, the place after the round begins the half that the searched plan's place is in.
    raised_digits : (d t : ℕ) → t + d ≡ i.slots → Digit b (plan t) (place t) (raised t)
    raised_digits zero t e =
        let last : t ≡ i.slots = omega arith in
        let new = ap raised last ∙ raised_end i.slots b plan sides in
        let old = ap place last ∙ back_end i.slots (selection i counts start) in
        record { low = omega arith; high = omega arith; half = first (omega (arith, within.low t (omega arith))) }
    raised_digits (suc d) t e =
        let h : t < i.slots = omega arith in
        rw (raised_step i.slots b plan sides t h)
        (raised_digit b (plan t) (plan (suc t)) (place t) (place (suc t)) (sides t) (raised (suc t)) some (within.apart t h) (tells t h)
        (raised_digits d (suc t) (omega arith)) (within.low t (omega arith)) (within.high t (omega arith)))

    -- In each slot the place after the round begins the half that the searched plan's place is in.
    raised_digit_at : (t : ℕ) → t ≤ i.slots → Digit b (plan t) (place t) (raised t)
    raised_digit_at t h = raised_digits (i.slots - t) t (omega arith)

    -- The places after the round are a plan with half the width.
    raised_within : Within b raised
    raised_within =
        record {
          low = λ t h. (raised_digit_at t h).low;
          high = λ t h. (raised_digit_at t h).high;
          apart = λ t h.
              halves_apart b (plan t) (plan (suc t)) (raised t) (raised (suc t)) (within.apart t h)
              (raised_digit_at t (omega arith)).half (raised_digit_at (suc t) h).half;
        }

  -- Plans that are equal slot by slot have the same width.
  within_same : (h : ℕ) (p q : ℕ → ℕ) → ((t : ℕ) → t ≤ i.slots → q t ≡ p t) → Within h p → Within h q
  within_same h p q same within =
      record {
        low = λ t g. rw (same t g) (within.low t g);
        high = λ t g. rw (same t g) (within.high t g);
        apart = λ t g. rw (same t (omega arith), same (suc t) g) (within.apart t g);
      }

  module _ (asc : Ascending counts i.modules) (loads : LoadsFit i)
      (convex : Convex i.top_step i.table) where
    module _ (b : ℕ) (plan : ℕ → ℕ) (some : 1 ≤ b) (within : Within (b + b) plan) where
      -- A lead that is near before a slot is carried over to one that is near before the next, by the plan so far in the two.
      module _ (t lead : ℕ) (h : t < i.slots) (inside : level_at b plan (suc t) + 1 < length counts) where
        -- The level of the next slot.
        abbrev j : ℕ
        j = level_at b plan (suc t)

        right : Judged j (place t) (place (suc t)) (level_price i counts j) (slope i counts start t j) (judge i counts j (i.load t))
        right = judged_at i counts start asc loads convex t j h inside

        carried_near :
            (level_at b plan t + 1 < length counts → Near (level_at b plan t) (place t) lead (slope i counts start t (level_at b plan t))) →
            Apart (b + b) (plan t) (plan (suc t)) →
            Near j (place (suc t))
            (carried (level_price i counts j) (plan t) (plan (suc t)) (judge i counts (level_at b plan t) (i.load t) lead).lead)
            (slope i counts start (suc t) j)
        carried_near near (equal e) =
            let own = (judge i counts (level_at b plan t) (i.load t) lead).lead in
            rw (carried_same (level_price i counts j) (plan t) (plan (suc t)) own (sym e), e, next_slope i counts start asc loads convex t j h inside)
            (right.near lead (rw e at near inside))
        carried_near near (lower g) =
            let own = (judge i counts (level_at b plan t) (i.load t) lead).lead in
            rw (carried_below (level_price i counts j) (plan t) (plan (suc t)) own (omega arith), next_slope i counts start asc loads convex t j h inside)
            (right.from_below (omega (arith, within.high t (omega arith))))
        carried_near near (higher g) =
            let own = (judge i counts (level_at b plan t) (i.load t) lead).lead in
            rw (carried_above (level_price i counts j) (plan t) (plan (suc t)) own (omega arith), next_slope i counts start asc loads convex t j h inside)
            (right.from_above (omega (arith, within.low t (omega arith))))

      -- The lead before each slot is near, if its level is inside the list.
      lead_near :
          (t : ℕ) → t < i.slots → level_at b plan t + 1 < length counts →
          Near (level_at b plan t) (place t) (lead_before i counts start b plan t) (slope i counts start t (level_at b plan t))
      unfolding lead_before
      lead_near zero h inside = omega (arith, first_slope i counts start asc (level_at b plan 0) inside)
      lead_near (suc t) h inside =
          let earlier : t < i.slots = omega arith in
          carried_near t (lead_before i counts start b plan t) earlier inside (lead_near t earlier) (within.apart t earlier)

      -- The sides that are found tell on which side of its level the searched plan is.
      side_tells : AllTell b plan (side_at i counts start b plan)
      unfolding side_at
      side_tells t h =
          let j = level_at b plan t in
          let lead = lead_before i counts start b plan t in
          ⊎_elim
          (λ (beyond : length counts ≤ j + 1).
          omega (arith, side_beyond i counts j (i.load t) lead beyond, place_inside i counts start asc loads t (omega arith)))
          (λ (inside : j + 1 < length counts). (judged_at i counts start asc loads convex t j h inside).tells lead (lead_near t h inside))
          (le_or_lt (length counts) (j + 1))

    -- A round halves the width.
    round_within :
        (b : ℕ) (plan : List ℕ) → 1 ≤ b → Within (b + b) (in_slot plan) → Within b (in_slot (round i counts start b plan))
    round_within b plan some within =
        let sides = in_slot (forward i counts start b plan) in
        let tells : AllTell b (in_slot plan) sides = λ t h. rw (forward_entry i counts start b plan t h) (side_tells b (in_slot plan) some within t h) in
        within_same b (raised_at i.slots b (in_slot plan) sides) (in_slot (round i counts start b plan))
        (backward_entry i.slots b plan (forward i counts start b plan)) (raised_within b (in_slot plan) sides some within tells)

    -- The rounds with the widths 2 ^ (e - 1), .., 2, 1 leave one place for each slot.
    rounds_within : (e : ℕ) (plan : List ℕ) → Within (2 ^ e) (in_slot plan) → Within 1 (in_slot (rounds i counts start e plan))
    unfolding rounds
    rounds_within zero plan within = rw (pow-zero 2) at within
    rounds_within (suc e) plan within =
        rounds_within e (round i counts start (2 ^ e) plan) (round_within (2 ^ e) plan (pow_pos e) (rw (two-pow-succ e) at within))

    -- If the list has at most 2 ^ e places, the plan that is 0 in every slot has that width.
    all_within : (e : ℕ) → last_place counts < 2 ^ e → Within (2 ^ e) (in_slot (replicate i.slots 0))
    all_within e wide =
        record {
          low = λ t h. omega (arith, zeros_at i.slots t);
          high = λ t h. omega (arith, zeros_at i.slots t, place_inside i counts start asc loads t h);
          apart = λ t h. equal (zeros_at i.slots t ∙ sym (zeros_at i.slots (suc t)));
        }

    -- If the list has at most 2 ^ e places, e rounds find the searched plan's place in each slot, and in the one after the last.
    pub rounds_found :
        (e : ℕ) → last_place counts < 2 ^ e → (t : ℕ) → t ≤ i.slots →
        in_slot (rounds i counts start e (replicate i.slots 0)) t ≡ place_in i counts start t
    rounds_found e wide t h =
        let one = rounds_within e (replicate i.slots 0) (all_within e wide) in
        omega (arith, one.low t h, one.high t h)
