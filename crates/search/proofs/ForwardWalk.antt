-- Forward through the slots: the loop, and what it hands to each slot.
use Rattle.std.specs.Prelude.{ℕ, ◌+◌, ◌-◌, ◌≤◌, ◌<◌, ◌≡◌, refl, List, length, set}
use Rattle.basics.specs.Core.{sym, ap, ◌∙◌, ⊎_elim, mul-le-mul_left, le_trans, add-one, arith}
use Rattle.basics.specs.Numbers.{le_or_lt}
use Rattle.basics.specs.Lists.{tabulate}
use Rattle.basics.specs.Filling.{Upto, upto_none, upto_more, upto_all}
use Rattle.model.specs.Instance.{Instance}
use Rattle.model.specs.Thesis.{switching_price}
use Rattle.card.specs.Shows.{show_of}
use Rattle.thresholds.specs.Places.{count_at_place}
use Rattle.thresholds.specs.Thresholds.{Verdict, level_price, judge, first_lead, carried, level_at, lead_before, side_at, in_slot, forward}
use Rattle.thresholds.specs.ThresholdLaws.{lead_most, carried_same, carried_below, carried_most}
use Rattle.search.specs.declared.allowed.Allowed.{Allowed}
use Rattle.search.specs.SearchRequires.{RoundReady, most_lead}
use Rattle.search.proofs.LevelPrices.{level_most}

-- From start count 0 the lead before the first slot is the whole price of the level.
first_lead_lem : (i : Instance) (counts : List ℕ) (j : ℕ) → first_lead i counts 0 j ≡ level_price i counts j
unfolding first_lead
first_lead_lem i counts j =
    let less : count_at_place counts (j + 1) - count_at_place counts j ≤ count_at_place counts (j + 1) - 0 = omega arith in
    omega (arith, mul-le-mul_left (switching_price i) less)

-- Before slot t the sides of the slots before it are written, and the lead that is carried on is the one before slot t.
pub record ForwardLoop (i : Instance) (counts : List ℕ) (b : ℕ) (plan old sides : List ℕ) (before lead t : ℕ) : Type 0 where
  pub written : Upto (side_at i counts 0 b (in_slot plan)) t old sides
  carries :
      carried (level_price i counts (level_at b (in_slot plan) t)) before (in_slot plan t) lead ≡
      lead_before i counts 0 b (in_slot plan) t
  pub small : lead ≤ most_lead

module _ {allowed : Allowed} {b : ℕ} {plan old : List ℕ} (r : RoundReady allowed b plan old) where
  abbrev show : Instance
  show = show_of allowed.card.now

  abbrev counts : List ℕ
  counts = allowed.counts.now

  -- Before the first slot the place is 0, which has the level of the reach.
  pub forward_starts : {lead : ℕ} → lead ≡ level_price show counts (b - 1) → ForwardLoop show counts b plan old old 0 lead 0
  unfolding lead_before
  forward_starts {lead} e =
      record {
        written = upto_none _ old;
        carries = ⊎_elim at_zero above_zero (le_or_lt (in_slot plan 0) 0) ∙ sym (first_lead_lem show counts _);
        small = rw e (level_most allowed (b - 1));
      }
    where
      level : ℕ
      level = in_slot plan 0 + b - 1

      price : ℕ
      price = level_price show counts level

      at_zero : in_slot plan 0 ≤ 0 → carried price 0 (in_slot plan 0) lead ≡ price
      at_zero g =
          let same : level ≡ b - 1 = omega arith in
          carried_same price 0 (in_slot plan 0) lead (omega arith) ∙ rw same e

      above_zero : 0 < in_slot plan 0 → carried price 0 (in_slot plan 0) lead ≡ price
      above_zero g = carried_below price 0 (in_slot plan 0) lead g

  module _ {sides : List ℕ} {before lead t : ℕ} (f : ForwardLoop show counts b plan old sides before lead t) where
    -- The level of slot t, its price, and the lead that is carried on to it.
    module _ {x w place level : ℕ} (place_is : place ≡ in_slot plan t) (level-is : level ≡ place + (b - 1))
        (w-is : w ≡ level_price show counts level) (x-is : x ≡ carried w before place lead) where
      lead_before_lem : x ≡ lead_before show counts 0 b (in_slot plan) t
      lead_before_lem =
          let same : level ≡ in_slot plan t + b - 1 = omega arith in
          x-is ∙ rw (w-is, same, place_is) f.carries

      pub carried_small : x ≤ most_lead
      carried_small = rw x-is (carried_most w before place lead most_lead f.small (rw w-is (level_most allowed level)))

      pub forward_turns :
          {v : Verdict} {l : ℕ} → l ≡ show.load t → v ≡ judge show counts level l x → t < length old →
          ForwardLoop show counts b plan old (set sides t v.side) place v.lead (t + 1)
      unfolding lead_before side_at
      forward_turns {v} {l} l-is v-is inside =
          let same : level ≡ in_slot plan t + b - 1 = omega arith in
          let found :
          v ≡ judge show counts (in_slot plan t + b - 1) (show.load t) (lead_before show counts 0 b (in_slot plan) t) =
          v-is ∙ rw (same, l-is, lead_before_lem) refl in
          record {
            written = upto_more f.written inside (ap (λ (y : Verdict). y.side) found);
            carries = rw (add-one t, ap (λ (y : Verdict). y.lead) found, place_is) refl;
            small = rw v-is (le_trans (lead_most show counts level l x) (level_most allowed level));
          }

    pub forward_ends : length plan ≤ t → sides ≡ forward show counts 0 b plan
    unfolding forward
    forward_ends past =
        upto_all f.written (omega (arith, r.slots.plan_size, r.slots.sides_size)) ∙
        ap (λ (n : ℕ). tabulate n (side_at show counts 0 b (in_slot plan))) r.slots.sides_size
