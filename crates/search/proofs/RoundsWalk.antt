-- The rounds: the loop over the digits, what it hands to the two walks, and that the places stay in the list.
use Rattle.std.specs.Prelude.{ℕ, zero, suc, ◌+◌, ◌-◌, ◌^◌, ◌≤◌, ◌<◌, ◌≡◌, refl, List, length}
use Rattle.basics.specs.Core.{ap, ◌∙◌, le_of_lt, arith}
use lib.Pow.{pow_mono, pow_pos}
use Rattle.model.specs.Instance.{Instance}
use Rattle.card.specs.Shows.{show_of}
use Rattle.thresholds.specs.Thresholds.{side_at, in_slot, forward, backward, round, rounds}
use Rattle.thresholds.specs.ThresholdLaws.{side_most, side_inside, raised_inside, raised_step, forward_entry, backward_entry}
use Rattle.search.specs.declared.allowed.Allowed.{Allowed}
use Rattle.search.specs.SearchRequires.{Width, BackReady, RoundsReady}
use Rattle.search.proofs.LevelPrices.{few_places}

-- A power of two up to 128 is a width.
power_width : (e : ℕ) → e < 8 → Width (2 ^ e)
power_width e h =
    record { some = pow_pos e; most = omega (arith, pow_mono {i = e} {j = 7} (omega arith)) }

module _ (i : Instance) (counts : List ℕ) (b : ℕ) (some : 1 ≤ b) (plan : List ℕ) where
  -- A slot whose place may be raised has a place above it in the list.
  side_room : (t : ℕ) → t < i.slots → 1 ≤ in_slot (forward i counts 0 b plan) t → in_slot plan t + b < length counts
  unfolding side_at
  side_room t h up = omega (arith, side_inside i counts _ _ _ (rw (forward_entry i counts 0 b plan t h) at up))

  -- Each side is 0, 1 or 2.
  side_small : (t : ℕ) → t < i.slots → in_slot (forward i counts 0 b plan) t ≤ 2
  unfolding side_at
  side_small t h = rw (forward_entry i counts 0 b plan t h) (side_most i counts _ _ _)

  -- After a round each place is one of the list.
  round_inside :
      ((t : ℕ) → t < i.slots → in_slot plan t < length counts) →
      (t : ℕ) → t < i.slots → in_slot (round i counts 0 b plan) t < length counts
  round_inside inside t h =
      let sides = forward i counts 0 b plan in
      rw (backward_entry i.slots b plan sides t (le_of_lt h), raised_step i.slots b (in_slot plan) (in_slot sides) t h)
      (raised_inside b (in_slot plan t) (in_slot sides t) _ (length counts) (inside t h) (side_room t h))

-- After all rounds each place is one of the list.
pub rounds_inside :
    (i : Instance) (counts : List ℕ) (e : ℕ) (plan : List ℕ) → ((t : ℕ) → t < i.slots → in_slot plan t < length counts) →
    (t : ℕ) → t < i.slots → in_slot (rounds i counts 0 e plan) t < length counts
unfolding rounds
rounds_inside i counts zero plan inside = inside
rounds_inside i counts (suc e) plan inside =
    rounds_inside i counts e (round i counts 0 (2 ^ e) plan)
    (round_inside i counts (2 ^ e) (pow_pos e) plan inside)

-- With e rounds left, these make of the plan so far what all rounds make of the first one.
pub record RoundsLoop (i : Instance) (counts : List ℕ) (digits : ℕ) (plan₀ sides₀ plan sides : List ℕ) (e : ℕ) : Type 0 where
  pub within : e ≤ digits
  pub plan_kept : length plan ≡ length plan₀
  pub sides_kept : length sides ≡ length sides₀
  pub rest : rounds i counts 0 e plan ≡ rounds i counts 0 digits plan₀

module _ {allowed : Allowed} {digits : ℕ} {plan₀ sides₀ plan sides : List ℕ} {e : ℕ}
    (p : RoundsReady allowed digits plan₀ sides₀) (f : RoundsLoop (show_of allowed.card.now) allowed.counts.now digits plan₀ sides₀ plan sides e)
    (left : 0 < e) {b : ℕ} (b-is : b ≡ 2 ^ (e - 1)) where
  abbrev show : Instance
  show = show_of allowed.card.now

  abbrev counts : List ℕ
  counts = allowed.counts.now

  width : Width b
  width = rw b-is (power_width (e - 1) (omega (arith, p.few, f.within)))

  module _ {found : List ℕ} (found-is : found ≡ forward show counts 0 b plan) where
    pub backward_ready : length found ≡ length sides → BackReady b plan found
    backward_ready kept =
        record {
          width = width;
          size = omega (arith, f.plan_kept, p.slots.plan_size, f.sides_kept, p.slots.sides_size);
          inside = λ t inside up.
              let room = side_room show counts b width.some plan t (omega (arith, f.plan_kept, p.slots.plan_size)) (rw found-is at up) in
              omega (arith, few_places allowed);
          sides_most = λ t inside.
              rw found-is (side_small show counts b width.some plan t (omega (arith, f.plan_kept, p.slots.plan_size)));
        }

    pub rounds_turn :
        {new : List ℕ} → new ≡ backward (length plan) b plan found → length new ≡ length plan → length found ≡ length sides →
        RoundsLoop show counts digits plan₀ sides₀ new found (e - 1)
    unfolding rounds
    rounds_turn {new} New-is kept kept' =
        let last : e ≡ suc (e - 1) = omega arith in
        let size : length plan ≡ show.slots = f.plan_kept ∙ p.slots.plan_size in
        let one : new ≡ round show counts 0 (2 ^ (e - 1)) plan =
        New-is ∙ ap (λ (n : ℕ). backward n b plan found) size ∙ rw (found-is, b-is) refl in
        record {
          within = omega (arith, f.within);
          plan_kept = kept ∙ f.plan_kept;
          sides_kept = kept' ∙ f.sides_kept;
          rest = ap (rounds show counts 0 (e - 1)) one ∙ (rw last at f.rest);
        }

pub rounds_end :
    {i : Instance} {counts : List ℕ} {digits : ℕ} {plan₀ sides₀ plan sides : List ℕ} {e : ℕ} →
    RoundsLoop i counts digits plan₀ sides₀ plan sides e → e ≤ 0 → plan ≡ rounds i counts 0 digits plan₀
unfolding rounds
rounds_end {e = e} f done = let none : e ≡ 0 = omega arith in rw none at f.rest
