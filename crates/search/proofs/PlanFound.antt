-- The places found become counts, and these are the plan by thresholds.
use Rattle.std.specs.Prelude.{ℕ, ◌≤◌, ◌≡◌, refl, List, ◌++◌, length, take, drop, replicate}
use Rattle.basics.specs.Core.{ap, ◌∙◌, arith, length-take-le}
use Rattle.basics.specs.Core.{length-append, length-drop, length-replicate}
use Rattle.basics.specs.Lists.{tabulate, zeros_at}
use Rattle.model.specs.Instance.{Instance}
use Rattle.card.specs.Shows.{show_of}
use Rattle.counts.specs.AllowedCounts.{powers_up_to}
use Rattle.counts.proofs.Powers.{digits_known}
use Rattle.thresholds.specs.Places.{count_at_place, last_place}
use Rattle.thresholds.specs.Thresholds.{in_slot, rounds, threshold_plan}
use Rattle.search.specs.declared.allowed.Allowed.{Allowed}
use Rattle.search.specs.Written.{counts_at}
use Rattle.search.specs.SearchRequires.{Placed, RoundsReady, Searchable}
use Rattle.search.proofs.LevelPrices.{few_places, count_most}
use Rattle.search.proofs.RoundsWalk.{rounds_inside}

-- A list whose first n entries were written and that was then cleared is as long as it was.
pub cleared_whole :
    {n : ℕ} (part work : List ℕ) {cleared : List ℕ} → n ≤ length work → length part ≡ length (take n work) →
    cleared ≡ replicate (length (part ++ drop n work)) 0 → cleared ≡ replicate (length work) 0
cleared_whole {n} part work within size e =
    let whole : length (part ++ drop n work) ≡ length work =
    omega (arith, length-append part (drop n work), length-take-le n work within, length-drop n work) in
    rw whole at e

module _ {allowed : Allowed} {plan work : List ℕ} (p : Searchable allowed plan work) where
  abbrev show : Instance
  show = show_of allowed.card.now

  abbrev counts : List ℕ
  counts = allowed.counts.now

  -- The search has at most eight rounds.
  few_digits : powers_up_to (last_place counts) ≤ 8
  few_digits = (digits_known (last_place counts) (omega (arith, few_places allowed))).1

  module _ {digits : ℕ} {zeros : List ℕ} (digits-is : digits ≡ powers_up_to (last_place counts)) (zeros-are : zeros ≡ replicate (length plan) 0) where
    pub rounds_ready : {sides : List ℕ} → length sides ≡ length plan → RoundsReady allowed digits zeros sides
    rounds_ready size =
        record {
          slots =
              record {
                plan_size = ap length zeros-are ∙ length-replicate (length plan) 0 ∙ p.plan_size;
                sides_size = size ∙ p.plan_size;
              };
          few = rw digits-is few_digits;
        }

    -- The places found are as many as there are slots.
    module _ {places : List ℕ} (places-are : places ≡ rounds show counts 0 digits zeros) (kept : length places ≡ length zeros) where
      size : length places ≡ show.slots
      size = kept ∙ ap length zeros-are ∙ length-replicate (length plan) 0 ∙ p.plan_size

      pub places_found : Placed counts places
      places_found =
          record {
            inside = λ t h.
                rw places-are
                (rounds_inside show counts digits zeros
                (λ u _. rw (zeros-are, zeros_at (length plan) u) (omega (arith, allowed.ascending.two))) t (omega (arith, size)));
            bytes = λ j. omega (arith, count_most allowed j);
          }

      pub plan_found :
          {made : List ℕ} → made ≡ counts_at counts places →
          made ≡ threshold_plan show counts 0 (powers_up_to (last_place counts))
      unfolding counts_at threshold_plan
      plan_found made-is =
          let zeros-slots : zeros ≡ replicate show.slots 0 = zeros-are ∙ ap (λ (n : ℕ). replicate n 0) p.plan_size in
          let same : places ≡ rounds show counts 0 (powers_up_to (last_place counts)) (replicate show.slots 0) =
          places-are ∙ rw (digits-is, zeros-slots) refl in
          made-is ∙ ap (λ (n : ℕ). tabulate n (λ t. count_at_place counts (in_slot places t))) size ∙
          ap (λ (l : List ℕ). tabulate show.slots (λ t. count_at_place counts (in_slot l t))) same
