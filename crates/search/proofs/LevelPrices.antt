-- Levels of an accepted card's list of allowed counts, and what they cost.
use Rattle.std.specs.Prelude.{ℕ, ◌+◌, ◌-◌, ◌*◌, ◌≤◌, ◌<◌, ◌≡◌, true, false, List, length}
use Rattle.basics.specs.Core.{ap, ⊎_elim, mul-le-mul, mul-le-mul_right, sub-le}
use Rattle.basics.specs.Core.{le_trans, le_of_lt, arith, get_or-eq_default, le-leb, lt-leb}
use Rattle.basics.specs.Numbers.{le_or_lt}
use Rattle.card.specs.Shows.{show_of}
use Rattle.model.specs.Counts.{can_serve}
use Rattle.model.specs.Thesis.{switching_price}
use Rattle.laws.specs.Acceptance.{accepted_bounds}
use Rattle.card.specs.declared.Card.{Card}
use Rattle.counts.specs.Serving.{Served}
use Rattle.thresholds.specs.Places.{count_at_place, count_fits, length_fits}
use Rattle.thresholds.specs.Thresholds.{level_price}
use Rattle.search.specs.declared.allowed.Allowed.{Allowed}
use Rattle.search.specs.SearchRequires.{most_lead}

module _ (allowed : Allowed) where
  abbrev card : Card
  card = allowed.card.now

  abbrev counts : List ℕ
  counts = allowed.counts.now

  pub few_places : length counts ≤ 201
  few_places = omega (arith, length_fits allowed.ascending, (accepted_bounds _ card.accepted).modules)

  pub price_most : card.header.power_up + card.header.power_down ≤ 1000000000
  price_most = omega (arith, (accepted_bounds _ card.accepted).power_up, (accepted_bounds _ card.accepted).power_down)

  price_is : card.header.power_up + card.header.power_down ≡ switching_price (show_of card)
  price_is = omega arith

  -- No count exceeds the rack.
  in_rack : (j : ℕ) → count_at_place counts j ≤ (show_of card).modules
  in_rack j =
      ⊎_elim
      (λ (g : length counts ≤ j). omega (arith, get_or-eq_default counts 0 g))
      (count_fits allowed.ascending j)
      (le_or_lt (length counts) j)

  pub count_most : (j : ℕ) → count_at_place counts j ≤ 200
  count_most j = omega (arith, in_rack j, (accepted_bounds _ card.accepted).modules.1)

  light_is : (j : ℕ) → count_at_place counts j * card.header.top_step ≡ count_at_place counts j * (show_of card).top_step
  light_is j = ap (λ (q : ℕ). count_at_place counts j * q) card.header_is.top_is

  -- What the test on a place's count and the load says.
  module _ {l : ℕ} (j : ℕ) where
    pub cannot_serve : count_at_place counts j * card.header.top_step < l → can_serve (show_of card) (count_at_place counts j) l ≡ false
    unfolding can_serve
    cannot_serve less = lt-leb l (count_at_place counts j * (show_of card).top_step) (omega (arith, light_is j))

    module _ (enough : l ≤ count_at_place counts j * card.header.top_step) where
      enough_light : l ≤ count_at_place counts j * (show_of card).top_step
      enough_light = omega (arith, light_is j)

      pub can_serve_lem : can_serve (show_of card) (count_at_place counts j) l ≡ true
      unfolding can_serve
      can_serve_lem = le-leb l (count_at_place counts j * (show_of card).top_step) enough_light

      pub served_at_lem : Served card (count_at_place counts j) l
      served_at_lem = record { in_rack = in_rack j; serves = enough_light }

      -- What the place below a level can serve, the place above it can.
      pub served_above : j + 1 < length counts → Served card (count_at_place counts (j + 1)) l
      served_above inside =
          let more = mul-le-mul_right (show_of card).top_step (le_of_lt (allowed.ascending.rises j inside)) in
          record { in_rack = in_rack (j + 1); serves = le_trans enough_light more }

  pub low_top : (j : ℕ) → count_at_place counts j * card.header.top_step ≤ 40000
  low_top j =
      mul-le-mul {n₁ = count_at_place counts j} {n₂ = 200} {m₂ = 200} (count_most j)
      (omega (arith, (accepted_bounds _ card.accepted).top_step.1, card.header_is.top_is))

  pub price_there :
      (j : ℕ) → (card.header.power_up + card.header.power_down) * (count_at_place counts (j + 1) - count_at_place counts j) ≡ level_price (show_of card) counts j
  price_there j = ap (λ (x : ℕ). x * (count_at_place counts (j + 1) - count_at_place counts j)) price_is

  pub price_fits : (j : ℕ) → (card.header.power_up + card.header.power_down) * (count_at_place counts (j + 1) - count_at_place counts j) ≤ most_lead
  price_fits j =
      mul-le-mul {n₁ = card.header.power_up + card.header.power_down} {n₂ = 1000000000} {m₂ = 200} price_most
      (le_trans (sub-le (count_at_place counts (j + 1)) (count_at_place counts j)) (count_most (j + 1)))

  -- No level has a price above the largest lead.
  pub level_most : (j : ℕ) → level_price (show_of card) counts j ≤ most_lead
  level_most j = rw (price_there j) at (price_fits j)
