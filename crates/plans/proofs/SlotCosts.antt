-- The cost of a slot by counts.
use Rattle.std.specs.Prelude.{ℕ, ◌+◌, ◌-◌, ◌*◌, ◌≤◌, ◌≡◌, refl, List}
use Rattle.basics.specs.Core.{mul-le-mul, arith}
use Rattle.card.specs.Shows.{show_of}
use Rattle.model.specs.Counts.{operating_cost}
use Rattle.model.specs.Thesis.{slot_cost}
use Rattle.laws.specs.Acceptance.{accepted_bounds}
use Rattle.card.specs.declared.Card.{Card}
use Rattle.counts.specs.Serving.{Served}
use Rattle.counts.proofs.Shares.{operating_most}

module _ {card : Card} {n l : ℕ} (given : Served card n l) (prev : ℕ) {rise : ℕ} (rise-is : rise ≡ n - prev) where
  -- Going up by at most 200 modules costs at most 200 times the highest switching price.
  pub switching_most : (card.header.power_up + card.header.power_down) * rise ≤ 1000000000 * 200
  switching_most =
      mul-le-mul {n₁ = card.header.power_up + card.header.power_down} {m₁ = rise} {n₂ = 1000000000} {m₂ = 200}
      (omega (arith, (accepted_bounds _ card.accepted).power_up, (accepted_bounds _ card.accepted).power_down))
      (omega (arith, (accepted_bounds _ card.accepted).modules.1))

  -- The switching price of the rise and the operating cost are the slot's cost.
  pub slot_raised :
      {operating : ℕ} → operating ≡ operating_cost (show_of card) n l →
      operating + (card.header.power_up + card.header.power_down) * rise ≡ slot_cost (show_of card) prev n l
  unfolding slot_cost
  slot_raised is = rw (is, rise-is, card.header_is.up_is, card.header_is.down_is)

-- A slot costs at most 200 times 1,000,000 for operating and 200 times 1,000,000,000 for switching.
pub slot_most :
    {card : Card} {n l : ℕ} → Served card n l → (prev : ℕ) → slot_cost (show_of card) prev n l ≤ 200200000000
slot_most given prev =
    omega (arith, slot_raised given prev refl refl, operating_most given, switching_most given prev refl)
