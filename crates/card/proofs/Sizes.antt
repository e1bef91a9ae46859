-- The sizes that a header gives are those of its card, and small.
use Rattle.std.specs.Prelude.{ℕ, ◌+◌, ◌*◌, ◌≤◌, ◌≡◌}
use Rattle.basics.specs.Core.{mul-le-mul, arith}
use mir.Syntax.{w64}
use mir.Val.{Fits}
use Rattle.model.specs.Specs.{sheet_bytes}
use Rattle.card.specs.declared.Card.{Card}
use Rattle.card.specs.Shows.{show_of}

module _ (card : Card) where
  pub sheet_size : card.header.modules * card.header.slots ≡ sheet_bytes (show_of card)
  sheet_size = rw (card.header_is.modules_is, card.header_is.slots_is)

  pub exact_size : (card.header.modules + 1) * card.header.slots ≡ ((show_of card).modules + 1) * (show_of card).slots
  exact_size = rw (card.header_is.modules_is, card.header_is.slots_is)

  pub coarse_size : 10 * card.header.slots ≡ 10 * (show_of card).slots
  coarse_size = rw card.header_is.slots_is

  -- A product of at most 256 and the number of slots fits 64 bits.
  pub product_fits : (n : ℕ) → n ≤ 256 → Fits w64 (n * card.header.slots)
  product_fits n few =
      record {
        fits = omega (arith, mul-le-mul {n₁ = n} {m₁ = card.header.slots} {n₂ = 256} {m₂ = 65536} few (omega (arith, card.header_is.slots_bound)));
      }

  pub sheet_size_fits : Fits w64 (card.header.modules * card.header.slots)
  sheet_size_fits = product_fits card.header.modules (omega (arith, card.header_is.modules_bound))
