-- The bounds of a show that is in order, `InBounds`, by `in_bounds`; and what an accepted card is known to hold: its show is in order,
-- `accepted_in_order`, and within these bounds, `accepted_bounds`, and the card has its length, `card_size`.
use Rattle.std.specs.Prelude.{ℕ, ◌+◌, ◌*◌, ◌≤◌, ◌<◌, ◌≡◌, true, false, not, List, length, leb, eqb}
use Rattle.basics.specs.Core.{arith, leb-true, ltb-false, eqb-true, not-false}
use Rattle.basics.specs.Tests.{every_at, and_left, and_right}
use Rattle.model.specs.Instance.{Instance, instance_of, load_place, card_length, rack_number, convex, table_in_range, prices_in_range, loads_in_range}
use Rattle.model.specs.Specs.{card_tests, ShowInOrder}
use Rattle.model.specs.Calls.{spec_of, answer, Accepted}
use Rattle.laws.specs.FirstRefusal.{none_applies, first_none}

-- A number that the rack may have is from 1 to 200.
pub rack_range : (n : ℕ) → rack_number n ≡ true → (1 ≤ n) × (n ≤ 200)
rack_range n e = (leb-true 1 n (and_left (leb 1 n) (leb n 200) e), leb-true n 200 (and_right (leb 1 n) (leb n 200) e))

-- What a show in order is known to hold.
pub record InBounds (i : Instance) : Type 0 where
  pub modules : (1 ≤ i.modules) × (i.modules ≤ 200)
  pub top_step : (1 ≤ i.top_step) × (i.top_step ≤ 200)
  pub slots : i.slots ≤ 1024
  pub power_up : i.power_up ≤ 500000000
  pub power_down : i.power_down ≤ 500000000
  pub table : (k : ℕ) → k ≤ i.top_step → i.table k ≤ 1000000
  pub convexity : convex i.top_step i.table ≡ true
  pub load : (t : ℕ) → t < i.slots → i.load t ≤ i.modules * i.top_step

pub in_bounds : (i : Instance) → ShowInOrder i → InBounds i
unfolding prices_in_range table_in_range loads_in_range
in_bounds i e =
    let (rack, (slots, (prices, (convexity, (loads, none))))) = none_applies _ _ e in
    let numbers = not-false _ rack in
    let bounds = not-false _ prices in
    let further = and_right (leb i.power_up 500000000) _ bounds in
    record {
      modules = rack_range _ (and_left (rack_number i.modules) _ numbers);
      top_step = rack_range _ (and_right (rack_number i.modules) _ numbers);
      slots = ltb-false _ _ slots;
      power_up = leb-true _ _ (and_left (leb i.power_up 500000000) _ bounds);
      power_down = leb-true _ _ (and_left (leb i.power_down 500000000) _ further);
      table = λ k h. leb-true _ _ (every_at (i.top_step + 1) _ (and_right (leb i.power_down 500000000) _ further) k (omega arith));
      convexity = not-false _ convexity;
      load = λ t h. leb-true _ _ (every_at _ _ (not-false _ loads) t h);
    }

module _ (s : List ℕ) (given : Accepted s) where
  -- The show of an accepted card is in order, and the card has its length.
  parts : ShowInOrder (instance_of s) × (not (eqb (length s) (card_length (instance_of s))) ≡ false)
  unfolding answer spec_of card_tests
  parts =
      let (mark, (version, (rack, (slots, (size, body))))) = none_applies _ _ given in
      (first_none _ _ (rack, (slots, body)), size)

  pub accepted_in_order : ShowInOrder (instance_of s)
  accepted_in_order = parts.0

  pub card_size : length s ≡ load_place (instance_of s).top_step (instance_of s).slots
  unfolding card_length
  card_size = eqb-true _ _ (not-false _ parts.1)

  pub accepted_bounds : InBounds (instance_of s)
  accepted_bounds = in_bounds (instance_of s) accepted_in_order
