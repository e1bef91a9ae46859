-- The practice show of a start (document 02, §1): the bounds of its fields, that its table never falls, `practice_never_falls`, that its card is
-- accepted, `practice_accepted`, and how long the card is at most, `practice_length`. All of it is proved for every start, by the way the show is
-- made.
use Rattle.std.specs.Prelude.{ℕ, zero, suc, ◌+◌, ◌*◌, ◌%◌, ◌≤◌, ◌<◌, ◌≡◌, true, List, leb, length}
use Rattle.basics.specs.Core.{mod-lt, add-one, arith, le-leb, ne_eqb, le-ltb}
use Rattle.basics.specs.Tests.{and_both, every_all}
use Rattle.std.specs.Prelude.{Ok}
use Rattle.model.specs.Instance.{card_bytes, card_length, rack_number, prices_in_range, table_in_range, convex, convex_at, loads_in_range}
use Rattle.model.specs.Practice.{drawn, practice_difference, practice_entry, practice_show, longest_practice}
use Rattle.model.specs.Specs.{first_of, any_short, ShowInOrder}
use Rattle.model.specs.Calls.{Accepted, practice_card, answer, spec_of}
use Rattle.laws.specs.Tables.{NeverFalls}
use Rattle.laws.specs.Encoding.{in_order_accepted}

module _ (start : ℕ) where
  -- m and Q are from 1 to 200, T is at most 64.
  pub practice_sizes :
      (1 ≤ (practice_show start).modules) × ((practice_show start).modules ≤ 200) ×
      (1 ≤ (practice_show start).top_step) × ((practice_show start).top_step ≤ 200) × ((practice_show start).slots ≤ 64)
  unfolding practice_show
  practice_sizes = search arith

  -- Difference k is at most 10 + 3k.
  pub difference_most : (k : ℕ) → practice_difference start k ≤ 10 + 3 * k
  unfolding practice_difference
  difference_most zero = omega arith
  difference_most (suc k) = omega (arith, difference_most k)

  -- F(k) is at most 1,000 + 610k up to k = 200, since each difference up to there is at most 610.
  pub entry_most : (k : ℕ) → k ≤ 200 → practice_entry start k ≤ 1000 + 610 * k
  unfolding practice_entry
  entry_most zero h = omega arith
  entry_most (suc k) h = omega (arith, entry_most k (omega arith), difference_most k)

  -- The table never falls, since no difference is negative.
  pub practice_never_falls : NeverFalls (practice_show start).top_step (practice_show start).table
  unfolding practice_show practice_entry
  practice_never_falls k h = rw (add-one k) (omega arith)

  -- The table is convex, since no difference is below the one before it.
  practice_convex : convex (practice_show start).top_step (practice_show start).table ≡ true
  unfolding convex convex_at practice_show practice_entry practice_difference
  practice_convex =
      every_all _ _
      (λ k h.
      let next : k + 2 ≡ suc (suc k) = omega arith in
      rw (add-one k, next)
      (le-leb (2 * practice_entry start (suc k)) (practice_entry start k + practice_entry start (suc (suc k))) (omega arith)))

  -- Every price, entry and load keeps its bound.
  practice_prices : prices_in_range (practice_show start) ≡ true
  unfolding prices_in_range table_in_range practice_show
  practice_prices =
      let (_, _, _, top, _) = practice_sizes in
      let entries = every_all ((practice_show start).top_step + 1) (λ k. leb (practice_entry start k) 1000000)
      (λ k h. le-leb (practice_entry start k) 1000000 (omega (arith, entry_most k (omega arith)))) in
      let up = le-leb (practice_show start).power_up 500000000 (omega arith) in
      let down = le-leb (practice_show start).power_down 500000000 (omega arith) in
      and_both up (and_both down entries)

  practice_loads : loads_in_range (practice_show start) ≡ true
  unfolding loads_in_range practice_show
  practice_loads =
      let full = (practice_show start).modules * (practice_show start).top_step in
      let below : (x : ℕ) → x % (full + 1) < full + 1 = λ x. mod-lt x (omega arith) in
      every_all _ _
      (λ t h. le-leb ((practice_show start).load t) full (omega (arith, below (drawn start (7 + (practice_show start).top_step + t)))))

  -- A practice show is in order.
  pub practice_in_order : ShowInOrder (practice_show start)
  unfolding first_of
  practice_in_order =
      let (some, most, one, top, slots) = practice_sizes in
      let rack : rack_number (practice_show start).modules ≡ true = and_both (le-leb _ _ some) (le-leb _ _ most) in
      let steps : rack_number (practice_show start).top_step ≡ true = and_both (le-leb _ _ one) (le-leb _ _ top) in
      rw (rack, steps, le-ltb 1024 (practice_show start).slots (omega arith), practice_prices, practice_convex, practice_loads)

  -- Every practice card is accepted.
  pub practice_accepted : Accepted (card_bytes (practice_show start))
  practice_accepted = in_order_accepted (practice_show start) practice_in_order

  -- A start other than 0 with an area that is long enough for its card is answered by cost 0.
  pub practice_given :
      (area : List ℕ) → (start ≡ 0 → ⊥) → card_length (practice_show start) ≤ length area → answer (practice_card start area) ≡ Ok 0
  unfolding answer spec_of first_of any_short
  practice_given area some room = rw (ne_eqb start 0 some, le-ltb _ _ room)

  -- No practice card is longer than the longest one.
  pub practice_length : card_length (practice_show start) ≤ longest_practice
  unfolding card_length
  practice_length = let (_, _, _, top, slots) = practice_sizes in omega arith
