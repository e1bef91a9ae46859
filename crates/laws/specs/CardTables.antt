-- Cards whose table is known as bytes: what is read from it, `table_read`; when the card is accepted, `accepted_by_others`; and that a head, a
-- table and loads make such a card, `table_behind`.
use Rattle.std.specs.Prelude.{ℕ, ◌+◌, ◌*◌, ◌^◌, ◌≤◌, ◌<◌, ◌≡◌, true, List, [], ◌∷◌, ◌++◌, ◌↔◌, length, drop}
use Rattle.basics.specs.Core.{sym, ◌∙◌, append-nil, arith}
use Rattle.basics.specs.Core.{get_or-append, take_at, drop_at, le-leb}
use Rattle.basics.specs.Tests.{and_both}
use Rattle.basics.specs.Bytes.{little_same, little_drop, little_take}
use Rattle.basics.specs.Rows.{little_numbers}
use Rattle.model.specs.Answers.{Answer}
use Rattle.model.specs.Instance.{instance_of, head_length, entry_place, table_size, table_fields, table_of, table_in_range, convex, price_bound, prices_in_range}
use Rattle.model.specs.Specs.{front_tests, size_tests, load_test, card_tests, first_of}
use Rattle.model.specs.Calls.{Accepted, answer, spec_of}
use Rattle.model.specs.Promises.{OthersInOrder}
use Rattle.laws.specs.Acceptance.{accepted_bounds}

module _ (card : List ℕ) where
  abbrev top : ℕ
  top = (instance_of card).top_step

  -- Where the entries of f stand as a card's table, they are what is read.
  pub table_read :
      (f : ℕ → ℕ) → ((k : ℕ) → k ≤ top → f k < 256 ^ 4) → table_of card ≡ table_fields top f →
      (k : ℕ) → k ≤ top → (instance_of card).table k ≡ f k
  unfolding instance_of
  table_read f fits has k h =
      let place : entry_place k ≡ head_length + k * 4 = omega arith in
      rw place (sym (little_drop 4 head_length card (k * 4))) ∙
      sym (little_take 4 (table_size top) (drop head_length card) (k * 4) (omega arith)) ∙
      rw has (rw append-nil at (little_numbers 4 (top + 1) f [] (omega arith) (fits k h)))

  module _ (ranged : table_in_range top (instance_of card).table ≡ true) (convexity : convex top (instance_of card).table ≡ true) where
    -- Where the two prices keep their bound too, refusals 6 and 7 do not apply, and the card's answer is that of the others.
    by_others :
        (instance_of card).power_up ≤ price_bound → (instance_of card).power_down ≤ price_bound → (a : Answer) →
        first_of (card_tests card) a ≡ first_of (front_tests card ++ (size_tests card ++ (load_test (instance_of card) ∷ []))) a
    unfolding first_of card_tests prices_in_range
    by_others up down a =
        let prices = and_both (le-leb (instance_of card).power_up price_bound up) (and_both (le-leb (instance_of card).power_down price_bound down) ranged) in
        rw (prices, convexity)

    -- A card with a table in range and convex is accepted exactly if its other fields are in order.
    pub accepted_by_others : OthersInOrder card ↔ Accepted card
    unfolding answer spec_of
    accepted_by_others = (
      λ o. by_others o.power_up o.power_down _ ∙ o.others,
      λ e.
          let up = (accepted_bounds card e).power_up in
          let down = (accepted_bounds card e).power_down in
          record { others = sym (by_others up down _) ∙ e; power_up = up; power_down = down },
    )

-- A head of 17 bytes, a table and loads, one after the other.
module _ (head table loads : List ℕ) (sized : length head ≡ head_length) where
  -- The top step of the card is the head's.
  pub head_top : (instance_of (head ++ (table ++ loads))).top_step ≡ (instance_of head).top_step
  unfolding instance_of
  head_top = little_same 1 _ head _ _ (λ j h. get_or-append head (table ++ loads) 0 _ (omega arith))

  -- Where the head asks for a table of that length, the table stands where the card's table stands.
  pub table_behind : length table ≡ table_size (instance_of head).top_step → table_of (head ++ (table ++ loads)) ≡ table
  table_behind long =
      rw (head_top, drop_at head (table ++ loads) head_length sized) (take_at table loads (table_size (instance_of head).top_step) long)
