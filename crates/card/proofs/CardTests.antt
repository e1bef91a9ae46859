-- What the tests of a card look at, and the refusal that each way through the checks gives.
use Rattle.std.specs.Prelude.{ℕ, zero, suc, ◌+◌, ◌*◌, ◌⊎◌, ◌≤◌, ◌<◌, ◌≡◌, refl, Bool, true, false, ◌&&◌, List, length, leb}
use Rattle.basics.specs.Core.{sym, ap, ◌∙◌, inl, inr, ⊎_elim, lt-ltb, le-ltb, ltb-false, le-leb, lt-leb}
use Rattle.basics.specs.Core.{eq-eqb, ne_eqb, eqb-true, not-false, mul-le-mul, add-one, add-suc, add-zero, zero-add, and-true, arith}
use Rattle.std.proofs.Math.Bool.{and_assoc}
use Rattle.basics.specs.Lists.{same_list}
use Rattle.basics.specs.Numbers.{le_or_lt}
use Rattle.basics.specs.Tests.{every, every_fails, every_not, every_same, or_left, passed_more, passed_all}
use Rattle.model.specs.declared.Refusal.TheVariants.{NotACard, Version, RackSize, SlotCount, CardLength, PriceRange, NotConvex, LoadRange}
use Rattle.model.specs.Answers.{Answer}
use Rattle.std.specs.Prelude.{Ok, Err}
use Rattle.model.specs.Instance.{Instance, instance_of, head_length, load_place, mark_of, card_mark, version_of, card_length}
use Rattle.model.specs.Instance.{convex, table_in_range, prices_in_range, loads_in_range}
use Rattle.model.specs.Specs.{front_tests, size_tests, body_tests, first_of}
use Rattle.laws.specs.FirstRefusal.{none_applies}
use Rattle.card.specs.declared.Header.{Header}
use Rattle.card.specs.Fields.{HeaderOf, Sized}
use Rattle.card.specs.Checking.{rack_fits, loads_fit, first_among}

-- Each lemma below is one way through the code: the tests passed and the one that failed.
module _ (s : List ℕ) where
  pub front_short : length s < head_length → Err NotACard ≡ first_among (front_tests s)
  unfolding first_among first_of
  front_short h = rw (lt-ltb _ _ h)

  pub front_unmarked : head_length ≤ length s → same_list (mark_of s) card_mark ≡ false → Err NotACard ≡ first_among (front_tests s)
  unfolding first_among first_of
  front_unmarked h e = rw (le-ltb _ _ h, e)

  module _ (long : head_length ≤ length s) (marked : same_list (mark_of s) card_mark ≡ true) {v : ℕ} (is : v ≡ version_of s) where
    pub front_version : (v ≡ 1 → ⊥) → Err Version ≡ first_among (front_tests s)
    unfolding first_among first_of
    front_version n = rw (le-ltb _ _ long, marked, rw is at (ne_eqb v 1 n))

    pub front_passed : v ≡ 1 → Ok 0 ≡ first_among (front_tests s)
    unfolding first_among first_of
    front_passed e = rw (le-ltb _ _ long, marked, rw is at (eq-eqb v 1 e))

  -- A card that passes refusals 1 and 2 has its head.
  pub front_length : {a : Answer} {n : ℕ} → a ≡ first_among (front_tests s) → a ≡ Ok n → head_length ≤ length s
  unfolding first_among
  front_length is e = ltb-false _ _ (or_left _ _ (none_applies _ _ (sym is ∙ e)).0)

  module _ (h : Header) (given : HeaderOf s h) where
    pub size_rack : rack_fits h ≡ false → Err RackSize ≡ first_among (size_tests s)
    unfolding first_among first_of
    size_rack e = rw (← given.modules_is, ← given.top_is, e)

    module _ (rack-ok : rack_fits h ≡ true) where
      pub size_slots : 1024 < h.slots → Err SlotCount ≡ first_among (size_tests s)
      unfolding first_among first_of
      size_slots g = rw (← given.modules_is, ← given.top_is, rack-ok, ← given.slots_is, lt-ltb _ _ g)

      module _ (slots-ok : h.slots ≤ 1024) where
        module _ {n : ℕ} (n-is : n ≡ load_place h.top_step h.slots) where
          pub size_length : (length s ≡ n → ⊥) → Err CardLength ≡ first_among (size_tests s)
          unfolding first_among first_of card_length
          size_length wrong =
              rw (← given.modules_is, ← given.top_is, rack-ok, ← given.slots_is, le-ltb _ _ slots-ok, rw n-is at (ne_eqb (length s) n wrong))

          pub size_passed : length s ≡ n → Ok 0 ≡ first_among (size_tests s)
          unfolding first_among first_of card_length
          size_passed right =
              rw (← given.modules_is, ← given.top_is, rack-ok, ← given.slots_is, le-ltb _ _ slots-ok, rw n-is at (eq-eqb (length s) n right))

    -- A card that passes refusals 3 to 5 has the length its header says.
    pub size_of : {a : Answer} {n : ℕ} → a ≡ first_among (size_tests s) → a ≡ Ok n → Sized s h
    unfolding first_among card_length
    size_of is e =
        let (rack, (slots, (size, none))) = none_applies _ _ (sym is ∙ e) in
        record { header = given; size = rw (given.top_is, given.slots_is) (eqb-true _ _ (not-false _ size)) }

    price_test :
        {a b d : Bool} → leb h.power_up 500000000 ≡ a → leb h.power_down 500000000 ≡ b →
        table_in_range h.top_step (instance_of s).table ≡ d → prices_in_range (instance_of s) ≡ (a && (b && d))
    unfolding prices_in_range
    price_test e f g = rw (← given.up_is, ← given.down_is, ← given.top_is, e, f, g)

    pub body_up : 500000000 < h.power_up → Err PriceRange ≡ first_among (body_tests (instance_of s))
    unfolding first_among first_of
    body_up e = rw (price_test (lt-leb _ _ e) refl refl)

    module _ (up_ok : h.power_up ≤ 500000000) where
      pub body_down : 500000000 < h.power_down → Err PriceRange ≡ first_among (body_tests (instance_of s))
      unfolding first_among first_of
      body_down e = rw (price_test (le-leb _ _ up_ok) (lt-leb _ _ e) refl)

      module _ (down-ok : h.power_down ≤ 500000000) where
        pub body_table : table_in_range h.top_step (instance_of s).table ≡ false → Err PriceRange ≡ first_among (body_tests (instance_of s))
        unfolding first_among first_of
        body_table e = rw (price_test (le-leb _ _ up_ok) (le-leb _ _ down-ok) e)

        module _ (table-ok : table_in_range h.top_step (instance_of s).table ≡ true) where
          prices : prices_in_range (instance_of s) ≡ true
          prices = price_test (le-leb _ _ up_ok) (le-leb _ _ down-ok) table-ok

          pub body_not_convex : convex h.top_step (instance_of s).table ≡ false → Err NotConvex ≡ first_among (body_tests (instance_of s))
          unfolding first_among first_of
          body_not_convex e = rw (prices, ← given.top_is, e)

          module _ (convex-ok : convex h.top_step (instance_of s).table ≡ true) where
            pub body_load : loads_in_range (instance_of s) ≡ false → Err LoadRange ≡ first_among (body_tests (instance_of s))
            unfolding first_among first_of
            body_load e = rw (prices, rw given.top_is at convex-ok, e)

            pub body_passed : loads_in_range (instance_of s) ≡ true → Ok 0 ≡ first_among (body_tests (instance_of s))
            unfolding first_among first_of
            body_passed e = rw (prices, rw given.top_is at convex-ok, e)

-- Some loads from a slot on keep a bound: none of them, one more, and some and then others.
module _ (i : Instance) (most t : ℕ) where
  pub none_compared : true ≡ loads_fit i most t 0
  unfolding loads_fit every
  none_compared = refl

  pub one_compared :
      (k : ℕ) {load : ℕ} {before : Bool} → before ≡ loads_fit i most t k → load ≡ i.load (t + k) → (before && leb load most) ≡ loads_fit i most t (k + 1)
  unfolding loads_fit every
  one_compared k e is = rw (add-one k, e, is)

fit_join : (i : Instance) (most a b : ℕ) → loads_fit i most 0 (a + b) ≡ (loads_fit i most 0 a && loads_fit i most a b)
unfolding loads_fit every
fit_join i most a zero = rw (add-zero a) (sym (and-true _))
fit_join i most a (suc b) =
    let next = leb (i.load (a + b)) most in
    rw (add-suc a b, zero-add (a + b), fit_join i most a b) (and_assoc (loads_fit i most 0 a) (loads_fit i most a b) next)

-- What the loop over some loads rests on.
pub ruleset loads_compared = (none_compared, one_compared)

-- A load of the show keeps its bound, or the loads do not.
pub load_kept : (i : Instance) (t : ℕ) → t < i.slots → (i.load t ≤ i.modules * i.top_step) ⊎ (false ≡ loads_in_range i)
unfolding loads_in_range
load_kept i t there =
    ⊎_elim inl (λ past. inr (sym (every_fails i.slots _ t there (lt-leb _ _ past)))) (le_or_lt (i.load t) (i.modules * i.top_step))

-- What a loop over all loads rests on.
pub ruleset loads_tested = (passed_more, passed_all, load_kept, mul-le-mul)

-- The loads of a show by blocks: the bound is the show's, and all loads before a block keep it.
module _ (i : Instance) {most : ℕ} (bound : most ≡ i.modules * i.top_step) where
  pub no_block : loads_fit i most 0 (64 * 0) ≡ true
  unfolding loads_fit every
  no_block = refl

  pub next_block : (b : ℕ) → loads_fit i most 0 (64 * b) ≡ true → loads_fit i most (64 * b) 64 ≡ true → loads_fit i most 0 (64 * (b + 1)) ≡ true
  next_block b before this =
      let more : 64 * (b + 1) ≡ 64 * b + 64 = omega arith in
      rw (more, fit_join i most (64 * b) 64, before, this)

  pub block_fails : (t n : ℕ) → t + n ≤ i.slots → loads_fit i most t n ≡ false → false ≡ loads_in_range i
  unfolding loads_fit loads_in_range
  block_fails t n inside fails =
      let fails-at = rw bound at fails in
      let (k, below, past) = every_not n (λ k. leb (i.load (t + k)) (i.modules * i.top_step)) fails-at in
      sym (every_fails i.slots _ (t + k) (omega arith) past)

  -- All loads are those of the show.
  all_fit : loads_in_range i ≡ loads_fit i most 0 i.slots
  unfolding loads_fit loads_in_range
  all_fit = every_same i.slots _ _ (λ k h. rw (bound, zero-add k))

  pub last_block :
      (b rest : ℕ) {last : Bool} → loads_fit i most 0 (64 * b) ≡ true → last ≡ loads_fit i most (64 * b) rest → i.slots ≡ 64 * b + rest →
      last ≡ loads_in_range i
  last_block b rest before is all =
      let joined = all_fit ∙ ap (loads_fit i most 0) all ∙ fit_join i most (64 * b) rest in
      is ∙ sym (joined ∙ ap (λ (x : Bool). x && loads_fit i most (64 * b) rest) before)

-- What the loop over the blocks rests on besides.
pub ruleset blocks_compared = (mul-le-mul)
