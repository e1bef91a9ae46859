-- The cards of document 02, §3, are there: each accepted card has an accepted card that is the show backwards, `reversed_card`, one for every
-- larger rack of up to 200 modules, `larger_card`, and one that is the show and then another with equal rack, table and prices, where both together
-- have at most 1,024 slots, `concatenated_card`.
use Rattle.std.specs.Prelude.{ℕ, ◌+◌, ◌*◌, ◌≤◌, ◌<◌, ◌≡◌, refl, true, List, ◌++◌, reverse, leb, length, get_or}
use Rattle.basics.specs.Core.{sym, ◌∙◌, ⊎_elim, le_trans, le_dest, mul-le-mul_right}
use Rattle.basics.specs.Core.{arith, length-append, length-reverse, get_or-append, get_or-append-add, le-leb, le-ltb, not-false}
use Rattle.basics.specs.Numbers.{le_or_lt}
use Rattle.basics.specs.Tests.{every_all, and_right, and_both}
use Rattle.basics.specs.Lists.{equal_tabulate, from_back, get_or_reverse}
use Rattle.model.specs.Instance.{Instance, instance_of, card_bytes, rack_number, prices_in_range, loads_in_range}
use Rattle.model.specs.Specs.{ShowInOrder}
use Rattle.model.specs.Calls.{Accepted}
use Rattle.model.specs.RelatedShows.{Agree, loads_of, Reversed, LargerRack, Concatenated}
use Rattle.laws.specs.FirstRefusal.{none_applies, first_none}
use Rattle.laws.specs.Acceptance.{accepted_in_order, accepted_bounds}
use Rattle.laws.specs.Encoding.{in_order_fits, in_order_accepted, card_bytes_show}
use Rattle.theory.specs.AgreeingShows.{agree_back, agree_on, loads_slots, loads_at, same_loads}

-- The show with the table and the prices of i, a rack of m modules and other loads.
abbrev with_loads : Instance → (m : ℕ) → (loads : List ℕ) → Instance
with_loads i m l =
    record {
      modules = m;
      top_step = i.top_step;
      slots = length l;
      power_up = i.power_up;
      power_down = i.power_down;
      table = i.table;
      load = λ t. get_or l t 0;
    }

-- A card with the table and the prices of a show, a rack of m modules and the loads l.
record CardFor (i : Instance) (m : ℕ) (l d : List ℕ) : Type 0 where
  accepted : Accepted d
  agree : Agree i (instance_of d)
  rack : (instance_of d).modules ≡ m
  loads : loads_of (instance_of d) ≡ l

-- No element of a list is above a bound.
abbrev Within : ℕ → List ℕ → Type 0
Within most l = (t : ℕ) → t < length l → get_or l t 0 ≤ most

within_append : (most : ℕ) (a b : List ℕ) → Within most a → Within most b → Within most (a ++ b)
within_append most a b first second t h =
    ⊎_elim
    (λ (later : length a ≤ t).
    let (u, here) = le_dest later in
    rw (sym here, get_or-append-add a b u 0) (second u (omega (arith, length-append a b))))
    (λ (before : t < length a). rw (get_or-append a b 0 t before) (first t before))
    (le_or_lt (length a) t)

module _ (i : Instance) (m : ℕ) (l : List ℕ) where
  loads_in_order :
      ShowInOrder i → rack_number m ≡ true → length l ≤ 1024 → Within (m * i.top_step) l → ShowInOrder (with_loads i m l)
  unfolding prices_in_range loads_in_range
  loads_in_order e rack short fit =
      let loads = every_all (length l) (λ t. leb (get_or l t 0) (m * i.top_step)) (λ t h. le-leb _ _ (fit t h)) in
      let (sizes, (slots, (prices, (convexity, none)))) = none_applies _ _ e in
      let top = and_right (rack_number i.modules) _ (not-false _ sizes) in
      first_none _ _ (rw (rack, top), (le-ltb _ _ short, (prices, (convexity, (rw loads, tt)))))

module _ (c : List ℕ) (C : Accepted c) where
  abbrev show : Instance
  show = instance_of c

  -- For each rack, and loads that it serves, there is a card with the table and the prices of an accepted card.
  card_for :
      (m : ℕ) (l : List ℕ) → rack_number m ≡ true → length l ≤ 1024 → Within (m * show.top_step) l →
      (d : List ℕ) × CardFor show m l d
  unfolding loads_of
  card_for m l rack short fit =
      let i = with_loads show m l in
      let order = loads_in_order show m l (accepted_in_order c C) rack short fit in
      let same = card_bytes_show i (in_order_fits i order) in (
        card_bytes i,
        record {
          accepted = in_order_accepted i order;
          agree =
              record {
                top_step = same.agree.top_step;
                power_up = same.agree.power_up;
                power_down = same.agree.power_down;
                table = same.agree.table;
              };
          rack = same.modules;
          loads = same_loads same ∙ sym (equal_tabulate refl (λ k h. refl));
        },
      )

  rack_number_lem : rack_number show.modules ≡ true
  rack_number_lem = let (low, high) = (accepted_bounds c C).modules in and_both (le-leb _ _ low) (le-leb _ _ high)

  loads_length : length (loads_of show) ≤ 1024
  loads_length = rw (loads_slots show refl) at (accepted_bounds c C).slots

  loads_fit : Within (show.modules * show.top_step) (loads_of show)
  loads_fit t h =
      let inside : t < show.slots = rw (loads_slots show refl) h in
      rw (loads_at show refl t inside) at ((accepted_bounds c C).load t inside)

  -- An accepted card has an accepted card that is its show backwards.
  pub reversed_card : (d : List ℕ) × Accepted d × Reversed show (instance_of d)
  reversed_card =
      let (d, card) =
      card_for show.modules (reverse (loads_of show)) rack_number_lem (rw (length-reverse (loads_of show)) loads_length) turned in
      (d, card.accepted, record { agree = card.agree; rack = card.rack; loads = card.loads })
    where
      turned : Within (show.modules * show.top_step) (reverse (loads_of show))
      turned t h =
          let (u, e) = from_back (length (loads_of show)) t (rw (length-reverse (loads_of show)) at h) in
          rw (get_or_reverse (loads_of show) t u 0 e) (loads_fit u (omega arith))

  -- An accepted card has an accepted card of its show for every number of modules from its own to 200.
  pub larger_card :
      (m : ℕ) → show.modules ≤ m → m ≤ 200 → (d : List ℕ) × Accepted d × LargerRack show (instance_of d) × ((instance_of d).modules ≡ m)
  larger_card m more most =
      let (low, high) = (accepted_bounds c C).modules in
      let rack = and_both (le-leb 1 m (omega arith)) (le-leb m 200 most) in
      let wider : Within (m * show.top_step) (loads_of show) = λ t h. le_trans (loads_fit t h) (mul-le-mul_right show.top_step more) in
      let (d, card) = card_for m (loads_of show) rack loads_length wider in
      (d, card.accepted, record { agree = card.agree; rack = rw card.rack more; loads = card.loads }, card.rack)

-- Two accepted cards with equal rack, table and prices and at most 1,024 slots together have an accepted card that is the first show and then
-- the second.
pub concatenated_card :
    (c d : List ℕ) → Accepted c → Accepted d → Agree (instance_of c) (instance_of d) → (instance_of d).modules ≡ (instance_of c).modules →
    (instance_of c).slots + (instance_of d).slots ≤ 1024 →
    (e : List ℕ) × Accepted e × Concatenated (instance_of c) (instance_of d) (instance_of e)
concatenated_card c d C D agree rack short =
    let fit = within_append _ first second (loads_fit c C) second_fit in
    let (e, card) = card_for c C (instance_of c).modules (first ++ second) (rack_number_lem c C) together fit in (
      e,
      card.accepted,
      record {
        agree_first = card.agree;
        agree_second = agree_on (agree_back agree) card.agree;
        rack_first = card.rack;
        rack_second = card.rack ∙ sym rack;
        loads = card.loads;
      },
    )
  where
    first : List ℕ
    first = loads_of (instance_of c)

    second : List ℕ
    second = loads_of (instance_of d)

    together : length (first ++ second) ≤ 1024
    together = omega (arith, length-append first second, loads_slots (instance_of c) refl, loads_slots (instance_of d) refl)

    second_fit : Within ((instance_of c).modules * (instance_of c).top_step) second
    second_fit t h = rw (sym rack, sym agree.top_step) (loads_fit d D t h)
