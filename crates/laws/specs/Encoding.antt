-- The card that is written for a show, `card_bytes`: its length, `card_bytes_length`; that a show whose fields fit is read back from it,
-- `card_bytes_show`; and that it is accepted exactly if the show is in order, `card_bytes_accepted`.
use Rattle.std.specs.Prelude.{ℕ, ◌+◌, ◌*◌, ◌^◌, ◌≤◌, ◌<◌, ◌≡◌, refl, List, [], ◌++◌, ◌↔◌, leb, length, take}
use Rattle.basics.specs.Core.{sym, ap, ◌∙◌, append-nil, mul-le-mul, arith}
use Rattle.basics.specs.Core.{length-append, take_at, le-ltb, eq-eqb}
use Rattle.basics.specs.Tests.{every_same}
use Rattle.basics.specs.Lists.{same_list}
use Rattle.basics.specs.Bytes.{little_endian, bytes_of, little_bytes, little_after}
use Rattle.basics.specs.Rows.{length_numbers, little_numbers}
use Rattle.model.specs.Instance.{Instance, instance_of, head_length, entry_place, load_place, card_mark, card_version, mark_of, version_of}
use Rattle.model.specs.Instance.{card_length, table_bytes, load_bytes, card_bytes, prices_in_range, loads_in_range}
use Rattle.std.specs.Prelude.{Ok}
use Rattle.model.specs.Specs.{Test, first_of, rack_tests, body_tests, card_tests, ShowInOrder}
use Rattle.model.specs.Calls.{Accepted, answer, spec_of}
use Rattle.model.specs.Promises.{front_card}
use Rattle.model.specs.RelatedShows.{Agree}
use Rattle.laws.specs.FirstRefusal.{none_applies, first_none}
use Rattle.laws.specs.Acceptance.{in_bounds, accepted_in_order}
use Rattle.laws.specs.Tables.{same_range, same_convex}

-- The fields of a show fit the bytes that a card has for them.
pub record FieldsFit (i : Instance) : Type 0 where
  pub modules : i.modules < 256 ^ 1
  pub top_step : i.top_step < 256 ^ 1
  pub slots : i.slots < 256 ^ 2
  pub power_up : i.power_up < 256 ^ 4
  pub power_down : i.power_down < 256 ^ 4
  pub table : (k : ℕ) → k ≤ i.top_step → i.table k < 256 ^ 4
  pub load : (t : ℕ) → t < i.slots → i.load t < 256 ^ 2

-- Two shows are the same: they agree, and have the same rack and the same load in each slot.
pub record SameShow (i j : Instance) : Type 0 where
  pub agree : Agree i j
  pub modules : j.modules ≡ i.modules
  pub slots : j.slots ≡ i.slots
  pub load : (t : ℕ) → t < i.slots → j.load t ≡ i.load t

module _ (i : Instance) where
  entries_length : length (table_bytes i) ≡ (i.top_step + 1) * 4
  entries_length = length_numbers 4 (i.top_step + 1) i.table

  -- The card of a show has the length that the show asks for.
  pub card_bytes_length : length (card_bytes i) ≡ card_length i
  unfolding card_bytes card_length bytes_of
  card_bytes_length = omega (arith, length-append (table_bytes i) (load_bytes i), entries_length, length_numbers 2 i.slots i.load)

  -- A number behind the head is one of what follows the head.
  behind_head : (w p q : ℕ) → p ≡ head_length + q → little_endian w (card_bytes i) p ≡ little_endian w (table_bytes i ++ load_bytes i) q
  unfolding card_bytes bytes_of
  behind_head w p q place = little_after w (take head_length (card_bytes i)) (table_bytes i ++ load_bytes i) q place

  module _ (fit : FieldsFit i) where
    entry_read : (k : ℕ) → k ≤ i.top_step → little_endian 4 (card_bytes i) (entry_place k) ≡ i.table k
    entry_read k h =
        behind_head 4 (entry_place k) (k * 4) (omega arith) ∙
        little_numbers 4 (i.top_step + 1) i.table (load_bytes i) (omega arith) (fit.table k h)

    load_read : (t : ℕ) → t < i.slots → little_endian 2 (card_bytes i) (load_place i.top_step t) ≡ i.load t
    load_read t h =
        behind_head 2 (load_place i.top_step t) ((i.top_step + 1) * 4 + t * 2) (omega arith) ∙
        little_after 2 (table_bytes i) (load_bytes i) (t * 2) (omega (arith, entries_length)) ∙
        (rw append-nil at (little_numbers 2 i.slots i.load [] h (fit.load t h)))

    -- A show whose fields fit is read back from its card.
    pub card_bytes_show : SameShow i (instance_of (card_bytes i))
    unfolding card_bytes instance_of bytes_of little_endian
    card_bytes_show =
        let top = little_bytes 1 i.top_step fit.top_step in
        record {
          agree =
              record {
                top_step = top;
                power_up = little_bytes 4 i.power_up fit.power_up;
                power_down = little_bytes 4 i.power_down fit.power_down;
                table = entry_read;
              };
          modules = little_bytes 1 i.modules fit.modules;
          slots = little_bytes 2 i.slots fit.slots;
          load = λ t h. rw top (load_read t h);
        }

-- What 3, 4 and 6 to 8 find in two shows that are the same is the same.
same_tests : {i j : Instance} → SameShow i j → rack_tests j ++ body_tests j ≡ rack_tests i ++ body_tests i
unfolding prices_in_range loads_in_range
same_tests {i} {j} same =
    let entries = same_range i.top_step same.agree.table in
    let convexity = same_convex i.top_step same.agree.table in
    let loads = every_same i.slots _ _ (λ t h. ap (λ (x : ℕ). leb x (i.modules * i.top_step)) (same.load t h)) in
    rw (same.modules, same.agree.top_step, same.slots, same.agree.power_up, same.agree.power_down, entries, convexity, loads)

-- The fields of a show that is in order fit.
pub in_order_fits : (i : Instance) → ShowInOrder i → FieldsFit i
in_order_fits i e =
    let b = in_bounds i e in
    record {
      modules = omega (arith, b.modules);
      top_step = omega (arith, b.top_step);
      slots = omega (arith, b.slots);
      power_up = omega (arith, b.power_up);
      power_down = omega (arith, b.power_down);
      table = λ k h. omega (arith, b.table k h);
      load = λ t h. omega (arith, b.load t h, mul-le-mul b.modules.1 b.top_step.1);
    }

module _ (i : Instance) where
  -- The card of a show begins with the mark and the version.
  front : (mark_of (card_bytes i) ≡ card_mark) × (version_of (card_bytes i) ≡ card_version)
  unfolding card_bytes bytes_of little_endian
  front = (refl, refl)

  -- What is read from the card of a show.
  abbrev read : Instance
  read = instance_of (card_bytes i)

  module _ (fit : FieldsFit i) where
    read_accepted : ShowInOrder read → Accepted (card_bytes i)
    unfolding answer spec_of card_tests same_list card_length
    read_accepted e =
        let same = card_bytes_show i fit in
        let (rack, (slots, body)) = none_applies _ _ e in
        let long = le-ltb (length (card_bytes i)) head_length (omega (arith, card_bytes_length i)) in
        let size : length (card_bytes i) ≡ card_length read = omega (arith, card_bytes_length i) in
        first_none _ _ (rw (long, front.0), (rw front.1, (rack, (slots, (rw (eq-eqb _ _ size), body)))))

    -- The card of a show whose fields fit is accepted exactly if the show is in order.
    pub card_bytes_accepted : Accepted (card_bytes i) ↔ ShowInOrder i
    card_bytes_accepted =
        let same = ap (λ (ts : List Test). first_of ts (Ok 0)) (same_tests (card_bytes_show i fit)) in
        (λ e. sym same ∙ accepted_in_order _ e, λ e. read_accepted (same ∙ e))

-- The card of a show that is in order is accepted.
pub in_order_accepted : (i : Instance) → ShowInOrder i → Accepted (card_bytes i)
in_order_accepted i e = (card_bytes_accepted i (in_order_fits i e)).1 e

-- The card of a show that is in order is the card at the front of any list that begins with it.
pub front_card_lem : (i : Instance) → ShowInOrder i → (rest : List ℕ) → front_card (card_bytes i ++ rest) ≡ card_bytes i
unfolding card_bytes card_length bytes_of little_endian instance_of
front_card_lem i e rest =
    let fit = in_order_fits i e in
    rw (little_bytes 1 i.top_step fit.top_step, little_bytes 2 i.slots fit.slots)
    (take_at (card_bytes i) rest (card_length i) (card_bytes_length i))
