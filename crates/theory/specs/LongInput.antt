-- What is read of a long input (document 01, 'Program and listing'): no accepted card is longer than 2,869 bytes, so what follows the first 2,870
-- bytes is without effect on what the program prints: `long_printed`.
use Rattle.std.specs.Prelude.{ℕ, ◌+◌, ◌≤◌, ◌≡◌, Bool, true, false, not, ◌&&◌, List, ◌∷◌, leb, ltb, eqb, length, take, replicate}
use Rattle.basics.specs.Core.{◌∙◌, ap, ⊎_elim, arith}
use Rattle.basics.specs.Core.{length-take-le, take-take, le-ltb, leb-true, ltb-false, ne_eqb, not-false}
use Rattle.basics.specs.Numbers.{true_or_false}
use Rattle.basics.specs.Tests.{and_right}
use Rattle.basics.specs.Bytes.{little_take}
use Rattle.model.specs.declared.Refusal.{Refusal}
use Rattle.std.specs.Prelude.{Ok, Err}
use Rattle.model.specs.Instance.{instance_of, card_length, rack_number, head_length, version_place, modules_place, top_step_place, slots_place, load_place}
use Rattle.model.specs.Planners.{exact}
use Rattle.model.specs.Specs.{Test, ◌when◌, card_tests, first_of}
use Rattle.model.specs.Calls.{spec_of, answer}
use Rattle.model.specs.Listing.{printed, printed_for}
use Rattle.laws.specs.FirstRefusal.{first_hit, first_skip}
use Rattle.theory.specs.Outcomes.{planner_refused}

-- One byte more than the longest card has, which is one of top step 200 and 1,024 slots.
abbrev pub bytes_read : ℕ
bytes_read = load_place 200 1024 + 1

-- Of two lists of tests the first that applies gives the same refusal.
record SameRefusal (ts us : List Test) : Type 0 where
  refusal : Refusal
  one : first_of ts (Ok 0) ≡ Err refusal
  other : first_of us (Ok 0) ≡ Err refusal

module _ {x : Refusal} {a b : Bool} {ts us : List Test} where
  same_here : a ≡ true → b ≡ true → SameRefusal (x when a ∷ ts) (x when b ∷ us)
  same_here e d = record { refusal = x; one = first_hit (x when a) ts (Ok 0) e; other = first_hit (x when b) us (Ok 0) d }

  same_next : b ≡ a → (a ≡ false → SameRefusal ts us) → SameRefusal (x when a ∷ ts) (x when b ∷ us)
  same_next same rest =
      ⊎_elim
      (λ (e : a ≡ true). same_here e (same ∙ e))
      (λ (e : a ≡ false).
      let r = rest e in
      record {
        refusal = r.refusal;
        one = first_skip (x when a) ts (Ok 0) e ∙ r.one;
        other = first_skip (x when b) us (Ok 0) (same ∙ e) ∙ r.other;
      })
      (true_or_false a)

-- A card longer than any that is accepted is refused by 3, 4 or 5.
long_card :
    (s : List ℕ) → bytes_read ≤ length s → not (rack_number (instance_of s).modules && rack_number (instance_of s).top_step) ≡ false →
    ltb 1024 (instance_of s).slots ≡ false → not (eqb (length s) (card_length (instance_of s))) ≡ true
unfolding card_length
long_card s long rack slots =
    let i = instance_of s in
    let top = and_right (rack_number i.modules) _ (not-false _ rack) in
    let most = leb-true i.top_step 200 (and_right (leb 1 i.top_step) (leb i.top_step 200) top) in
    let few = ltb-false 1024 i.slots slots in
    ap not (ne_eqb (length s) (load_place i.top_step i.slots) (omega arith))

module _ (x : List ℕ) (long : bytes_read ≤ length x) where
  -- The part of a longer input that is read.
  abbrev front : List ℕ
  front = take bytes_read x

  front_long : bytes_read ≤ length front
  front_long = omega (arith, length-take-le bytes_read x long)

  -- Refusals 3 and 4 see the head of a card alone.
  same_rack :
      not (rack_number (instance_of front).modules && rack_number (instance_of front).top_step) ≡
      not (rack_number (instance_of x).modules && rack_number (instance_of x).top_step)
  unfolding instance_of
  same_rack = rw (little_take 1 bytes_read x modules_place (omega arith), little_take 1 bytes_read x top_step_place (omega arith))

  same_slots : ltb 1024 (instance_of front).slots ≡ ltb 1024 (instance_of x).slots
  unfolding instance_of
  same_slots = rw (little_take 2 bytes_read x slots_place (omega arith))

  -- The input and its front are refused with the same number.
  long_refused : SameRefusal (card_tests x) (card_tests front)
  unfolding card_tests
  long_refused =
      same_next
      (rw (
        le-ltb (length x) head_length (omega arith),
        le-ltb (length front) head_length (omega (arith, front_long)),
        take-take version_place bytes_read x (omega arith),
      )) λ _.
      same_next (rw (little_take 2 bytes_read x version_place (omega arith))) λ _.
      same_next same_rack λ rack.
      same_next same_slots λ slots.
      same_here (long_card x long rack slots) (long_card front front_long (same_rack ∙ rack) (same_slots ∙ slots))

-- What follows the first 2,870 bytes is without effect on what the program prints.
pub long_printed : (x : List ℕ) → bytes_read ≤ length x → printed x ≡ printed (take bytes_read x)
unfolding printed printed_for answer spec_of
long_printed x long =
    let r = long_refused x long in
    let whole = planner_refused exact x (replicate 1024 0) (replicate 65536 0) r.one in
    let front = planner_refused exact (take bytes_read x) (replicate 1024 0) (replicate 65536 0) r.other in
    rw (whole, front)
