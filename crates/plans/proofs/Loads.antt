-- A plan's slot: its load can be read, and its count serves it.
use Rattle.std.specs.Prelude.{ℕ, suc, ◌+◌, ◌*◌, ◌≤◌, ◌<◌, ◌≡◌, true, false, List, length, get_or}
use Rattle.basics.specs.Core.{add-one, arith, leb-true, le-leb, lt-leb}
use Rattle.basics.specs.Tests.{every_at}
use Rattle.model.specs.Instance.{Instance, instance_of}
use Rattle.model.specs.Counts.{can_serve}
use Rattle.model.specs.Plans.{plan_serves}
use Rattle.model.specs.Thesis.{count_at, slot_cost}
use Rattle.card.specs.declared.Card.{Card}
use Rattle.card.specs.Shows.{show_of}
use Rattle.card.proofs.FieldsThere.{in_show}
use Rattle.counts.specs.Serving.{Served}
use Rattle.plans.specs.PlanRequires.{PlanSized, PlanReady}
use Rattle.plans.proofs.SlotCosts.{slot_most}

-- A place in the plan is a slot.
pub in_slots : {card : Card} {p : List ℕ} {t : ℕ} → PlanSized card p → t < length p → t < (show_of card).slots
in_slots given below = omega arith

-- The load of a plan's slot can be read.
pub slot_in_show : {card : Card} {p : List ℕ} {t : ℕ} → PlanSized card p → t < length p → t < card.header.slots
slot_in_show {card} given below = in_show card (in_slots given below)

-- Past the plan there are no more slots.
pub no_more_slots : {card : Card} {p : List ℕ} {t : ℕ} → PlanSized card p → length p ≤ t → (show_of card).slots ≤ t
no_more_slots given past = omega arith

-- The test of a count against a load.
module _ (card : Card) {n l x y : ℕ} (x-is : x ≡ n) (y-is : y ≡ l) where
  pub serve_failed : x * card.header.top_step < y → can_serve (show_of card) n l ≡ false
  unfolding can_serve
  serve_failed above = rw (← x-is, ← y-is, ← card.header_is.top_is) (lt-leb y (x * card.header.top_step) above)

  pub serve_passed : y ≤ x * card.header.top_step → can_serve (show_of card) n l ≡ true
  unfolding can_serve
  serve_passed below = rw (← x-is, ← y-is, ← card.header_is.top_is) (le-leb y (x * card.header.top_step) below)

-- The cost of slot t by counts.
abbrev pub slot_at : Instance → List ℕ → ℕ → ℕ
slot_at i p t = slot_cost i (count_at 0 p t) (count_at 0 p (suc t)) (i.load t)

module _ {card : Card} {p : List ℕ} (given : PlanReady card p) where
  served_at_lem : (t : ℕ) → t < (show_of card).slots → Served card (get_or p t 0) ((show_of card).load t)
  unfolding plan_serves can_serve
  served_at_lem t below =
      record {
        in_rack = given.in_rack t below;
        serves = leb-true _ _ (every_at (show_of card).slots _ given.served t below);
      }

  pub slot_served : {t n l : ℕ} → t < length p → n ≡ get_or p t 0 → l ≡ (show_of card).load t → Served card n l
  slot_served {t} below e f = rw (e, f) (served_at_lem t (in_slots given.sized below))

  pub slot_at_most : (t : ℕ) → t < (show_of card).slots → slot_at (show_of card) p t ≤ 200200000000
  unfolding count_at
  slot_at_most t below = slot_most (served_at_lem t below) (count_at 0 p t)

-- A slot's cost by what the loop has at hand.
pub slot_is :
    (i : Instance) (p : List ℕ) {t prev n l r : ℕ} → prev ≡ count_at 0 p t → n ≡ get_or p t 0 → l ≡ i.load t → r ≡ slot_cost i prev n l →
    r ≡ slot_at i p t
unfolding count_at
slot_is i p {t} e f g k = rw (← e, ← f, ← g) k

-- The count that the loop keeps for the next slot.
pub count_next : (p : List ℕ) (t : ℕ) {n : ℕ} → n ≡ get_or p t 0 → n ≡ count_at 0 p (t + 1)
unfolding count_at
count_next p t e = rw (add-one t) e
