-- A planner that keeps the rules: its counts as a list that is searched, its answer by the test on its buffers, and its buffers at exit.
use Rattle.std.specs.Prelude.{ℕ, ◌≤◌, ◌<◌, ◌≡◌, refl, Bool, true, false, cond, not, ◌||◌, List, length, take, replicate, ltb, Err, Ok}
use Rattle.basics.specs.Core.{sym, ap, ◌∙◌, or-false, mul-le-mul_right, arith, ltb-false, lt-ltb, le-ltb}
use Rattle.basics.specs.Lists.{written_over}
use Rattle.basics.specs.Tests.{or_left, or_right}
use Rattle.model.specs.declared.Refusal.{Refusal}
use Rattle.model.specs.declared.Refusal.TheVariants.{BufferTooShort, CountList}
use Rattle.model.specs.Answers.{Answer}
use Rattle.model.specs.Instance.{Instance}
use Rattle.model.specs.Planners.{Planner, exact, coarse, listed, allowed_counts, work_bytes, keeps_list, planned_by, planned_cost}
use Rattle.model.specs.Specs.{first_of, list_tests, any_short, at_exit}
use Rattle.model.specs.Calls.{check_card, plan_show, spec_of, answer, plan_at_exit, work_at_exit}
use Rattle.model.specs.Promises.{KeepsRules}
use Rattle.laws.specs.Acceptance.{accepted_bounds}
use Rattle.theory.specs.CountLists.{planner_rules}
use Rattle.theory.specs.Outcomes.{planner_refused, planner_unlisted, planner_short, planner_cost, plan_at_exit_lem, work_at_exit_lem}
use Rattle.card.specs.declared.Card.{Card}
use Rattle.card.specs.Shows.{show_of}
use Rattle.planners.specs.PlannerRequires.{Buffers, BuffersFor, CountsReady, either_short, short_for}
use Rattle.planners.proofs.Fronts.{front_is}
use Rattle.planners.proofs.Searched.{LeastWritten}

-- The test on the lengths of two buffers.
module _ (card : Card) (n p w : ℕ) where
  pub plan_lacks : p < card.header.slots → true ≡ either_short n (show_of card) p w
  unfolding either_short
  plan_lacks less = rw (lt-ltb p (show_of card).slots (omega (arith, card.header_is.slots_is)))

  pub work_decides : card.header.slots ≤ p → ltb w n ≡ either_short n (show_of card) p w
  unfolding either_short
  work_decides long = rw (le-ltb p (show_of card).slots (omega (arith, card.header_is.slots_is)))

-- Buffers that are long enough.
pub buffers_given :
    {card : Card} {n : ℕ} {p w : List ℕ} {short : Bool} →
    short ≡ either_short n (show_of card) (length p) (length w) → short ≡ false → Buffers card n p w
unfolding either_short
buffers_given {card} {p = p} is none =
    let e = sym is ∙ none in
    record {
      plan_room = ltb-false _ _ (or_left _ _ e);
      work_room = ltb-false _ _ (or_right (ltb (length p) (show_of card).slots) _ e);
    }

-- The work bytes of a planner hold one for each slot.
work_enough : (k : Planner) (i : Instance) → 1 ≤ length (allowed_counts k i.modules) → i.slots ≤ work_bytes k i
unfolding allowed_counts work_bytes
work_enough exact i some = omega arith
work_enough coarse i some = omega arith
work_enough (listed l r) i some = omega (arith, mul-le-mul_right i.slots some)

answer_if : Bool → Answer
answer_if kept = cond (not kept) (Err CountList) (Ok 0)

kept_if : (kept : Bool) {n : ℕ} → answer_if kept ≡ Ok n → kept ≡ true
unfolding answer_if
kept_if true e = refl
kept_if false e = cc

broken_if : (kept : Bool) {x : Refusal} → answer_if kept ≡ Err x → (kept ≡ false) × (x ≡ CountList)
unfolding answer_if
broken_if true e = (cc, cc)
broken_if false e = (refl, cc)

-- What the test of a planner's list says: the list keeps the rules, or the refusal is 18.
pub list_kept : (k : Planner) (i : Instance) {n : ℕ} → first_of (list_tests k i) (Ok 0) ≡ Ok n → KeepsRules k i
unfolding first_of answer_if
list_kept exact i e = refl
list_kept coarse i e = refl
list_kept (listed l r) i e = kept_if (keeps_list (listed l r) i) e

pub list_broken : (k : Planner) (i : Instance) {x : Refusal} → first_of (list_tests k i) (Ok 0) ≡ Err x → (keeps_list k i ≡ false) × (x ≡ CountList)
unfolding first_of answer_if
list_broken exact i e = (cc, cc)
list_broken coarse i e = (cc, cc)
list_broken (listed l r) i e = broken_if (keeps_list (listed l r) i) e

-- A cost and two buffers at exit are those of a planner's plan, where p and w are the buffers at entry.
abbrev pub PlanWritten : Planner → Instance → (p w : List ℕ) (cost : ℕ) (plan work : List ℕ) → Type 0
PlanWritten k i p w cost plan work =
    (cost ≡ planned_cost k i) × ((plan ≡ written_over (planned_by k i) p) × (work ≡ written_over (replicate (work_bytes k i) 0) w))

-- The counts allowed a planner at the front of the numbers, as a list that is searched.
module _
    (k : Planner) {card : Card} {p w : List ℕ} (keeps : KeepsRules k (show_of card)) (b : BuffersFor k card p w) (old : List ℕ) {new : List ℕ} {n : ℕ}
    (size : n ≡ length (allowed_counts k (show_of card).modules)) (filled : new ≡ written_over (allowed_counts k (show_of card).modules) old)
    {asked : ℕ} (Asked-is : asked ≡ work_bytes k (show_of card)) where
  own : take n new ≡ allowed_counts k (show_of card).modules
  own = front_is _ old size filled

  pub counts_ready : CountsReady card (take n new) asked p w
  counts_ready =
      let asc = (planner_rules k (show_of card) (accepted_bounds _ card.accepted).modules.0 keeps).ascending in
      rw (own, Asked-is) (record { buffers = b; allowed = asc; enough = work_enough k (show_of card) (omega (arith, asc.two)) })

  pub plan_written :
      {cost : ℕ} {plan work : List ℕ} → LeastWritten (show_of card) (take n new) asked p w cost plan work →
      PlanWritten k (show_of card) p w cost plan work
  unfolding planned_by
  plan_written found = rw (← own, ← Asked-is) found

-- An answer and two buffers are those of a planner at exit.
abbrev pub Planned : Planner → (s p w : List ℕ) → Answer → (plan work : List ℕ) → Type 0
Planned k s p w a plan work =
    (a ≡ answer (plan_show k s p w)) × ((plan ≡ plan_at_exit (plan_show k s p w)) × (work ≡ work_at_exit (plan_show k s p w)))

module _ (k : Planner) (s p w : List ℕ) where
  -- A refusal leaves the buffers as they were.
  planned_kept : {x : Refusal} → answer (plan_show k s p w) ≡ Err x → Planned k s p w (Err x) p w
  unfolding at_exit
  planned_kept e = (sym e, (rw (plan_at_exit_lem k s p w, e), rw (work_at_exit_lem k s p w, e)))

  pub plan_refused : {x : Refusal} → answer (check_card s) ≡ Err x → Planned k s p w (Err x) p w
  plan_refused e = planned_kept (planner_refused k s p w e)

module _ (k : Planner) (card : Card) (p w : List ℕ) where
  abbrev s : List ℕ
  s = card.bytes.now

  -- The test on the lengths of the buffers is the call's.
  short_is : any_short (spec_of (plan_show k s p w)).buffers ≡ short_for k (show_of card) (length p) (length w)
  unfolding spec_of any_short either_short
  short_is = ap (λ (b : Bool). ltb (length p) (show_of card).slots || b) (or-false _)

  -- Where the rules for a list are not kept, the planner is refused.
  pub plan_unlisted : keeps_list k (show_of card) ≡ false → Planned k s p w (Err CountList) p w
  plan_unlisted broken = planned_kept k s p w (planner_unlisted k s p w card.accepted broken)

  module _ (keeps : KeepsRules k (show_of card)) {short : Bool} (is : short ≡ short_for k (show_of card) (length p) (length w)) where
    -- Where a buffer is too short, the planner is refused.
    pub plan_short : short ≡ true → Planned k s p w (Err BufferTooShort) p w
    plan_short e = planned_kept k s p w (planner_short k s p w card.accepted keeps (short_is ∙ (sym is ∙ e)))

    -- Where none is, the planner's plan and its cost are given.
    pub plan_done :
        short ≡ false → {cost : ℕ} {plan work : List ℕ} → PlanWritten k (show_of card) p w cost plan work →
        Planned k s p w (Ok cost) plan work
    unfolding at_exit
    plan_done none (cost_is, (plan_is, work-is)) =
        let e = planner_cost k s p w card.accepted keeps (short_is ∙ (sym is ∙ none)) in
        (ap Ok cost_is ∙ sym e, (plan_is ∙ rw (plan_at_exit_lem k s p w, e), work-is ∙ rw (work_at_exit_lem k s p w, e)))
