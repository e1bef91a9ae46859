-- What the exports promise beyond the answer of the call below them.
use Rattle.std.specs.Prelude.{ℕ, ◌≡◌, refl, Bool, true, false, cond, List, take, eqb}
use Rattle.basics.specs.Core.{sym, ap, ◌∙◌, ne_eqb}
use Rattle.model.specs.Answers.{Answer}
use Rattle.std.specs.Prelude.{Ok, Err}
use Rattle.model.specs.declared.Refusal.TheVariants.{NotPermitted}
use Rattle.model.specs.declared.Seat.{Seat}
use Rattle.model.specs.declared.Sitting.{Sitting}
use Rattle.model.specs.declared.Reply.{Reply}
use Rattle.model.specs.declared.Points.{Points}
use Rattle.model.specs.Answers.{number_of, cost_of}
use Rattle.model.specs.Instance.{instance_of}
use Rattle.model.specs.Sheets.{serves, sheet_cost}
use Rattle.model.specs.Plans.{sheet_of}
use Rattle.model.specs.Planners.{Planner, exact, listed, allowed_counts, ratio_of, planned_by, planned_cost}
use Rattle.model.specs.Calls.{NumbersOf, Gives, Accepted, plan_show, make_sheet, mark_sheet, practice_card, catalogue_table, answer, plan_at_exit}
use Rattle.model.specs.Calls.{work_at_exit, sheet_at_exit, card_at_exit, table_at_exit, act_in, spec_of, buffers_at_exit, explain_sheet}
use Rattle.model.specs.Acts.{act_spec, Act, open_sitting, read_least, opened, unopened, is_closed}
use Rattle.model.specs.ExplainedPoints.{explained_work, points_of}
use Rattle.model.specs.SittingState.{facts_of, state_of, phase_of}
use Rattle.model.specs.Sittings.{answer_to, marked_with, told, told_by, reply_with, reply_of}
use Rattle.model.specs.Promises.{OwnSheet, AtMostTimes, MarkedAlike, AcceptsExactly, WritesAccepted, AlwaysEnough, HiddenTillClosed, WritesTable}
use Rattle.model.specs.Promises.{KeepsRules, LeastWithin, ExplainsMarked, NoneNegative, AboveLeast, ZeroExactly}
use Rattle.laws.specs.Acceptance.{accepted_bounds}
use Rattle.laws.specs.AnswerNumber.{number_zero}
use Rattle.theory.specs.CountLists.{planner_rules}
use Rattle.theory.specs.Condition3.{accepted_plannable, least_sheet, planner_bound}
use Rattle.theory.specs.Refusals.{succeeded}
use Rattle.theory.specs.ListedCounts.{within_least}
use Rattle.theory.specs.PracticeCards.{practice_writes, practice_enough}
use Rattle.theory.specs.SittingBounds.{least_hidden, opened_planned}
use Rattle.theory.specs.ExplainedSheets.{explains_marked, none_negative, above_least, zero_exactly}
use Rattle.theory.specs.Outcomes.{mark_number, made_marked, planner_on, planner_keeps, plan_written}

-- What is given of an answer is given of an equal one.
pub gives_as : {a b : Answer} {number cost : ℕ} → a ≡ b → NumbersOf a number cost → NumbersOf b number cost
gives_as e g = rw e at g

-- Marking.
module _ (s x : List ℕ) {a : Answer} (is : a ≡ answer (mark_sheet s x)) {number cost : ℕ} (given : NumbersOf a number cost) where
  pub marks :
      Gives (mark_sheet s x) number cost × AcceptsExactly s x number
  marks =
      let g = gives_as is given in (
        g,
        record {
          only_serving = λ e. (mark_number s x).0 (sym g.number_is ∙ e);
          every_serving = λ accepted serves. g.number_is ∙ (mark_number s x).1 (accepted, serves);
        },
      )

-- The sheet call.
module _
    (s p x : List ℕ) {a : Answer} {y : List ℕ} (exit : (a ≡ answer (make_sheet s p x)) × (y ≡ sheet_at_exit (make_sheet s p x)))
    {number cost : ℕ} (given : NumbersOf a number cost) where
  pub makes :
      Gives (make_sheet s p x) number cost × ((y ≡ sheet_at_exit (make_sheet s p x)) × MarkedAlike s y number cost)
  makes =
      let g = gives_as exit.0 given in (
        g,
        (
          exit.1,
          λ e.
              let zero : number_of (answer (make_sheet s p x)) ≡ 0 = sym g.number_is ∙ e in
              rw exit.1 (made_marked s p x zero ∙ (number_zero _ zero ∙ ap Ok (sym g.cost_is))),
        ),
      )

-- A planner.
module _ (k : Planner) (c p w : List ℕ) {number cost : ℕ} (given : Gives (plan_show k c p w) number cost) where
  success : number ≡ 0 → answer (plan_show k c p w) ≡ Ok (planned_cost k (instance_of c))
  unfolding spec_of
  success e = succeeded (plan_show k c p w) (sym given.number_is ∙ e)

  accepted : number ≡ 0 → Accepted c
  accepted e = planner_on k c p w (success e)

  keeps : number ≡ 0 → KeepsRules k (instance_of c)
  keeps e = planner_keeps k c p w (success e)

  cost_of_lem : number ≡ 0 → cost ≡ planned_cost k (instance_of c)
  cost_of_lem e = given.cost_is ∙ ap cost_of (success e)

  best_sheet :
      number ≡ 0 →
      (serves (instance_of c) (sheet_of (instance_of c) (planned_by k (instance_of c))) ≡ true) ×
      (sheet_cost (instance_of c) (sheet_of (instance_of c) (planned_by k (instance_of c))) ≡ cost)
  unfolding planned_by
  best_sheet e =
      let rules = planner_rules k (instance_of c) (accepted_bounds c (accepted e)).modules.0 (keeps e) in
      let sheet = least_sheet (accepted_plannable c (accepted e)) _ rules.ascending in
      (sheet.0, sheet.1 ∙ sym (cost_of_lem e))

  -- The first T plan bytes at exit are the planner's plan.
  taken : {plan : List ℕ} → plan ≡ plan_at_exit (plan_show k c p w) → number ≡ 0 → take (instance_of c).slots plan ≡ planned_by k (instance_of c)
  taken is e = rw is (plan_written k c p w (sym given.number_is ∙ e))

  own_sheet : {plan : List ℕ} → plan ≡ plan_at_exit (plan_show k c p w) → OwnSheet c plan number cost
  own_sheet is =
      record { sheet_serves = λ e. rw (taken is e) (best_sheet e).0; sheet_costs = λ e. rw (taken is e) (best_sheet e).1 }

  at_most : AtMostTimes (ratio_of k) c number cost
  at_most e s served = rw (cost_of_lem e) (planner_bound k (accepted_plannable c (accepted e)) (keeps e) s served)

-- A planner's answer and buffers at exit bring condition 3 with them.
pub plans :
    (k : Planner) (c p w : List ℕ) {a : Answer} {plan work : List ℕ} {number cost : ℕ} →
    (a ≡ answer (plan_show k c p w)) × ((plan ≡ plan_at_exit (plan_show k c p w)) × (work ≡ work_at_exit (plan_show k c p w))) →
    NumbersOf a number cost →
    Gives (plan_show k c p w) number cost ×
    ((plan ≡ plan_at_exit (plan_show k c p w)) ×
    ((work ≡ work_at_exit (plan_show k c p w)) × (OwnSheet c plan number cost × AtMostTimes (ratio_of k) c number cost)))
plans k c p w (is, (plan_is, work-is)) given =
    let g = gives_as is given in
    (g, (plan_is, (work-is, (own_sheet k c p w g plan_is, at_most k c p w g))))

-- The planner over a list brings with it, besides, that no sheet that keeps to the list costs less.
pub plans_listed :
    (l : List ℕ) (r : ℕ) (c p w : List ℕ) {a : Answer} {plan work : List ℕ} {number cost : ℕ} →
    (a ≡ answer (plan_show (listed l r) c p w)) ×
    ((plan ≡ plan_at_exit (plan_show (listed l r) c p w)) × (work ≡ work_at_exit (plan_show (listed l r) c p w))) →
    NumbersOf a number cost →
    Gives (plan_show (listed l r) c p w) number cost ×
    ((plan ≡ plan_at_exit (plan_show (listed l r) c p w)) ×
    ((work ≡ work_at_exit (plan_show (listed l r) c p w)) ×
    (OwnSheet c plan number cost × (AtMostTimes r c number cost × LeastWithin l c number cost))))
unfolding allowed_counts
plans_listed l r c p w exit given =
    let (g, (plan_is, (work-is, (own, bound)))) = plans (listed l r) c p w exit given in
    let k : Planner = listed l r in (
      g,
      (
        plan_is,
        (
          work-is,
          (
            own,
            (bound, λ e s served within. rw (cost_of_lem k c p w g e) (within_least k c (accepted k c p w g e) (keeps k c p w g e) s served within)),
          ),
        ),
      ),
    )

-- The practice call.
pub practises :
    (start : ℕ) (c : List ℕ) {a : Answer} {card : List ℕ} {number cost : ℕ} →
    (a ≡ answer (practice_card start c)) × (card ≡ card_at_exit (practice_card start c)) → NumbersOf a number cost →
    Gives (practice_card start c) number cost ×
    ((card ≡ card_at_exit (practice_card start c)) × (WritesAccepted card number × AlwaysEnough start c number))
practises start c {card = card} {number = number} (is, card-is) given =
    let g = gives_as is given in
    let written : number ≡ 0 → _ = λ e. practice_writes start c (sym g.number_is ∙ e) in (
      g,
      (
        card-is,
        (
          rw card-is (record { accepted = λ e. (written e).0; planned = λ e. (written e).1; at_most = λ e. (written e).2 }),
          λ some long. g.number_is ∙ practice_enough start c some long,
        ),
      ),
    )

-- The catalogue call.
pub catalogued :
    (top : ℕ) (f : List ℕ) {a : Answer} {table : List ℕ} {number cost : ℕ} →
    (a ≡ answer (catalogue_table top f)) × ((table ≡ table_at_exit (catalogue_table top f)) × WritesTable top table (number_of a)) →
    NumbersOf a number cost →
    Gives (catalogue_table top f) number cost × ((table ≡ table_at_exit (catalogue_table top f)) × WritesTable top table number)
catalogued top f (is, (table_is, writes)) given = (gives_as is given, (table_is, rw given.number_is writes))

-- An explanation's numbers bring their promises with them.
pub explains :
    (c s w : List ℕ) {points : Points} {work : List ℕ} → (points ≡ points_of c s w) × (work ≡ explained_work (explain_sheet c s w)) →
    (points ≡ points_of c s w) ×
    ((work ≡ explained_work (explain_sheet c s w)) ×
    (ExplainsMarked c s w points.number × (NoneNegative c s points × (AboveLeast c s points × ZeroExactly c s points))))
explains c s w (is, work-is) =
    (is, (work-is, rw is (explains_marked c s w, (none_negative c s w, (above_least c s w, zero_exactly c s w)))))

-- An opening that is accepted brings condition 3 with it, as the exact planner does.
module _ (z : Sitting) (xs : List Seat) (d a : ℕ) (c p w : List ℕ) where
  abbrev act : Act
  act = open_sitting d a c p w

  -- Its answer is the exact planner's.
  as_planner : (reply_of z xs act).number ≡ 0 → answer (plan_show exact c p w) ≡ answer (act_in z xs act)
  unfolding reply_of reply_with told_by told answer spec_of answer_to
  as_planner e = opened_planned z xs d a c p w e

  -- The numbers of its reply are those of its answer.
  replied : NumbersOf (answer (act_in z xs act)) (reply_of z xs act).number (reply_of z xs act).cost
  unfolding reply_of reply_with told_by told answer spec_of answer_to
  replied = record { number_is = refl; cost_is = refl }

  -- The plan that it leaves is the exact planner's.
  plan_left : (reply_of z xs act).number ≡ 0 → plan_at_exit (act_in z xs act) ≡ plan_at_exit (plan_show exact c p w)
  unfolding plan_at_exit buffers_at_exit spec_of act_spec
  plan_left e = rw (as_planner e)

  -- Its numbers are those of the exact planner.
  planned : (reply_of z xs act).number ≡ 0 → Gives (plan_show exact c p w) (reply_of z xs act).number (reply_of z xs act).cost
  planned e = gives_as (sym (as_planner e)) replied

  -- The clauses of its contract that speak of condition 3.
  module _ {r : Reply} (is : r ≡ reply_of z xs act) where
    pub opening_own_sheet : {plan : List ℕ} → plan ≡ plan_at_exit (act_in z xs act) → OwnSheet c plan r.number r.cost
    opening_own_sheet plan_is =
        rw (is, plan_is) (record {
          sheet_serves = λ e. (own_sheet exact c p w (planned e) (plan_left e)).sheet_serves e;
          sheet_costs = λ e. (own_sheet exact c p w (planned e) (plan_left e)).sheet_costs e;
        })

    pub opening_least : AtMostTimes 1 c r.number r.cost
    opening_least = rw is (λ e. at_most exact c p w (planned e) e)

-- A sitting whose number is not 2 is not closed.
not_closed : (n : ℕ) → (n ≡ 2 → ⊥) → is_closed (phase_of n) ≡ false
unfolding phase_of is_closed
not_closed n still = rw (ne_eqb n 2 still) (either (eqb n 1))
  where
    either : (b : Bool) → is_closed (cond b opened unopened) ≡ false
    either true = refl
    either false = refl

-- Reading the least cost before closing tells a candidate nothing.
pub hidden_till_closed :
    (z : Sitting) (xs : List Seat) (d : ℕ) {r : Reply} → r ≡ reply_of z xs (read_least d) → HiddenTillClosed z d r
unfolding reply_of reply_with told_by told marked_with
hidden_till_closed z xs d is =
    let refused : (z.state ≡ 2 → ⊥) → (d ≡ 0 → ⊥) → answer_to (facts_of (state_of z xs)) (read_least d) ≡ Err NotPermitted =
    λ still candidate. least_hidden (facts_of (state_of z xs)) d (not_closed z.state still) (ne_eqb d 0 candidate) in
    rw is (record {
      refused = λ still candidate. ap number_of (refused still candidate);
      no_cost = λ still candidate. ap cost_of (refused still candidate);
      none_marked = λ still candidate. ap (marked_with ((act_spec (read_least d)).marked (facts_of (state_of z xs)))) (refused still candidate);
    })
