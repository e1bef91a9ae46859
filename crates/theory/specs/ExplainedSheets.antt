-- The explanation of a sheet as a call (document 02, §7): its answer by that of marking, `explains_marked`; what its three numbers promise,
-- `none_negative`, `above_least`, `zero_exactly`; and what it says of the sheets of plans, `made_explained`, `planner_explained`,
-- `exact_planner_explained`.
use Rattle.std.specs.Prelude.{ℕ, ◌≤◌, ◌<◌, ◌≡◌, refl, true, List, length, take}
use Rattle.basics.specs.Core.{sym, ap, ◌∙◌, arith, lt-ltb, le-ltb, ltb-false}
use Rattle.basics.specs.Tests.{or_left}
use Rattle.model.specs.declared.Refusal.{Refusal}
use Rattle.model.specs.declared.Refusal.TheVariants.{BufferTooShort}
use Rattle.model.specs.Answers.{Answer}
use Rattle.std.specs.Prelude.{Ok, Err}
use Rattle.model.specs.Answers.{number_of}
use Rattle.model.specs.Instance.{Instance, instance_of}
use Rattle.model.specs.Sheets.{serves}
use Rattle.model.specs.Plans.{sheet_of}
use Rattle.model.specs.Planners.{Planner, exact, work_bytes, planned_by}
use Rattle.model.specs.Explanation.{excess_operating_cost, excess_switching_cost, excess_of_counts}
use Rattle.model.specs.Specs.{sheet_tests, first_of, work_buffer, any_short, at_exit, sheet_bytes}
use Rattle.model.specs.Calls.{check_card, plan_show, mark_sheet, explain_sheet, spec_of, answer, Accepted, buffers_at_exit, make_sheet, sheet_at_exit}
use Rattle.model.specs.Calls.{plan_at_exit}
use Rattle.model.specs.ExplainedPoints.{explained_work, points_with, points_of}
use Rattle.model.specs.Promises.{made_sheet, ExplainsMarked, NoneNegative, AboveLeast, ZeroExactly}
use Rattle.laws.specs.AnswerNumber.{number_zero}
use Rattle.laws.specs.FirstRefusal.{none_applies, first_refused, first_through}
use Rattle.laws.specs.OnCard.{on_card_refused, on_card_passed, on_card_cost}
use Rattle.theory.specs.Hypotheses.{Plannable, PlanFits}
use Rattle.theory.specs.SheetLaws.{switching_at_least, plan_sheet_serves}
use Rattle.theory.specs.Condition3.{accepted_plannable, planned_fits}
use Rattle.theory.specs.Explanations.{spread_whole, counts_whole, points_together, spread_zero, swaps_zero, counts_zero, all_zero}
use Rattle.theory.specs.Explanations.{plan_points, exact_points}
use Rattle.theory.specs.Refusals.{succeeded}
use Rattle.theory.specs.RearrangedSheets.{swaps_zero_sheets}
use Rattle.theory.specs.Outcomes.{mark_accepts, mark_number, made_on, made_fits, sheet_written, best_fits}
use Rattle.theory.specs.Outcomes.{planner_on, planner_keeps, planner_answer, plan_written}

-- The answer of an explanation.
module _ (c s w : List ℕ) where
  -- Its work buffer at exit.
  pub work_left : explained_work (explain_sheet c s w) ≡ at_exit (answer (explain_sheet c s w)) (work_buffer exact (instance_of c) w)
  unfolding explained_work buffers_at_exit spec_of
  work_left = refl

  -- Where the card is refused, so is the explanation, with the same number.
  pub explain_refused : {x : Refusal} → answer (check_card c) ≡ Err x → answer (explain_sheet c s w) ≡ Err x
  unfolding answer spec_of
  explain_refused = on_card_refused c _ _

  pub explain_short : Accepted c → length w < work_bytes exact (instance_of c) → answer (explain_sheet c s w) ≡ Err BufferTooShort
  unfolding answer spec_of first_of any_short
  explain_short given less = on_card_passed c _ _ given ∙ rw (lt-ltb _ _ less)

  -- An explanation that answers a cost is on an accepted card, and its work buffer has at least the bytes asked for.
  explained_room : {n : ℕ} → answer (explain_sheet c s w) ≡ Ok n → Accepted c × (work_bytes exact (instance_of c) ≤ length w)
  unfolding answer spec_of any_short
  explained_room e = let (given, own) = on_card_cost c _ _ e in (given, ltb-false _ _ (or_left _ _ (none_applies _ _ own).0))

  module _ (given : Accepted c) (room : work_bytes exact (instance_of c) ≤ length w) where
    -- On an accepted card, with a work buffer that is long enough, marking's refusals decide.
    as_marking : answer (explain_sheet c s w) ≡ first_of (sheet_tests (instance_of c) s) (Ok 0)
    unfolding answer spec_of first_of any_short
    as_marking = on_card_passed c _ _ given ∙ rw (le-ltb _ _ room)

    pub explain_unmarked : {x : Refusal} → answer (mark_sheet c s) ≡ Err x → answer (explain_sheet c s w) ≡ Err x
    unfolding answer spec_of
    explain_unmarked e = as_marking ∙ first_refused (sheet_tests (instance_of c) s) _ refl (sym (on_card_passed c _ _ given) ∙ e)

    pub explain_marked : {n : ℕ} → answer (mark_sheet c s) ≡ Ok n → answer (explain_sheet c s w) ≡ Ok 0
    unfolding answer spec_of
    explain_marked e = as_marking ∙ first_through (sheet_tests (instance_of c) s) _ _ (sym (on_card_passed c _ _ given) ∙ e)

    -- An explanation that answers a cost is of a sheet that marking accepts.
    explained_marked : {n : ℕ} → answer (explain_sheet c s w) ≡ Ok n → number_of (answer (mark_sheet c s)) ≡ 0
    unfolding answer spec_of
    explained_marked e = ap number_of (on_card_passed c _ _ given ∙ first_through (sheet_tests (instance_of c) s) _ _ (sym as_marking ∙ e))

-- The number of an explanation is that of its answer.
points_number : (a : Answer) (i : Instance) (s : List ℕ) → (points_with a i s).number ≡ number_of a
unfolding points_with
points_number (Ok n) i s = refl
points_number (Err x) i s = refl

module _ (c s w : List ℕ) where
  number_is : (points_of c s w).number ≡ number_of (answer (explain_sheet c s w))
  unfolding points_of
  number_is = points_number (answer (explain_sheet c s w)) (instance_of c) s

  -- Number 0 is given for the sheets that marking accepts, with a work buffer that is long enough, and for no others.
  pub explains_marked : ExplainsMarked c s w (points_of c s w).number
  explains_marked = (
    λ e.
        let found = number_zero _ (sym number_is ∙ e) in
        let (given, room) = explained_room c s w found in
        (explained_marked c s w given room found, room),
    λ (marked, room).
        number_is ∙ ap number_of (explain_marked c s w ((mark_number c s).0 marked).0 room (number_zero _ marked)),
  )

  -- An explanation with number 0 is of a sheet that serves an accepted show.
  module _ (e : (points_of c s w).number ≡ 0) where
    accepted : Accepted c × (serves (instance_of c) s ≡ true)
    accepted = (mark_number c s).0 (explains_marked.0 e).0

    ready : Plannable (instance_of c)
    ready = accepted_plannable c accepted.0

    -- Its numbers are the three of the sheet.
    points_are : points_of c s w ≡ points_with (Ok 0) (instance_of c) s
    unfolding points_of
    points_are =
        let (marked, room) = explains_marked.0 e in
        rw (explain_marked c s w accepted.0 room (number_zero _ marked))

  pub none_negative : NoneNegative c s (points_of c s w)
  unfolding points_with excess_operating_cost excess_switching_cost excess_of_counts
  none_negative =
      record {
        spread_whole = λ e. rw (points_are e) (omega (arith, spread_whole (ready e) s (accepted e).1));
        swaps_whole = λ e. rw (points_are e) (omega (arith, switching_at_least (instance_of c) s));
        counts_whole = λ e. rw (points_are e) (omega (arith, counts_whole (ready e) s (accepted e).1));
      }

  pub above_least : AboveLeast c s (points_of c s w)
  unfolding points_with
  above_least e p v plan_room work_room =
      let planned = planner_answer exact c p v (accepted e).0 refl plan_room work_room in
      let marked = (mark_accepts c s (accepted e).0).1 (accepted e).1 in
      (ap number_of planned, rw (points_are e, planned, marked) (points_together (ready e) s (accepted e).1))

  pub zero_exactly : ZeroExactly c s (points_of c s w)
  unfolding points_with
  zero_exactly =
      record {
        spread_zero = λ e. rw (points_are e) (spread_zero (ready e) s (accepted e).1);
        swaps_zero = λ e. rw (points_are e) (swaps_zero (ready e) s (accepted e).1);
        swaps_zero_sheets = λ e. rw (points_are e) (swaps_zero_sheets (ready e) s (accepted e).1);
        counts_zero = λ e. rw (points_are e) (counts_zero (ready e) s);
        all_zero = λ e. rw (points_are e) (all_zero (ready e) s (accepted e).1);
      }

-- The sheets that our own plans make.
module _ (c w : List ℕ) (given : Accepted c) (room : work_bytes exact (instance_of c) ≤ length w) where
  -- The sheet of a plan is explained, and has spread 0 and swaps 0.
  plan_explained :
      (p : List ℕ) → PlanFits (instance_of c) p →
      ((points_of c (sheet_of (instance_of c) p) w).number ≡ 0) × ((points_of c (sheet_of (instance_of c) p) w).spread ≡ 0) ×
      ((points_of c (sheet_of (instance_of c) p) w).swaps ≡ 0)
  unfolding points_with
  plan_explained p fit =
      let i = instance_of c in
      let s = sheet_of i p in
      let zero = (explains_marked c s w).1 ((mark_number c s).1 (given, plan_sheet_serves i p fit), room) in
      (zero, rw (points_are c s w zero) (plan_points p fit).0, rw (points_are c s w zero) (plan_points p fit).1)

  -- The exact plan's sheet has no points above the least at all.
  exact_explained :
      points_of c (sheet_of (instance_of c) (planned_by exact (instance_of c))) w ≡ record { number = 0; spread = 0; swaps = 0; counts = 0 }
  unfolding points_with
  exact_explained =
      let i = instance_of c in
      let ready = accepted_plannable c given in
      let fit = planned_fits ready exact refl in
      let zero = (plan_explained (planned_by exact i) fit).0 in
      points_are c (sheet_of i (planned_by exact i)) w zero ∙
      rw ((plan_points (planned_by exact i) fit).0, (plan_points (planned_by exact i) fit).1, exact_points ready)

-- The sheet that the sheet call makes of any plan has spread 0 and swaps 0.
pub made_explained :
    (c p x w : List ℕ) → number_of (answer (make_sheet c p x)) ≡ 0 → work_bytes exact (instance_of c) ≤ length w →
    let points = points_of c (take (sheet_bytes (instance_of c)) (sheet_at_exit (make_sheet c p x))) w in
    (points.number ≡ 0) × (points.spread ≡ 0) × (points.swaps ≡ 0)
made_explained c p x w e room =
    let made = succeeded (make_sheet c p x) e in
    let given = made_on c p x made in
    rw (sheet_written c p x e) (plan_explained c w given room p (made_fits c p x made))

-- The sheets of the planners: the sheet that the plan bytes of a planner make has spread 0 and swaps 0, and that of the exact planner counts 0
-- too.
module _ (c p v w : List ℕ) (room : work_bytes exact (instance_of c) ≤ length w) where
  pub planner_explained :
      (k : Planner) → number_of (answer (plan_show k c p v)) ≡ 0 →
      let points = points_of c (made_sheet c (plan_at_exit (plan_show k c p v))) w in
      (points.number ≡ 0) × (points.spread ≡ 0) × (points.swaps ≡ 0)
  planner_explained k e =
      let planned = number_zero _ e in
      let given = planner_on k c p v planned in
      rw (plan_written k c p v e) (plan_explained c w given room _ (best_fits k c given (planner_keeps k c p v planned)))

  pub exact_planner_explained :
      number_of (answer (plan_show exact c p v)) ≡ 0 →
      points_of c (made_sheet c (plan_at_exit (plan_show exact c p v))) w ≡ record { number = 0; spread = 0; swaps = 0; counts = 0 }
  exact_planner_explained e = rw (plan_written exact c p v e) (exact_explained c w (planner_on exact c p v (number_zero _ e)) room)
