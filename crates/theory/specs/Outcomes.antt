-- What marking, the sheet call and the planners answer, by the card, the list and the buffers. Marking accepts a sheet exactly if it serves,
-- `mark_accepts`, `mark_number`; an accepted card with buffers long enough is planned by every planner that keeps the rules, `always_planned`; and
-- the three agree (condition 2): a plan makes a sheet that is marked at the cost named, `made_marked`, `planner_marked`.
use Rattle.std.specs.Prelude.{ℕ, ◌≤◌, ◌≡◌, refl, true, false, not, ◌↔◌, List, ◌∷◌, ◌++◌, length, get_or, take, leb}
use Rattle.basics.specs.Core.{sym, ap, ◌∙◌, take_at, leb-true}
use Rattle.basics.specs.Core.{le-leb, le-ltb, ltb-false, eqb-true, eq-eqb, not-false}
use Rattle.basics.specs.Tests.{every_at, every_all, or_left}
use Rattle.model.specs.declared.Refusal.{Refusal}
use Rattle.model.specs.declared.Refusal.TheVariants.{BufferTooShort, CountList}
use Rattle.model.specs.Answers.{Answer}
use Rattle.std.specs.Prelude.{Ok, Err}
use Rattle.model.specs.Answers.{number_of}
use Rattle.model.specs.Instance.{Instance, instance_of}
use Rattle.model.specs.Sheets.{serves, sheet_cost}
use Rattle.model.specs.Plans.{sheet_of, plan_cost, plan_in_rack}
use Rattle.model.specs.Planners.{Planner, exact, coarse, listed, work_bytes, keeps_list, planned_by, planned_cost}
use Rattle.model.specs.Specs.{Test, ◌when◌, list_tests, Buffer, plan_buffer, work_buffer, sheet_buffer, sheet_bytes, any_short, first_of, at_exit}
use Rattle.model.specs.Calls.{check_card, plan_show, make_sheet, mark_sheet, spec_of, answer, Accepted, buffers_at_exit, plan_at_exit, work_at_exit, sheet_at_exit}
use Rattle.model.specs.Promises.{KeepsRules}
use Rattle.laws.specs.AnswerNumber.{number_zero}
use Rattle.laws.specs.FirstRefusal.{none_applies}
use Rattle.laws.specs.OnCard.{on_card_refused, on_card_passed, on_card_accepted, on_card_cost}
use Rattle.theory.specs.Hypotheses.{PlanFits}
use Rattle.theory.specs.SheetLaws.{serves_parts, sheet_length_lem, plan_sheet_serves}
use Rattle.theory.specs.Condition3.{planned_fits, accepted_plannable}
use Rattle.theory.specs.Refusals.{succeeded}

-- After an answer with a cost the first k bytes of a buffer are the k bytes that are written.
pub written_taken :
    {a : Answer} {n : ℕ} (b : Buffer) (k : ℕ) → a ≡ Ok n → length b.writes ≡ k → take k (at_exit a b) ≡ b.writes
unfolding at_exit
written_taken b k e size = rw e (take_at b.writes _ k size)

-- Marking a sheet.
module _ (c s : List ℕ) where
  -- Marking that answers a cost is of a sheet that serves, on an accepted card.
  marked_serves : {n : ℕ} → answer (mark_sheet c s) ≡ Ok n → Accepted c × (serves (instance_of c) s ≡ true)
  unfolding answer spec_of
  marked_serves e =
      let (given, own) = on_card_cost c _ _ e in
      let (size, (entries, (light, none))) = none_applies _ _ own in
      (given, (serves_parts (instance_of c) s).1 (not-false _ size, not-false _ entries, not-false _ light))

  -- A sheet that serves is marked with its cost on an accepted card.
  serves_marked : Accepted c → serves (instance_of c) s ≡ true → answer (mark_sheet c s) ≡ Ok (sheet_cost (instance_of c) s)
  unfolding answer spec_of first_of
  serves_marked given e =
      let (size, entries, light) = (serves_parts (instance_of c) s).0 e in on_card_passed c _ _ given ∙ rw (size, entries, light)

  -- Marking on an accepted card gives the sheet's cost exactly if the sheet serves.
  pub mark_accepts : Accepted c → answer (mark_sheet c s) ≡ Ok (sheet_cost (instance_of c) s) ↔ serves (instance_of c) s ≡ true
  mark_accepts given = (λ e. (marked_serves e).1, serves_marked given)

  -- Marking gives number 0 exactly if the card is accepted and the sheet serves.
  pub mark_number : number_of (answer (mark_sheet c s)) ≡ 0 ↔ (Accepted c × (serves (instance_of c) s ≡ true))
  mark_number = (λ e. marked_serves (number_zero _ e), λ (given, e). ap number_of (serves_marked given e))

-- Making the sheet of a plan.
module _ (c p s : List ℕ) where
  -- The sheet buffer of the sheet call at exit.
  pub sheet_at_exit_lem : sheet_at_exit (make_sheet c p s) ≡ at_exit (answer (make_sheet c p s)) (sheet_buffer (instance_of c) p s)
  unfolding sheet_at_exit buffers_at_exit spec_of
  sheet_at_exit_lem = refl

  -- A sheet call that answers a cost is on an accepted card.
  pub made_on : {n : ℕ} → answer (make_sheet c p s) ≡ Ok n → Accepted c
  unfolding answer spec_of
  made_on = on_card_accepted c _ _

  -- Where the sheet call answers a cost, its buffer has at least the bytes asked for.
  pub made_room : {n : ℕ} → answer (make_sheet c p s) ≡ Ok n → sheet_bytes (instance_of c) ≤ length s
  unfolding answer spec_of any_short
  made_room e = ltb-false _ _ (or_left _ _ (none_applies _ _ (on_card_cost c _ _ e).1).0)

  -- Where the sheet call answers a cost, the plan has a sheet that can be written.
  pub made_fits : {n : ℕ} → answer (make_sheet c p s) ≡ Ok n → PlanFits (instance_of c) p
  unfolding answer spec_of plan_in_rack
  made_fits e =
      let (given, own) = on_card_cost c _ _ e in
      let (room, (size, (entries, (light, none)))) = none_applies _ _ own in
      record {
        steps = (accepted_plannable c given).steps;
        slotwise = eqb-true _ _ (not-false _ size);
        in_rack = λ t h. leb-true _ _ (every_at (instance_of c).slots _ (not-false _ entries) t h);
        served = not-false _ light;
      }

  -- Where the plan has a sheet that can be written and the buffer is long enough, the sheet call answers the plan's cost.
  fits_made :
      Accepted c → PlanFits (instance_of c) p → sheet_bytes (instance_of c) ≤ length s →
      answer (make_sheet c p s) ≡ Ok (plan_cost (instance_of c) p)
  unfolding answer spec_of first_of any_short plan_in_rack
  fits_made given fit room =
      let i = instance_of c in
      let rack = every_all i.slots (λ t. leb (get_or p t 0) i.modules) (λ t h. le-leb _ _ (fit.in_rack t h)) in
      on_card_passed c _ _ given ∙ rw (le-ltb _ _ room, eq-eqb _ _ fit.slotwise, rack, fit.served)

  -- Where the sheet call gives number 0, the first m × T bytes of its buffer at exit are the plan's sheet.
  pub sheet_written :
      number_of (answer (make_sheet c p s)) ≡ 0 → take (sheet_bytes (instance_of c)) (sheet_at_exit (make_sheet c p s)) ≡ sheet_of (instance_of c) p
  sheet_written e =
      rw sheet_at_exit_lem
      (written_taken (sheet_buffer (instance_of c) p s) (sheet_bytes (instance_of c)) (succeeded (make_sheet c p s) e) (sheet_length_lem (instance_of c) p))

  -- The sheet of a plan that the sheet call accepts is marked at the same cost.
  pub made_marked :
      number_of (answer (make_sheet c p s)) ≡ 0 →
      answer (mark_sheet c (take (sheet_bytes (instance_of c)) (sheet_at_exit (make_sheet c p s)))) ≡ answer (make_sheet c p s)
  unfolding plan_cost spec_of
  made_marked e =
      let made = succeeded (make_sheet c p s) e in
      rw (sheet_written e)
      (serves_marked c (sheet_of (instance_of c) p) (made_on made) (plan_sheet_serves (instance_of c) p (made_fits made)) ∙ sym made)

-- The sheet call accepts the plan q with the buffer s, and marking accepts the sheet that it writes, both with the answer a.
abbrev Marked : (c q s : List ℕ) → Answer → Type 0
Marked c q s a =
    (answer (make_sheet c q s) ≡ a) ×
    (answer (mark_sheet c (take (sheet_bytes (instance_of c)) (sheet_at_exit (make_sheet c q s)))) ≡ a)

-- The plan that a planner that keeps the rules gives for an accepted card.
module _ (k : Planner) (c : List ℕ) (given : Accepted c) (keeps : KeepsRules k (instance_of c)) where
  -- The plan has a sheet that can be written.
  pub best_fits : PlanFits (instance_of c) (planned_by k (instance_of c))
  best_fits = planned_fits (accepted_plannable c given) k keeps

  -- Sheet call and marking accept the plan at its cost.
  pub sheet_accepted :
      (s : List ℕ) → sheet_bytes (instance_of c) ≤ length s →
      Marked c (planned_by k (instance_of c)) s (Ok (planned_cost k (instance_of c)))
  unfolding planned_by
  sheet_accepted s room =
      let made = fits_made c (planned_by k (instance_of c)) s given best_fits room in
      (made, made_marked c (planned_by k (instance_of c)) s (ap number_of made) ∙ made)

-- A planner's tests on an accepted card: 18, which never applies to a planner that has no list, and then 10.
planner_list :
    (k : Planner) (i : Instance) (ts : List Test) (a : Answer) →
    first_of (list_tests k i ++ ts) a ≡ first_of (CountList when not (keeps_list k i) ∷ ts) a
unfolding first_of
planner_list exact i ts a = refl
planner_list coarse i ts a = refl
planner_list (listed l r) i ts a = refl

-- The planners.
module _ (k : Planner) (c p w : List ℕ) where
  -- The plan buffer of a planner at exit.
  pub plan_at_exit_lem : plan_at_exit (plan_show k c p w) ≡ at_exit (answer (plan_show k c p w)) (plan_buffer k (instance_of c) p)
  unfolding plan_at_exit buffers_at_exit spec_of
  plan_at_exit_lem = refl

  -- The work buffer of a planner at exit.
  pub work_at_exit_lem : work_at_exit (plan_show k c p w) ≡ at_exit (answer (plan_show k c p w)) (work_buffer k (instance_of c) w)
  unfolding work_at_exit buffers_at_exit spec_of
  work_at_exit_lem = refl

  -- A planner that answers a cost is on an accepted card.
  pub planner_on : {n : ℕ} → answer (plan_show k c p w) ≡ Ok n → Accepted c
  unfolding answer spec_of
  planner_on = on_card_accepted c _ _

  -- On a card that is refused a planner is refused too, with the same number.
  pub planner_refused : {x : Refusal} → answer (check_card c) ≡ Err x → answer (plan_show k c p w) ≡ Err x
  unfolding answer spec_of
  planner_refused = on_card_refused c _ _

  -- A planner that answers a cost keeps the rules.
  pub planner_keeps : {n : ℕ} → answer (plan_show k c p w) ≡ Ok n → KeepsRules k (instance_of c)
  unfolding answer spec_of
  planner_keeps e = not-false _ (none_applies _ _ (sym (planner_list k _ _ _) ∙ (on_card_cost c _ _ e).1)).0

  -- Where a planner answers a cost, its buffers have at least the bytes asked for.
  pub planner_room :
      {n : ℕ} → answer (plan_show k c p w) ≡ Ok n → ((instance_of c).slots ≤ length p) × (work_bytes k (instance_of c) ≤ length w)
  unfolding answer spec_of any_short
  planner_room e =
      let (keeps, (room, none)) = none_applies _ _ (sym (planner_list k _ _ _) ∙ (on_card_cost c _ _ e).1) in
      let first = or_left _ _ room in
      (ltb-false _ _ first, ltb-false _ _ (or_left _ _ (rw first at room)))

  -- On an accepted card a list against the rules is refused by 18, whatever the buffers are.
  pub planner_unlisted :
      Accepted c → keeps_list k (instance_of c) ≡ false → answer (plan_show k c p w) ≡ Err CountList
  unfolding answer spec_of first_of
  planner_unlisted given against = on_card_passed c _ _ given ∙ planner_list k _ _ _ ∙ rw against

  -- The answer on an accepted card of a planner that keeps the rules, by the buffers.
  module _ (given : Accepted c) (keeps : KeepsRules k (instance_of c)) where
    pub planner_short : any_short (spec_of (plan_show k c p w)).buffers ≡ true → answer (plan_show k c p w) ≡ Err BufferTooShort
    unfolding answer spec_of first_of
    planner_short short = on_card_passed c _ _ given ∙ planner_list k _ _ _ ∙ rw (keeps, short)

    pub planner_cost :
        any_short (spec_of (plan_show k c p w)).buffers ≡ false → answer (plan_show k c p w) ≡ Ok (planned_cost k (instance_of c))
    unfolding answer spec_of first_of
    planner_cost room = on_card_passed c _ _ given ∙ planner_list k _ _ _ ∙ rw (keeps, room)

    -- The planner answers its cost wherever the buffers have the bytes asked for.
    pub planner_answer :
        (instance_of c).slots ≤ length p → work_bytes k (instance_of c) ≤ length w →
        answer (plan_show k c p w) ≡ Ok (planned_cost k (instance_of c))
    unfolding spec_of any_short
    planner_answer room work = planner_cost (rw (le-ltb _ _ room, le-ltb _ _ work))

    -- The card is planned wherever the buffers have the bytes asked for.
    pub always_planned :
        (instance_of c).slots ≤ length p → work_bytes k (instance_of c) ≤ length w → number_of (answer (plan_show k c p w)) ≡ 0
    always_planned room work = ap number_of (planner_answer room work)

  -- Where a planner gives number 0, the first T bytes of its plan buffer at exit are its plan.
  pub plan_written :
      number_of (answer (plan_show k c p w)) ≡ 0 → take (instance_of c).slots (plan_at_exit (plan_show k c p w)) ≡ planned_by k (instance_of c)
  plan_written e =
      let planned = succeeded (plan_show k c p w) e in
      let fit = best_fits k c (planner_on planned) (planner_keeps planned) in
      rw plan_at_exit_lem (written_taken (plan_buffer k (instance_of c) p) _ planned fit.slotwise)

  -- Where a planner gives number 0, sheet call and marking accept the plan that it writes, with the planner's answer.
  pub planner_marked :
      number_of (answer (plan_show k c p w)) ≡ 0 → (s : List ℕ) → sheet_bytes (instance_of c) ≤ length s →
      Marked c (take (instance_of c).slots (plan_at_exit (plan_show k c p w))) s (answer (plan_show k c p w))
  unfolding spec_of
  planner_marked e s room =
      let planned = succeeded (plan_show k c p w) e in
      rw (plan_written e, planned) (sheet_accepted k c (planner_on planned) (planner_keeps planned) s room)
