-- What a sitting never tells (document 02, §4): a candidate the least cost before closing, `least_hidden`; where all acts are lent one card, a
-- lowest cost below the least, `lowest_at_least`; more submissions used than the allowance, `submissions_within`. An accepted opening is answered
-- as the exact planner, `opened_planned`, and a submission that 1 to 8 and 15 to 17 let pass as marking, `submission_as_marking`.
use Rattle.std.specs.Prelude.{ℕ, zero, suc, ◌≤◌, ◌≡◌, refl, Bool, true, false, cond, not, ◌&&◌, List, [], ◌∷◌, map, get_or, eqb}
use Rattle.basics.specs.Core.{sym, ap, ◌∙◌, subst, true≢false}
use Rattle.basics.specs.Core.{Option, none, some, option_get_or, option_elim, none-ne-some, some-injective, ⊎_elim, arith}
use Rattle.basics.specs.Core.{eq-eqb}
use Rattle.basics.specs.Numbers.{true_or_false}
use Rattle.basics.specs.Members.{Each, each_all}
use Rattle.basics.specs.FirstPlace.{first_place, change_first}
use Rattle.model.specs.declared.Refusal.TheVariants.{NotPermitted}
use Rattle.model.specs.Answers.{Answer}
use Rattle.std.specs.Prelude.{Ok, Err}
use Rattle.model.specs.declared.Seat.{Seat}
use Rattle.model.specs.declared.Sitting.{Sitting}
use Rattle.model.specs.Answers.{number_of, cost_of}
use Rattle.model.specs.Instance.{instance_of}
use Rattle.model.specs.Sheets.{sheet_cost}
use Rattle.model.specs.Planners.{exact, planned_cost}
use Rattle.model.specs.Acts.{Act, open_sitting, seat_candidate, close_sitting, submit_sheet, read_least, read_lowest, read_used, is_unopened}
use Rattle.model.specs.Acts.{is_closed, Facts, Event, opening_done, nothing_done}
use Rattle.model.specs.Acts.{submission_tests, act_spec}
use Rattle.model.specs.SittingState.{Place, State, is_for, empty_place, seated_place, marked_place, lower_of, facts_of, after, phase_of, state_of}
use Rattle.model.specs.Specs.{Passes}
use Rattle.model.specs.Calls.{plan_show, mark_sheet, act_in, spec_of, answer, Accepted}
use Rattle.model.specs.Sittings.{answer_to, marked_with, event_with, event_of, told, told_by, reply_with, reply_of, seats_at_exit, left_by, LentCard}
use Rattle.model.specs.Sittings.{StartsAfresh, from_unopened, from_opening, effect_of, costs_of}
use Rattle.laws.specs.FirstRefusal.{first_hit, first_append, none_applies, first_through}
use Rattle.laws.specs.OnCard.{on_card_cost}
use Rattle.laws.specs.SittingLaws.{once_begun, refused_does, submission_on_card}
use Rattle.theory.specs.Condition3.{planner_bound, accepted_plannable}
use Rattle.theory.specs.Outcomes.{mark_accepts, mark_number, planner_cost}
use Rattle.theory.specs.Refusals.{succeeded}
use Rattle.theory.specs.SittingEvents.{Possible, nothing_possible, opening_possible, closing_possible, counted_possible, seating_possible}
use Rattle.theory.specs.SittingEvents.{marked_possible, acts_possible}
use Rattle.theory.specs.SittingRuns.{left_state}

-- 'reads the least cost only after closing': until then every caller but the supervisor is refused by 15.
pub least_hidden : (f : Facts) (d : ℕ) → is_closed f.phase ≡ false → eqb d 0 ≡ false → answer_to f (read_least d) ≡ Err NotPermitted
unfolding answer_to act_spec
least_hidden f d before candidate = first_hit _ _ _ (rw (candidate, before) (either (is_unopened f.phase)))
  where
    either : (b : Bool) → not (not b && false) ≡ true
    either true = refl
    either false = refl

-- An opening that is accepted is answered as the exact planner.
pub opened_planned :
    (z : Sitting) (xs : List Seat) (d a : ℕ) (c p w : List ℕ) → number_of (answer (act_in z xs (open_sitting d a c p w))) ≡ 0 →
    answer (plan_show exact c p w) ≡ answer (act_in z xs (open_sitting d a c p w))
unfolding answer spec_of act_spec
opened_planned z xs d a c p w e =
    let opened = succeeded (act_in z xs (open_sitting d a c p w)) e in
    let (given, own) = on_card_cost c _ _ opened in
    planner_cost exact c p w given refl (none_applies _ _ own).0 ∙ sym opened

-- 'each answered as marking does': a submission that 1 to 8 and 15 to 17 let pass is answered as marking answers it.
pub submission_as_marking :
    (f : Facts) (d : ℕ) (card s : List ℕ) → Accepted card → Passes (submission_tests f d) →
    answer_to f (submit_sheet d card s) ≡ answer (mark_sheet card s)
submission_as_marking f d card s given passed =
    submission_on_card f d card s given ∙ first_through (submission_tests f d) _ _ passed

-- A sheet that is marked in a sitting costs at least the least cost of its card (condition 3).
submitted_least :
    (f : Facts) (d : ℕ) (card s : List ℕ) {n : ℕ} → answer_to f (submit_sheet d card s) ≡ Ok n → planned_cost exact (instance_of card) ≤ n
unfolding answer_to act_spec
submitted_least f d card s {n} e =
    let (given, own) = on_card_cost card _ _ e in
    let passed = first_through (submission_tests f d) (Ok 0) _ (sym (first_append (submission_tests f d) _ _) ∙ own) in
    let marked : answer (mark_sheet card s) ≡ Ok n = sym (submission_as_marking f d card s given passed) ∙ e in
    let serving = ((mark_number card s).0 (ap number_of marked)).1 in
    let cost : sheet_cost (instance_of card) s ≡ n = ap cost_of (sym ((mark_accepts card s given).1 serving) ∙ marked) in
    omega (arith, planner_bound exact (accepted_plannable card given) refl s serving)

module _ (P : Place → Type 0) where
  -- What holds of every seat holds of each, and of an empty one beyond them.
  each_seat_at : P empty_place → (ps : List Place) → Each P ps → (k : ℕ) → P (get_or ps k empty_place)
  each_seat_at e [] h k = e
  each_seat_at e (p ∷ ps) (first, rest) zero = first
  each_seat_at e (p ∷ ps) (first, rest) (suc k) = each_seat_at e ps rest k

  -- It holds of every seat after an opening, if it holds of an empty one.
  each_seat_emptied : P empty_place → (ps : List Place) → Each P (map (λ p. empty_place) ps)
  each_seat_emptied e [] = tt
  each_seat_emptied e (p ∷ ps) = (e, each_seat_emptied e ps)

  -- It holds of every seat after a change that keeps it.
  each_seat_changed :
      (f : Place → Bool) (g : Place → Place) → ((p : Place) → P p → P (g p)) → (ps : List Place) → Each P ps →
      Each P (change_first f g ps)
  unfolding change_first
  each_seat_changed f g kept [] h = h
  each_seat_changed f g kept (p ∷ ps) (first, rest) =
      ⊎_elim
      (λ (t : f p ≡ true). rw t (kept p first, rest))
      (λ (t : f p ≡ false). rw t (first, each_seat_changed f g kept ps rest))
      (true_or_false (f p))

-- A seat's lowest cost is at least a bound, if it has one.
abbrev NotBelow : ℕ → Place → Type 0
NotBelow l p = (v : ℕ) → p.lowest ≡ some v → l ≤ v

-- The lower of a lowest cost so far and a new cost is not below a bound that neither is below.
lower_not_below : {l n : ℕ} → l ≤ n → (p : Place) → NotBelow l p → NotBelow l (marked_place n p)
unfolding lower_of
lower_not_below {l} {n} new p before v e = go p.lowest before (some-injective _ _ e)
  where
    go : (o : Option ℕ) → ((u : ℕ) → o ≡ some u → l ≤ u) → lower_of o n ≡ v → l ≤ v
    go none b same = omega arith
    go (some u) b same = let above = b u refl in omega arith

-- What holds in a sitting whose sheets all cost at least a bound: no more submissions are used than the allowance, and no seat's lowest cost
-- is below the bound.
record Bounded (l : ℕ) (s : State) : Type 0 where
  within : is_unopened s.phase ≡ false → s.used ≤ s.allowance
  above : is_unopened s.phase ≡ false → Each (NotBelow l) s.places

-- What has happened marks no sheet below a bound.
MarksAtLeast : ℕ → Event → Type 0
MarksAtLeast l e = (c : ℕ) → Each (λ n. l ≤ n) (costs_of c e)

-- It holds after an opening, whatever was before.
opening_bounded : (l : ℕ) (s : State) (a n : ℕ) → Bounded l (after (opening_done a n) s)
unfolding after
opening_bounded l s a n =
    record {
      within = λ o. omega arith;
      above = λ o. each_seat_emptied (NotBelow l) (λ v e. absurd (none-ne-some v e)) s.places;
    }

-- It holds after everything that can happen, if no sheet is marked below the bound.
event_bounded : {l : ℕ} {s : State} {e : Event} → Possible s e → MarksAtLeast l e → Bounded l s → Bounded l (after e s)
unfolding after is_unopened MarksAtLeast effect_of
event_bounded nothing_possible marks b = b
event_bounded {l} {s} (opening_possible a n) marks b = opening_bounded l s a n
event_bounded (closing_possible o) marks b = record { within = λ o'. b.within o; above = λ o'. b.above o }
event_bounded (counted_possible o spare) marks b = record { within = λ o'. omega arith; above = λ o'. b.above o }
event_bounded {l} {s} (seating_possible c o real absent free) marks b =
    record {
      within = b.within;
      above = λ o'. each_seat_changed (NotBelow l) (is_for 0) (seated_place c) (λ p h v e. absurd (none-ne-some v e)) s.places (b.above o);
    }
event_bounded {l} {s} (marked_possible c n o spare real found) marks b =
    let (at_least_lem, rest) = rw (eq-eqb c c refl) at (marks c) in
    record {
      within = λ o'. omega arith;
      above = λ o'. each_seat_changed (NotBelow l) (is_for c) (marked_place n) (lower_not_below at_least_lem) s.places (b.above o);
    }

-- Runs of acts none of which marks a sheet below a bound.
module _ (l : ℕ) (Fine : Act → Type 0)
    (marks : (f : Facts) (a : Act) → Fine a → (r : Answer) → answer_to f a ≡ r →
    MarksAtLeast l (event_with (act_spec a).done (act_spec a).refused r)) where
  -- An act keeps what holds.
  act_bounded :
      (z : Sitting) (xs : List Seat) (a : Act) → Fine a → Bounded l (state_of z xs) → Bounded l (state_of (reply_of z xs a).sitting (seats_at_exit z xs a))
  unfolding event_of
  act_bounded z xs a fine b =
      subst (Bounded l) (sym (left_state z xs a))
      (event_bounded (acts_possible (state_of z xs) a _ refl) (marks (facts_of (state_of z xs)) a fine _ refl) b)

  run_bounded :
      (acts : List Act) → Each Fine acts → (z : Sitting) (xs : List Seat) → Bounded l (state_of z xs) →
      Bounded l (state_of (left_by z xs acts).0 (left_by z xs acts).1)
  unfolding left_by
  run_bounded [] fine z xs b = b
  run_bounded (a ∷ more) (fine, rest) z xs b =
      run_bounded more rest (reply_of z xs a).sitting (seats_at_exit z xs a) (act_bounded z xs a fine b)

  -- It holds after every list of acts that starts afresh.
  afresh_bounded :
      {z : Sitting} {xs : List Seat} {acts : List Act} → StartsAfresh z xs acts → Each Fine acts →
      Bounded l (state_of (left_by z xs acts).0 (left_by z xs acts).1)
  unfolding left_by is_unopened event_of event_with act_spec
  afresh_bounded {z} {xs} (from_unopened acts e) fine =
      let never : is_unopened (phase_of z.state) ≡ false → ⊥ = λ o. true≢false (sym (ap is_unopened e) ∙ o) in
      run_bounded acts fine z xs (record { within = λ o. absurd (never o); above = λ o. absurd (never o) })
  afresh_bounded {z} {xs} (from_opening d a c p w acts n e) (fine, rest) =
      let act = open_sitting d a c p w in
      let left = left_state z xs act ∙ ap (λ (r : Answer). after (event_with (opening_done a) (λ x. nothing_done) r) (state_of z xs)) e in
      run_bounded acts rest (reply_of z xs act).sitting (seats_at_exit z xs act)
      (subst (Bounded l) (sym left) (opening_bounded l (state_of z xs) a n))

-- No act that is lent a card marks a sheet below the least cost of this card.
none_below_least :
    (card : List ℕ) (f : Facts) (a : Act) → LentCard card a → (r : Answer) → answer_to f a ≡ r →
    MarksAtLeast (planned_cost exact (instance_of card)) (event_with (act_spec a).done (act_spec a).refused r)
unfolding MarksAtLeast effect_of event_with act_spec
none_below_least card f (open_sitting d a c p w) lent (Ok n) e k = tt
none_below_least card f (seat_candidate d c) lent (Ok n) e k = tt
none_below_least card f (close_sitting d) lent (Ok n) e k = tt
none_below_least card f (submit_sheet d c s) lent (Ok n) e k = either (eqb d k) (rw (sym lent.0) (submitted_least f d c s e))
  where
    either : {l : ℕ} (b : Bool) → l ≤ n → Each (λ m. l ≤ m) (cond b (n ∷ []) [])
    either true h = (h, tt)
    either false h = tt
none_below_least card f (read_least d) lent (Ok n) e k = tt
none_below_least card f (read_lowest d c) lent (Ok n) e k = tt
none_below_least card f (read_used d) lent (Ok n) e k = tt
none_below_least card f a lent (Err x) e k = refused_does (MarksAtLeast _) a x (λ k. tt) (λ d c s same counted k. tt) k

-- 'a spent allowance gets 17': whatever the acts, no more submissions are used than the allowance.
pub submissions_within :
    {z : Sitting} {xs : List Seat} {acts : List Act} → StartsAfresh z xs acts → is_unopened (phase_of (left_by z xs acts).0.state) ≡ false →
    (left_by z xs acts).0.submissions ≤ (left_by z xs acts).0.allowance
unfolding MarksAtLeast
submissions_within {acts = acts} start o =
    let marks : (e : Event) → MarksAtLeast 0 e = λ e c. each_all (λ n. 0 ≤ n) (λ n. omega arith) (costs_of c e) in
    (afresh_bounded 0 (λ a. Unit {0}) (λ f a fine r e. marks _) start (each_all (λ a. Unit {0}) (λ a. tt) acts)).within o

-- A lowest cost that is read is not below the bound.
read_bounded :
    {l : ℕ} {s : State} → Bounded l s → (d c : ℕ) → (told_by s (read_lowest d c)).marked ≡ 1 → l ≤ (told_by s (read_lowest d c)).cost
unfolding told_by told marked_with answer_to act_spec option_elim
read_bounded {l} {s} b d c e = go (answer_to (facts_of s) (read_lowest d c)) refl e
  where
    lowest : Option ℕ
    lowest = (facts_of s).lowest c

    read : (o : Option ℕ) → lowest ≡ o → is_unopened s.phase ≡ false → ◌≡◌ {A = ℕ} (option_elim o 0 (λ v. 1)) 1 → l ≤ option_get_or o 0
    read none is o marked = absurd (omega arith)
    read (some v) is o marked =
        each_seat_at (NotBelow l) (λ u h. absurd (none-ne-some u h)) s.places (b.above o) (first_place (is_for c) s.places) v is

    go : (r : Answer) → answer_to (facts_of s) (read_lowest d c) ≡ r → marked_with ((act_spec (read_lowest d c)).marked (facts_of s)) r ≡ 1 → l ≤ cost_of r
    go (Err x) is marked = absurd (omega arith)
    go (Ok n) is marked =
        let (permitted, rest) = none_applies _ _ is in
        let cost : option_get_or lowest 0 ≡ n = ap cost_of (sym (first_through _ (Ok (option_get_or lowest 0)) _ is) ∙ is) in
        omega (arith, read lowest refl (once_begun _ _ permitted) marked)

-- A candidate's lowest cost that is read is at least the least cost of the card that the acts are lent (by condition 3).
pub lowest_at_least :
    (card : List ℕ) {z : Sitting} {xs : List Seat} {acts : List Act} → StartsAfresh z xs acts → Each (LentCard card) acts → (d c : ℕ) →
    let reply = reply_of (left_by z xs acts).0 (left_by z xs acts).1 (read_lowest d c) in
    reply.marked ≡ 1 → planned_cost exact (instance_of card) ≤ reply.cost
unfolding reply_of reply_with
lowest_at_least card {z} {xs} {acts} start lent d c e =
    read_bounded (afresh_bounded (planned_cost exact (instance_of card)) (LentCard card) (none_below_least card) start lent) d c e
