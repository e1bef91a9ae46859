-- An act of a sitting (document 02, §4) is answered and told the same, and does the same, in two sittings that agree as far as it can tell,
-- `AgreeAt`: in the phase, and once opened in the allowance, the submissions used, the least cost, whether a seat is empty, and the seat of the one
-- candidate that it is about: `answers_agree`, `told_agree`, `events_agree`. Also what a refused act does, `refused_does`, and how a submission on
-- an accepted card is answered, `submission_on_card`.
use Rattle.std.specs.Prelude.{ℕ, ◌≡◌, refl, Bool, true, false, cond, not, ◌&&◌, ◌||◌, List, [], ◌++◌, leb, eqb}
use Rattle.basics.specs.Core.{sym, ap, ◌∙◌, Option, option_get_or, option_elim}
use Rattle.basics.specs.Core.{not-true, not-false}
use Rattle.basics.specs.Tests.{and_left, and_right, or_left}
use Rattle.model.specs.declared.Refusal.{Refusal}
use Rattle.model.specs.Answers.{Answer}
use Rattle.std.specs.Prelude.{Ok, Err}
use Rattle.model.specs.Acts.{Act, open_sitting, seat_candidate, close_sitting, submit_sheet, read_least, read_lowest, read_used, Phase, unopened, opened}
use Rattle.model.specs.Acts.{closed, is_unopened, is_opened, is_closed, Facts, supervisor, no_seat, Event, nothing_done, submission_counted}
use Rattle.model.specs.Acts.{submission_refused, submission_tests, act_spec}
use Rattle.model.specs.Specs.{card_tests, sheet_tests, first_of}
use Rattle.model.specs.Calls.{mark_sheet, spec_of, answer, Accepted}
use Rattle.model.specs.Answers.{refusal_number}
use Rattle.model.specs.Instance.{instance_of}
use Rattle.model.specs.Sittings.{answer_to, marked_with, event_of, told}
use Rattle.laws.specs.FirstRefusal.{first_append, first_alike, alike_behind, none_applies, Alike}
use Rattle.laws.specs.OnCard.{on_card_passed, on_card_cost}

-- The candidate whose seat an act is about, where it is about one.
abbrev pub concerned : Act → ℕ
concerned (open_sitting d a c p w) = 0
concerned (seat_candidate d c) = c
concerned (close_sitting d) = 0
concerned (submit_sheet d c s) = d
concerned (read_least d) = d
concerned (read_lowest d c) = c
concerned (read_used d) = 0

-- Two sittings agree in all that the rules ask about them beside the phase, and about candidate c where c is not 0.
pub record SameAt (c : ℕ) (f g : Facts) : Type 0 where
  pub same_allowance : f.allowance ≡ g.allowance
  pub same_used : f.used ≡ g.used
  pub same_least : f.least ≡ g.least
  pub same_full : f.full ≡ g.full
  pub same_seated : eqb c 0 ≡ false → f.seated c ≡ g.seated c
  pub same_lowest : eqb c 0 ≡ false → f.lowest c ≡ g.lowest c

-- Two sittings agree as far as an act about candidate c can tell: in their phase, and once they are opened in the rest.
pub record AgreeAt (c : ℕ) (f g : Facts) : Type 0 where
  pub same_phase : f.phase ≡ g.phase
  pub once_opened : is_unopened f.phase ≡ false → SameAt c f g

-- Two tests that agree where a first one fails agree behind it.
or_same : (a : Bool) {b c : Bool} → (a ≡ false → b ≡ c) → (a || b) ≡ (a || c)
or_same true h = refl
or_same false h = h refl

-- An open sitting is not unopened.
open_not_unopened : (p : Phase) → is_opened p ≡ true → is_unopened p ≡ false
unfolding is_opened is_unopened
open_not_unopened unopened e = sym e
open_not_unopened opened e = refl
open_not_unopened closed e = refl

-- An act that is permitted while the sitting is open, or once it has been opened, finds it not unopened.
pub while_open : (a : Bool) (p : Phase) → not (a && is_opened p) ≡ false → is_unopened p ≡ false
while_open a p e = open_not_unopened p (and_right a _ (not-false _ e))

pub once_begun : (p : Phase) (b : Bool) → not (not (is_unopened p) && b) ≡ false → is_unopened p ≡ false
once_begun p b e = not-true _ (and_left (not (is_unopened p)) b (not-false _ e))

module _ {c : ℕ} {f g : Facts} (agree : AgreeAt c f g) where
  -- Candidate c has a seat in both sittings or in neither; 0 has none.
  no_seat_same : is_unopened f.phase ≡ false → no_seat f c ≡ no_seat g c
  no_seat_same o = or_same (eqb c 0) (λ e. ap not ((agree.once_opened o).same_seated e))

  -- Where candidate c has a seat, the lowest cost is the same in both.
  lowest_same : is_unopened f.phase ≡ false → no_seat f c ≡ false → f.lowest c ≡ g.lowest c
  lowest_same o e = (agree.once_opened o).same_lowest (or_left _ _ e)

-- The answer to an act is the same where the sittings agree as far as it can tell.
pub answers_agree : (a : Act) (f g : Facts) → AgreeAt (concerned a) f g → answer_to f a ≡ answer_to g a
unfolding answer_to act_spec Alike
answers_agree (open_sitting d a c p w) f g agree = refl
answers_agree (seat_candidate d c) f g agree =
    first_alike _ _ _ _ (
      refl,
      (
        ap (λ (p : Phase). not (supervisor d && is_opened p)) agree.same_phase,
        λ e.
            let s = agree.once_opened (while_open (supervisor d) _ e) in
            (refl, (or_same (eqb c 0) (λ z. rw (s.same_seated z, s.same_full)), λ e'. refl)),
      ),
    )
answers_agree (close_sitting d) f g agree =
    first_alike _ _ _ _ (refl, (ap (λ (p : Phase). not (supervisor d && is_opened p)) agree.same_phase, λ e. refl))
answers_agree (submit_sheet d c s) f g agree =
    first_alike _ _ _ _ (alike_behind (card_tests c) (submission_tests f d ++ sheet_tests (instance_of c) s)
    (submission_tests g d ++ sheet_tests (instance_of c) s) _ _ (
      refl,
      (
        ap (λ (p : Phase). not (not (supervisor d) && is_opened p)) agree.same_phase,
        λ e.
            let o = while_open (not (supervisor d)) _ e in
            let same = agree.once_opened o in (
              refl,
              (no_seat_same agree o, λ e. (refl, (rw (same.same_allowance, same.same_used), λ k. alike_behind (sheet_tests (instance_of c) s) [] [] _ _ refl))),
            ),
      ),
    ))
answers_agree (read_least d) f g agree =
    first_alike _ _ _ _ (
      refl,
      (
        ap (λ (p : Phase). not (not (is_unopened p) && (supervisor d || is_closed p))) agree.same_phase,
        λ e.
            let o = once_begun _ _ e in
            (refl, (ap (λ (b : Bool). not (supervisor d) && b) (no_seat_same agree o), λ e'. ap Ok (agree.once_opened o).same_least)),
      ),
    )
answers_agree (read_lowest d c) f g agree =
    first_alike _ _ _ _ (
      refl,
      (
        ap (λ (p : Phase). not (not (is_unopened p) && (supervisor d || eqb d c))) agree.same_phase,
        λ e.
            let o = once_begun _ _ e in
            (refl, (no_seat_same agree o, λ e'. ap (λ (l : Option ℕ). Ok (option_get_or l 0)) (lowest_same agree o e'))),
      ),
    )
answers_agree (read_used d) f g agree =
    first_alike _ _ _ _ (
      refl,
      (
        ap (λ (p : Phase). not (supervisor d && not (is_unopened p))) agree.same_phase,
        λ e. ap Ok (agree.once_opened (not-true _ (and_right (supervisor d) _ (not-false _ e)))).same_used,
      ),
    )

-- What is told of a lowest cost is the same where the sittings agree as far as the act can tell.
marked_agree :
    (a : Act) (f g : Facts) → AgreeAt (concerned a) f g → (r : Answer) → answer_to f a ≡ r →
    marked_with ((act_spec a).marked f) r ≡ marked_with ((act_spec a).marked g) r
unfolding answer_to act_spec marked_with
marked_agree (open_sitting d b c p w) f g h (Ok n) e = refl
marked_agree (seat_candidate d c) f g h (Ok n) e = refl
marked_agree (close_sitting d) f g h (Ok n) e = refl
marked_agree (submit_sheet d c s) f g h (Ok n) e = refl
marked_agree (read_least d) f g h (Ok n) e = refl
marked_agree (read_lowest d c) f g h (Ok n) e =
    let (permitted, (known, none)) = none_applies _ _ e in
    ap (λ (o : Option ℕ). option_elim o 0 (λ l. 1)) (lowest_same h (once_begun _ _ permitted) known)
marked_agree (read_used d) f g h (Ok n) e = refl
marked_agree a f g h (Err x) e = refl

-- What the caller is told is the same where the sittings agree as far as the act can tell.
pub told_agree : (a : Act) (f g : Facts) → AgreeAt (concerned a) f g → told f a ≡ told g a
unfolding told
told_agree a f g agree = rw (marked_agree a f g agree _ refl, answers_agree a f g agree)

-- What an act does is the same where the sittings agree as far as it can tell.
pub events_agree : (a : Act) (f g : Facts) → AgreeAt (concerned a) f g → event_of f a ≡ event_of g a
unfolding event_of
events_agree a f g agree = rw (answers_agree a f g agree)

-- What a refused act does is nothing, or it is a submission that is refused by 11 to 13 and counts.
pub refused_does :
    (P : Event → Type 0) (a : Act) (x : Refusal) → P nothing_done →
    ((d : ℕ) (c s : List ℕ) → a ≡ submit_sheet d c s → (leb 11 (refusal_number x) && leb (refusal_number x) 13) ≡ true → P submission_counted) →
    P ((act_spec a).refused x)
unfolding act_spec submission_refused
refused_does P (open_sitting d a c p w) x quiet counts = quiet
refused_does P (seat_candidate d c) x quiet counts = quiet
refused_does P (close_sitting d) x quiet counts = quiet
refused_does P (submit_sheet d c s) x quiet counts = either (leb 11 (refusal_number x) && leb (refusal_number x) 13) refl
  where
    either : (b : Bool) → (leb 11 (refusal_number x) && leb (refusal_number x) 13) ≡ b → P (cond b submission_counted nothing_done)
    either true e = counts d c s refl e
    either false e = quiet
refused_does P (read_least d) x quiet counts = quiet
refused_does P (read_lowest d c) x quiet counts = quiet
refused_does P (read_used d) x quiet counts = quiet

-- The caller of a submission that is answered with a cost has a seat.
pub submitted_seated : (f : Facts) (d : ℕ) (card s : List ℕ) {n : ℕ} → answer_to f (submit_sheet d card s) ≡ Ok n → no_seat f d ≡ false
unfolding answer_to act_spec
submitted_seated f d card s e = let (permitted, (seated, rest)) = none_applies _ _ (on_card_cost card _ _ e).1 in seated

-- 'each answered as marking does': on an accepted card a submission's own tests decide, and then marking's answer.
pub submission_on_card :
    (f : Facts) (d : ℕ) (card s : List ℕ) → Accepted card →
    answer_to f (submit_sheet d card s) ≡ first_of (submission_tests f d) (answer (mark_sheet card s))
unfolding answer_to act_spec answer spec_of
submission_on_card f d card s given =
    on_card_passed card _ _ given ∙ first_append (submission_tests f d) _ _
    ∙ ap (first_of (submission_tests f d)) (sym (on_card_passed card _ _ given))
