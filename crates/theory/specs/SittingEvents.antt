-- What an act of a sitting can do, by the rules that its answer has passed (document 02, §4): `Possible` says which events can happen in a state,
-- and what an act does is one of them, `acts_possible`.
use Rattle.std.specs.Prelude.{ℕ, ◌<◌, ◌≡◌, refl, Bool, true, false, not, ◌&&◌, List, [], ◌∷◌, ◌++◌, map, leb, eqb}
use Rattle.basics.specs.Core.{sym, ap, ◌∙◌, true≢false, ⊎_elim}
use Rattle.basics.specs.Core.{not-false, leb-false}
use Rattle.basics.specs.Numbers.{true_or_false}
use Rattle.basics.specs.Tests.{or_left, or_right, and_left, and_right, all_of}
use Rattle.basics.specs.FirstPlace.{occurs}
use Rattle.model.specs.declared.Refusal.{Refusal}
use Rattle.model.specs.Answers.{Answer}
use Rattle.std.specs.Prelude.{Ok, Err}
use Rattle.model.specs.Answers.{refusal_number}
use Rattle.model.specs.Instance.{instance_of}
use Rattle.model.specs.Acts.{Act, open_sitting, seat_candidate, close_sitting, submit_sheet, read_least, read_lowest, read_used, is_unopened, Facts}
use Rattle.model.specs.Acts.{supervisor, no_seat, Event, nothing_done, opening_done, seating_done, closing_done, submission_counted, submission_marked}
use Rattle.model.specs.Acts.{submission_tests, act_spec}
use Rattle.model.specs.SittingState.{State, is_for, facts_of}
use Rattle.model.specs.Specs.{Test, card_tests, sheet_tests, first_of}
use Rattle.model.specs.Sittings.{answer_to, event_with}
use Rattle.laws.specs.FirstRefusal.{first_hit, first_skip, first_append, none_applies}
use Rattle.laws.specs.OnCard.{on_card_cost}
use Rattle.laws.specs.SittingLaws.{while_open, refused_does}

-- A refusal that is found behind some tests shows that none of those applies, where it differs from each of them in a test on the number.
passed_over :
    (test : ℕ → Bool) (ts us : List Test) (a : Answer) {y : Refusal} → all_of test (map (λ t. refusal_number t.refusal) ts) ≡ true →
    test (refusal_number y) ≡ false → first_of (ts ++ us) a ≡ Err y → first_of ts (Ok 0) ≡ Ok 0
unfolding all_of first_of
passed_over test [] us a all fails e = refl
passed_over test (t ∷ ts) us a {y} all fails e =
    ⊎_elim
    (λ (h : t.applies ≡ true).
    let same : t.refusal ≡ y = cc (first_hit t (ts ++ us) a h) in
    absurd (true≢false (sym (and_left _ _ all) ∙ ap (λ (r : Refusal). test (refusal_number r)) same ∙ fails)))
    (λ (h : t.applies ≡ false).
    rw h (passed_over test ts us a (and_right (test (refusal_number t.refusal)) _ all) fails (sym (first_skip t (ts ++ us) a h) ∙ e)))
    (true_or_false t.applies)

-- A submission that counts has been let pass by 15, 16 and 17.
record Counts (f : Facts) (d : ℕ) : Type 0 where
  open_still : is_unopened f.phase ≡ false
  seat_known : no_seat f d ≡ false
  not_spent : f.used < f.allowance

module _ (f : Facts) (d : ℕ) where
  counts : (a : Answer) {n : ℕ} → first_of (submission_tests f d) a ≡ Ok n → Counts f d
  counts a e =
      let (permitted, (seated, (spared, none))) = none_applies _ _ e in
      record { open_still = while_open (not (supervisor d)) _ permitted; seat_known = seated; not_spent = leb-false _ _ spared }

  module _ (card s : List ℕ) where
    -- A submission that is answered with a cost counts.
    marked_counts : {n : ℕ} → answer_to f (submit_sheet d card s) ≡ Ok n → Counts f d
    unfolding answer_to act_spec
    marked_counts e = counts _ (sym (first_append (submission_tests f d) _ _) ∙ (on_card_cost card _ _ e).1)

    -- 'A sheet refused by 11 to 13 uses up one hand-in too.'
    refused_counts :
        {x : Refusal} → answer_to f (submit_sheet d card s) ≡ Err x → (leb 11 (refusal_number x) && leb (refusal_number x) 13) ≡ true → Counts f d
    unfolding answer_to act_spec card_tests all_of
    refused_counts e counted =
        counts _ (on_card_cost card (submission_tests f d) _
        (passed_over (λ n. not (leb 11 n && leb n 13)) (card_tests card ++ submission_tests f d) (sheet_tests (instance_of card) s) _ refl (ap not counted) e)).1

-- What can happen in a sitting: an opening always; the rest once it is opened. Who is seated is not 0 and has no seat yet, and a seat is empty;
-- a submission that counts finds the allowance unspent, and a sheet that is marked is that of a seated candidate.
pub data Possible (s : State) : Event → Type 0 where
  nothing_possible : Possible s nothing_done
  opening_possible : (a n : ℕ) → Possible s (opening_done a n)
  closing_possible : is_unopened s.phase ≡ false → Possible s closing_done
  counted_possible : is_unopened s.phase ≡ false → s.used < s.allowance → Possible s submission_counted
  seating_possible :
      (c : ℕ) → is_unopened s.phase ≡ false → eqb c 0 ≡ false → occurs (is_for c) s.places ≡ false →
      occurs (is_for 0) s.places ≡ true → Possible s (seating_done c)
  marked_possible :
      (c n : ℕ) → is_unopened s.phase ≡ false → s.used < s.allowance → eqb c 0 ≡ false → occurs (is_for c) s.places ≡ true →
      Possible s (submission_marked c n)

-- What an act does can happen.
pub acts_possible :
    (s : State) (a : Act) (r : Answer) → answer_to (facts_of s) a ≡ r →
    Possible s (event_with (act_spec a).done (act_spec a).refused r)
unfolding answer_to act_spec event_with
acts_possible s (open_sitting d a c p w) (Ok n) e = opening_possible a n
acts_possible s (seat_candidate d c) (Ok n) e =
    let (permitted, (free, none)) = none_applies _ _ e in
    let taken = or_right (eqb c 0) _ free in
    seating_possible c (while_open (supervisor d) _ permitted) (or_left _ _ free)
    (or_left _ _ taken) (not-false _ (or_right (occurs (is_for c) s.places) _ taken))
acts_possible s (close_sitting d) (Ok n) e = closing_possible (while_open (supervisor d) _ (none_applies _ _ e).0)
acts_possible s (submit_sheet d c b) (Ok n) e =
    let counts = marked_counts (facts_of s) d c b e in
    marked_possible d n counts.open_still counts.not_spent (or_left _ _ counts.seat_known)
    (not-false _ (or_right (eqb d 0) _ counts.seat_known))
acts_possible s (read_least d) (Ok n) e = nothing_possible
acts_possible s (read_lowest d c) (Ok n) e = nothing_possible
acts_possible s (read_used d) (Ok n) e = nothing_possible
acts_possible s a (Err x) e =
    refused_does (Possible s) a x nothing_possible (λ d c b same counted.
    let counts = refused_counts (facts_of s) d c b (ap (answer_to (facts_of s)) (sym same) ∙ e) counted in
    counted_possible counts.open_still counts.not_spent)
