-- The answer of every call: the first refusal of its list that applies, `answered_first`, which is the lowest one where no paragraph of document 02
-- sets an order, `OwnOrder`, `refusals_ascend`, `lowest_least`, or, where none applies, the cost, `accepted_none`. No call answers 9, `nine_never`,
-- and after a refusal every lent buffer of bytes is as it was lent, `refused_unchanged`.
use Rattle.std.specs.Prelude.{ℕ, ◌+◌, ◌-◌, ◌≤◌, ◌<◌, ◌≡◌, refl, true, false, not, ◌⊎◌, List, [], ◌∷◌, ◌++◌, map, length, eqb}
use Rattle.basics.specs.Core.{sym, ap, ◌∙◌, true≢false, inl, inr, ⊎_elim}
use Rattle.basics.specs.Core.{Memᴰ, mem_head, mem_not_nil, mem_cases_cons, mem_map, mem_append_right, le_refl}
use Rattle.basics.specs.Core.{le_of_lt, arith, ltb-true, lt-ltb, eqb-false, not-true}
use Rattle.basics.specs.Numbers.{true_or_false}
use Rattle.basics.specs.Tests.{every, every_at, every_all, all_of}
use Rattle.basics.specs.Members.{each_member, InOrder, next, in_order_at, rising_in_order, all_of_at}
use Rattle.model.specs.CountRules.{strictly_ascends}
use Rattle.model.specs.declared.Refusal.{Refusal}
use Rattle.model.specs.declared.Seat.{Seat}
use Rattle.model.specs.declared.Sitting.{Sitting}
use Rattle.model.specs.Answers.{Answer}
use Rattle.std.specs.Prelude.{Ok, Err}
use Rattle.model.specs.Answers.{refusal_number, number_of}
use Rattle.model.specs.Planners.{exact, coarse, listed}
use Rattle.model.specs.Calls.{Call, check_card, running_cost, plan_show, make_sheet, mark_sheet, round_count, practice_card, catalogue_table, explain_sheet}
use Rattle.model.specs.Calls.{act_in, spec_of, answer, lent, buffers_at_exit}
use Rattle.model.specs.Acts.{open_sitting, seat_candidate, close_sitting, submit_sheet, read_least, read_lowest, read_used, act_spec}
use Rattle.model.specs.Specs.{Test, ◌when◌, card_tests, first_of, Buffer, at_exit}
use Rattle.laws.specs.AnswerNumber.{number_zero}
use Rattle.laws.specs.FirstRefusal.{first_hit, first_skip, none_applies, first_through}

-- The numbers of a call's tests, in the order in which they are made.
abbrev pub test_numbers : Call → List ℕ
test_numbers c = map (λ t. refusal_number t.refusal) (spec_of c).tests

-- The calls for which a paragraph of document 02 sets an order among refusals that is not that of their numbers: 'that order holds
-- instead of the lowest number, in condition 1 too' (02 §1). With a list 18 stands before 10, of a practice card 14 before 10, of a
-- submission 17 before 11.
pub data OwnOrder : Call → Type 0 where
  list_first : (l : List ℕ) (r : ℕ) (c p w : List ℕ) → OwnOrder (plan_show (listed l r) c p w)
  start_first : (s : ℕ) (c : List ℕ) → OwnOrder (practice_card s c)
  allowance_first : (z : Sitting) (xs : List Seat) (d : ℕ) (c s : List ℕ) → OwnOrder (act_in z xs (submit_sheet d c s))

-- In a list in order each number is below the next one.
rises : {l : List ℕ} → InOrder ◌<◌ l → strictly_ascends l ≡ true
unfolding strictly_ascends
rises {l} order = every_all (length l - 1) _ (λ j h. lt-ltb _ _ (in_order_at order 0 j (j + 1) (omega arith) (omega arith)))

-- Of each call: 9 is not among the numbers of its tests, and they rise where no paragraph sets their order.
numbers_seen : (c : Call) → (all_of (λ n. not (eqb n 9)) (test_numbers c) ≡ true) × (OwnOrder c ⊎ (strictly_ascends (test_numbers c) ≡ true))
unfolding spec_of act_spec card_tests all_of every strictly_ascends
numbers_seen (check_card c) = (refl, inr refl)
numbers_seen (running_cost c n l) = (refl, inr refl)
numbers_seen (plan_show exact c p w) = (refl, inr refl)
numbers_seen (plan_show coarse c p w) = (refl, inr refl)
numbers_seen (plan_show (listed l r) c p w) = (refl, inl (list_first l r c p w))
numbers_seen (make_sheet c p s) = (refl, inr refl)
numbers_seen (mark_sheet c s) = (refl, inr refl)
numbers_seen (round_count n m) = (refl, inr refl)
numbers_seen (practice_card s c) = (refl, inl (start_first s c))
numbers_seen (catalogue_table q f) = (refl, inr refl)
numbers_seen (explain_sheet c s w) = (refl, inr refl)
numbers_seen (act_in z xs (open_sitting d a c p w)) = (refl, inr refl)
numbers_seen (act_in z xs (seat_candidate d c)) = (refl, inr refl)
numbers_seen (act_in z xs (close_sitting d)) = (refl, inr refl)
numbers_seen (act_in z xs (submit_sheet d c s)) = (refl, inl (allowance_first z xs d c s))
numbers_seen (act_in z xs (read_least d)) = (refl, inr refl)
numbers_seen (act_in z xs (read_lowest d c)) = (refl, inr refl)
numbers_seen (act_in z xs (read_used d)) = (refl, inr refl)

-- The tests of every call but these stand in the order of their numbers.
pub refusals_ascend : (c : Call) → OwnOrder c ⊎ InOrder ◌<◌ (test_numbers c)
unfolding strictly_ascends
refusals_ascend c =
    let l = test_numbers c in
    ⊎_elim inl
    (λ (e : strictly_ascends l ≡ true). inr (rising_in_order l (λ j h. ltb-true _ _ (every_at (length l - 1) _ e j (omega arith)))))
    (numbers_seen c).1

-- And those of these calls do not.
pub own_order_falls : {c : Call} → OwnOrder c → InOrder ◌<◌ (test_numbers c) → ⊥
unfolding spec_of act_spec card_tests every strictly_ascends
own_order_falls (list_first l r c p w) order = true≢false (sym (rises order))
own_order_falls (start_first s c) order = true≢false (sym (rises order))
own_order_falls (allowance_first z xs d c s) order = true≢false (sym (rises order))

-- The test that gives a refusal applies, and stands in the list behind tests that do not.
first_found :
    (ts : List Test) (n : ℕ) {x : Refusal} → first_of ts (Ok n) ≡ Err x →
    (before : List Test) × (after : List Test) × (ts ≡ before ++ (x when true ∷ after)) × ((t : Test) → Memᴰ t before → t.applies ≡ false)
unfolding first_of
first_found [] n {x} e = let none : ◌≡◌ {A = ℕ} 0 1 = cc in absurd (omega arith)
first_found (z ∷ zs) n {x} e =
    ⊎_elim
    (λ (t : z.applies ≡ true).
    let same : z.refusal ≡ x = cc (first_hit z zs (Ok n) t) in
    ([], zs, (λ i. record { refusal = same i; applies = t i } ∷ zs), λ y m. absurd (mem_not_nil m)))
    (λ (t : z.applies ≡ false).
    let (before, after, split, none) = first_found zs n (sym (first_skip z zs (Ok n) t) ∙ e) in (
      z ∷ before,
      after,
      ap (λ (l : List Test). z ∷ l) split,
      λ y m. ⊎_elim (λ (here : y ≡ z). ap (λ (u : Test). u.applies) here ∙ t) (none y) (mem_cases_cons m),
    ))
    (true_or_false z.applies)

-- In a list in order no test below the one that gives the refusal applies.
first_least :
    (ts : List Test) (a : Answer) {x : Refusal} {y : Test} → InOrder ◌<◌ (map (λ t. refusal_number t.refusal) ts) → first_of ts a ≡ Err x →
    Memᴰ y ts → y.applies ≡ true → refusal_number x ≤ refusal_number y.refusal
first_least [] a order e m h = absurd (mem_not_nil m)
first_least (z ∷ zs) a {x} {y} (next above order) e m h =
    ⊎_elim
    (λ (t : z.applies ≡ true).
    let same : x ≡ z.refusal = cc (first_hit z zs a t) in
    ⊎_elim
    (λ (first : y ≡ z). rw (same, first) (le_refl (refusal_number z.refusal)))
    (λ (later : Memᴰ y zs). rw same (le_of_lt (above _ (mem_map (λ (t : Test). refusal_number t.refusal) later))))
    (mem_cases_cons m))
    (λ (t : z.applies ≡ false).
    ⊎_elim
    (λ (first : y ≡ z). absurd (true≢false (sym h ∙ ap (λ (u : Test). u.applies) first ∙ t)))
    (λ (later : Memᴰ y zs). first_least zs a order (sym (first_skip z zs a t) ∙ e) later h)
    (mem_cases_cons m))
    (true_or_false z.applies)

module _ (c : Call) where
  -- A refusal that is answered is that of the first of the call's tests that applies.
  pub answered_first :
      {x : Refusal} → answer c ≡ Err x →
      (before : List Test) × (after : List Test) × ((spec_of c).tests ≡ before ++ (x when true ∷ after)) ×
      ((t : Test) → Memᴰ t before → t.applies ≡ false)
  unfolding answer
  answered_first e = first_found (spec_of c).tests (spec_of c).cost e

  -- Where no paragraph of document 02 sets an order, a refusal that is answered is the lowest of the call's that applies.
  pub lowest_least :
      (OwnOrder c → ⊥) → {x : Refusal} → answer c ≡ Err x → (t : Test) → Memᴰ t (spec_of c).tests →
      t.applies ≡ true → refusal_number x ≤ refusal_number t.refusal
  unfolding answer
  lowest_least plain e t m h =
      ⊎_elim
      (λ (own : OwnOrder c). absurd (plain own))
      (λ (order : InOrder ◌<◌ (test_numbers c)). first_least (spec_of c).tests (Ok (spec_of c).cost) order e m h)
      (refusals_ascend c)

  -- 'and 9 is never given' (02 §2): no call answers with this number.
  pub nine_never : number_of (answer c) ≡ 9 → ⊥
  nine_never e = go (answer c) refl e
    where
      go : (a : Answer) → answer c ≡ a → number_of a ≡ 9 → ⊥
      go (Ok n) given nine = absurd (omega arith)
      go (Err x) given nine =
          let (before, after, split, none) = answered_first given in
          let listed : Memᴰ (x when true) (spec_of c).tests = rw split (mem_append_right before (mem_head refl)) in
          eqb-false (refusal_number x) 9 (not-true _ (all_of_at _ _ (numbers_seen c).0 (mem_map (λ (t : Test). refusal_number t.refusal) listed))) nine

  -- An answer with number 0 is the cost of the call.
  pub succeeded : number_of (answer c) ≡ 0 → answer c ≡ Ok (spec_of c).cost
  unfolding answer
  succeeded e = first_through (spec_of c).tests (Ok (spec_of c).cost) _ (number_zero _ e)

  -- Where a cost is answered, none of the call's tests applies, and the cost is that of the call.
  pub accepted_none :
      {n : ℕ} → answer c ≡ Ok n → ((t : Test) → Memᴰ t (spec_of c).tests → t.applies ≡ false) × (n ≡ (spec_of c).cost)
  unfolding answer
  accepted_none e = (λ t. each_member _ (spec_of c).tests (none_applies _ _ e), let full = succeeded (ap number_of e) in cc)

-- 'A refusal .. alters no lent byte': every lent buffer is at exit as it was lent.
pub refused_unchanged : (c : Call) {x : Refusal} → answer c ≡ Err x → buffers_at_exit c ≡ lent c
unfolding buffers_at_exit lent at_exit
refused_unchanged c {x} e = rw e (entries (spec_of c).buffers)
  where
    entries : (bs : List Buffer) → map (at_exit (Err x)) bs ≡ map (λ b. b.entry) bs
    entries [] = refl
    entries (b ∷ bs) = rw (entries bs)
