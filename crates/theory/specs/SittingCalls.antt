-- The calls of a sitting, beside the theorems on all calls and those on sequences of acts (document 02, §4): the number and the cost of a reply are
-- those of the answer, `reply_gives`; after a refusal the list of seats at exit is the lent one, `refused_seats`; which acts leave the list, and
-- which have the same reply with every list; and when a sitting counts as open or closed, `phase_opened`, `phase_closed`.
use Rattle.std.specs.Prelude.{ℕ, ◌≡◌, refl, Bool, true, false, cond, ◌↔◌, List, [], eqb}
use Rattle.basics.specs.Core.{ap, false≢true, ⊎_elim, arith, eqb-true, eq-eqb, ne_eqb}
use Rattle.basics.specs.Numbers.{true_or_false}
use Rattle.model.specs.declared.Refusal.{Refusal}
use Rattle.model.specs.Answers.{Answer}
use Rattle.std.specs.Prelude.{Ok, Err}
use Rattle.model.specs.declared.Seat.{Seat}
use Rattle.model.specs.declared.Sitting.{Sitting}
use Rattle.model.specs.Acts.{unopened, opened, closed, is_opened, is_closed, Act, close_sitting, read_least, read_lowest, read_used, act_spec}
use Rattle.model.specs.SittingState.{phase_of, facts_of, state_of, seats_after}
use Rattle.model.specs.Calls.{act_in, spec_of, answer, Gives}
use Rattle.model.specs.Sittings.{answer_to, event_with, event_of, told, told_by, reply_with, reply_of, seats_at_exit}
use Rattle.laws.specs.SittingLaws.{refused_does}

module _ (z : Sitting) (xs : List Seat) where
  -- The number and the cost of an act's reply are those of the answer to the call, as for every other call.
  pub reply_gives : (a : Act) → Gives (act_in z xs a) (reply_of z xs a).number (reply_of z xs a).cost
  unfolding reply_of reply_with told_by told answer spec_of answer_to
  reply_gives a = record { number_is = refl; cost_is = refl }

  -- What a refused act does leaves every record of the list.
  refused_leaves : (a : Act) (x : Refusal) → seats_after ((act_spec a).refused x) xs ≡ xs
  unfolding seats_after
  refused_leaves a x = refused_does (λ e. seats_after e xs ≡ xs) a x refl (λ d c s same counted. refl)

  -- 'A refusal .. alters no lent byte': a refused act leaves the list of seats.
  pub refused_seats : (a : Act) {x : Refusal} → answer (act_in z xs a) ≡ Err x → seats_at_exit z xs a ≡ xs
  unfolding seats_at_exit answer spec_of answer_to event_of event_with
  refused_seats a {x} e = rw e (refused_leaves a x)

  -- Closing and reading the submissions used are not lent the list: their replies are the same with every list.
  pub close_unlent : (d : ℕ) → reply_of z [] (close_sitting d) ≡ reply_of z xs (close_sitting d)
  unfolding reply_of told_by told answer_to event_of act_spec
  close_unlent d = refl

  pub used_unlent : (d : ℕ) → reply_of z [] (read_used d) ≡ reply_of z xs (read_used d)
  unfolding reply_of told_by told answer_to event_of act_spec
  used_unlent d = refl

  -- The acts that are lent the list to be read, or not at all, leave it.
  leaves : (a : Act) → ((n : ℕ) → seats_after ((act_spec a).done n) xs ≡ xs) → seats_at_exit z xs a ≡ xs
  unfolding seats_at_exit event_of event_with
  leaves a done = either (answer_to (facts_of (state_of z xs)) a)
    where
      either : (r : Answer) → seats_after (event_with (act_spec a).done (act_spec a).refused r) xs ≡ xs
      either (Ok n) = done n
      either (Err x) = refused_leaves a x

  pub close_leaves : (d : ℕ) → seats_at_exit z xs (close_sitting d) ≡ xs
  unfolding seats_after act_spec
  close_leaves d = leaves (close_sitting d) (λ n. refl)

  pub least_leaves : (d : ℕ) → seats_at_exit z xs (read_least d) ≡ xs
  unfolding seats_after act_spec
  least_leaves d = leaves (read_least d) (λ n. refl)

  pub lowest_leaves : (d c : ℕ) → seats_at_exit z xs (read_lowest d c) ≡ xs
  unfolding seats_after act_spec
  lowest_leaves d c = leaves (read_lowest d c) (λ n. refl)

  pub used_leaves : (d : ℕ) → seats_at_exit z xs (read_used d) ≡ xs
  unfolding seats_after act_spec
  used_leaves d = leaves (read_used d) (λ n. refl)

-- A sitting counts as open exactly if its state is 1.
pub phase_opened : (n : ℕ) → phase_of n ≡ opened ↔ (n ≡ 1)
unfolding phase_of is_opened
phase_opened n = (
  λ e. ⊎_elim (eqb-true n 1) (λ (t : eqb n 1 ≡ false). absurd (never (eqb n 2) (rw t at e))) (true_or_false (eqb n 1)),
  λ e. rw (eq-eqb n 1 e),
)
  where
    never : (b : Bool) → cond b closed unopened ≡ opened → ⊥
    never true e = false≢true (ap is_opened e)
    never false e = false≢true (ap is_opened e)

-- A sitting counts as closed exactly if its state is 2.
pub phase_closed : (n : ℕ) → phase_of n ≡ closed ↔ (n ≡ 2)
unfolding phase_of is_closed
phase_closed n = (
  λ e. ⊎_elim (eqb-true n 2) (λ (t : eqb n 2 ≡ false). absurd (never (eqb n 1) (rw t at e))) (true_or_false (eqb n 2)),
  λ e. rw (ne_eqb n 1 (λ one. absurd (omega arith)), eq-eqb n 2 e),
)
  where
    never : (b : Bool) → cond b opened unopened ≡ closed → ⊥
    never true e = false≢true (ap is_closed e)
    never false e = false≢true (ap is_closed e)
