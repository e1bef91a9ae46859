-- What an act of a sitting answers and does by the facts of the sitting, and what it leaves: of the state, `next`, and of the records that the
-- calls hand on, `reply_of` and `seats_at_exit` (document 02, §4). What a list of acts is told: by the calls in turn, `told_in_turn`, and by the history
-- alone, `told_from`.
use Rattle.std.specs.Prelude.{ℕ, min, ◌≡◌, Bool, true, false, cond, List, [], ◌∷◌, length, leb, eqb}
use Rattle.basics.specs.Core.{head_d, flat_map, Option, none, some}
use Rattle.basics.specs.Lists.{keep}
use Rattle.basics.specs.Members.{Each}
use Rattle.basics.specs.FirstPlace.{occurs, count_of}
use Rattle.model.specs.declared.Refusal.{Refusal}
use Rattle.model.specs.Answers.{Answer}
use Rattle.std.specs.Prelude.{Ok, Err}
use Rattle.model.specs.declared.Seat.{Seat}
use Rattle.model.specs.declared.Sitting.{Sitting}
use Rattle.model.specs.declared.Reply.{Reply}
use Rattle.model.specs.Answers.{number_of, cost_of}
use Rattle.model.specs.Acts.{Act, open_sitting, Phase, unopened, opened, closed, Facts, act_spec}
use Rattle.model.specs.Acts.{Event, nothing_done, opening_done, seating_done, closing_done, submission_counted, submission_marked}
use Rattle.model.specs.SittingState.{State, facts_of, after, phase_of, state_of, sitting_after, seats_after}
use Rattle.model.specs.Specs.{answer_of}

-- The answer that the facts of a sitting give to an act.
unfoldable pub answer_to : Facts → Act → Answer
answer_to f a = answer_of ((act_spec a).call f)

-- Whether the answer tells a lowest cost: '(none is told from a cost of 0)'. A refusal tells none.
unfoldable pub marked_with : (marked : ℕ) → Answer → ℕ
marked_with marked (Ok n) = marked
marked_with marked (Err x) = 0

-- What has happened once an act has been answered.
unfoldable pub event_with : (done : ℕ → Event) (refused : Refusal → Event) → Answer → Event
event_with done refused (Ok n) = done n
event_with done refused (Err x) = refused x

unfoldable pub event_of : Facts → Act → Event
event_of f a = event_with (act_spec a).done (act_spec a).refused (answer_to f a)

-- What the caller of an act is told: the number and the cost, and whether the cost is a lowest cost.
pub record Told : Type 0 where
  pub number : ℕ
  pub cost : ℕ
  pub marked : ℕ

-- What an act is told by the facts of the sitting.
unfoldable pub told : Facts → Act → Told
told f a =
    record {
      number = number_of (answer_to f a);
      cost = cost_of (answer_to f a);
      marked = marked_with ((act_spec a).marked f) (answer_to f a);
    }

-- The transition: what an act makes of the state, and what it is told there.
unfoldable pub next : State → Act → State
next s a = after (event_of (facts_of s) a) s

unfoldable pub told_by : State → Act → Told
told_by s a = told (facts_of s) a

-- What has happened by an act that is handed a sitting and a list of seats.
abbrev pub event_in : Sitting → List Seat → Act → Event
event_in z xs a = event_of (facts_of (state_of z xs)) a

-- The reply of a call: what the caller is told, and the sitting, 'a value that each act gives back'.
unfoldable pub reply_with : Told → Sitting → Reply
reply_with t z = record { number = t.number; cost = t.cost; marked = t.marked; sitting = z }

unfoldable pub reply_of : Sitting → List Seat → Act → Reply
reply_of z xs a = reply_with (told_by (state_of z xs) a) (sitting_after (event_in z xs a) z)

-- The list of seats at exit.
unfoldable pub seats_at_exit : Sitting → List Seat → Act → List Seat
seats_at_exit z xs a = seats_after (event_in z xs a) xs

-- What a list of acts is told, each handed the sitting and the seats 'as the last one left' them.
unfoldable pub told_in_turn : Sitting → List Seat → List Act → List Told
told_in_turn z xs [] = []
told_in_turn z xs (a ∷ more) =
    told_by (state_of z xs) a ∷ told_in_turn (reply_of z xs a).sitting (seats_at_exit z xs a) more

-- What a list of acts leaves of a sitting and a list of seats.
unfoldable pub left_by : Sitting → List Seat → List Act → Sitting × List Seat
left_by z xs [] = (z, xs)
left_by z xs (a ∷ more) = left_by (reply_of z xs a).sitting (seats_at_exit z xs a) more

-- A list of acts starts afresh: from a sitting that counts as unopened, or with an opening that is accepted.
pub data StartsAfresh (z : Sitting) (xs : List Seat) : List Act → Type 0 where
  from_unopened : (acts : List Act) → phase_of z.state ≡ unopened → StartsAfresh z xs acts
  from_opening :
      (caller allowance : ℕ) (card plan work : List ℕ) (acts : List Act) (cost : ℕ) →
      answer_to (facts_of (state_of z xs)) (open_sitting caller allowance card plan work) ≡ Ok cost →
      StartsAfresh z xs (open_sitting caller allowance card plan work ∷ acts)

-- 'each is lent the same card': an act on a card is on this one.
abbrev pub LentCard : List ℕ → Act → Type 0
LentCard card a = Each (λ c. c ≡ card) (act_spec a).cards

-- What an event is to the history: whether it opens or closes the sitting or counts as a submission, the candidates that it seats and the costs
-- with which it marks a candidate's sheet, each one or none, and the allowance and the least cost of an opening.
pub record Effect : Type 0 where
  pub opening : Bool
  pub closing : Bool
  pub submission : Bool
  pub seats : List ℕ
  pub costs : ℕ → List ℕ
  pub allowance : ℕ
  pub least : ℕ

-- The effect of an event that is no opening.
abbrev pub other : (closing submission : Bool) → (seats : List ℕ) → (costs : ℕ → List ℕ) → Effect
other q k xs ns = record { opening = false; closing = q; submission = k; seats = xs; costs = ns; allowance = 0; least = 0 }

unfoldable pub effect_of : Event → Effect
effect_of nothing_done = other false false [] (λ c. [])
effect_of (opening_done a n) =
    record { opening = true; closing = false; submission = false; seats = []; costs = λ c. []; allowance = a; least = n }
effect_of (seating_done d) = other false false (d ∷ []) (λ c. [])
effect_of closing_done = other true false [] (λ c. [])
effect_of submission_counted = other false true [] (λ c. [])
effect_of (submission_marked d n) = other false true [] (λ c. cond (eqb d c) (n ∷ []) [])

abbrev pub is_opening : Event → Bool
is_opening e = (effect_of e).opening

abbrev pub is_closing : Event → Bool
is_closing e = (effect_of e).closing

abbrev pub is_submission : Event → Bool
is_submission e = (effect_of e).submission

abbrev pub seated_by : Event → List ℕ
seated_by e = (effect_of e).seats

abbrev pub costs_of : ℕ → Event → List ℕ
costs_of c e = (effect_of e).costs c

-- A history is the list of events so far, the last one first. What has happened since the last accepted opening: the sitting 'lasts until the
-- next accepted opening'.
unfoldable pub since_opening : List Event → List Event
since_opening [] = []
since_opening (e ∷ h) = cond (is_opening e) [] (e ∷ since_opening h)

-- The last accepted opening.
abbrev pub last_opening : List Event → Event
last_opening h = head_d (keep is_opening h) nothing_done

-- The smallest of a number and some others.
unfoldable pub smallest_of : ℕ → List ℕ → ℕ
smallest_of n [] = n
smallest_of n (m ∷ ns) = min n (smallest_of m ns)

-- The lowest of some costs, or none where there are none.
unfoldable pub lowest_among : List ℕ → Option ℕ
lowest_among [] = none
lowest_among (n ∷ ns) = some (smallest_of n ns)

-- Whether the sitting is unopened, open or closed.
unfoldable pub phase_in : List Event → Phase
phase_in h = cond (occurs is_opening h) (cond (occurs is_closing (since_opening h)) closed opened) unopened

-- What the rules ask about a sitting, told from the history alone, where the list of seats has the given number of seats: who was seated, how
-- many submissions counted, the lowest cost among a candidate's marked sheets, whether it was closed.
abbrev pub facts_in : (seats : ℕ) → List Event → Facts
facts_in seats h =
    record {
      phase = phase_in h;
      allowance = (effect_of (last_opening h)).allowance;
      used = count_of is_submission (since_opening h);
      least = (effect_of (last_opening h)).least;
      seated = λ c. occurs (λ d. eqb d c) (flat_map seated_by (since_opening h));
      full = leb seats (length (flat_map seated_by (since_opening h)));
      lowest = λ c. lowest_among (flat_map (costs_of c) (since_opening h));
    }

-- What a list of acts is told by the rules, after a history.
unfoldable pub told_from : (seats : ℕ) → List Event → List Act → List Told
told_from seats h [] = []
told_from seats h (a ∷ more) =
    told (facts_in seats h) a ∷ told_from seats (event_of (facts_in seats h) a ∷ h) more
