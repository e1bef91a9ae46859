-- A sitting (document 02, §4: 'A desk for the sitting'): its acts, what each may meet and what each does. The paper's doer is the caller
-- here, and a hand-in is a submission. `act_spec` has the specification of every act.
use Rattle.std.specs.Prelude.{ℕ, Bool, true, false, cond, not, ◌&&◌, ◌||◌, List, [], ◌∷◌, ◌++◌, leb, eqb}
use Rattle.basics.specs.Core.{Option, option_get_or, option_elim}
use Rattle.model.specs.declared.Refusal.{Refusal}
use Rattle.model.specs.declared.Refusal.TheVariants.{BufferTooShort, NotPermitted, SeatUnavailable, AllowanceSpent}
use Rattle.model.specs.Answers.{refusal_number}
use Rattle.model.specs.Instance.{instance_of}
use Rattle.model.specs.Sheets.{sheet_cost}
use Rattle.model.specs.Planners.{exact, planned_cost}
use Rattle.model.specs.Specs.{Test, ◌when◌, ◌unless◌, Spec, answering, plan_buffer, work_buffer, any_short, card_tests, sheet_tests}

-- The acts, each with its caller and what it is handed: the supervisor opens a sitting, seats candidates and closes it; a candidate submits
-- sheets; either reads the least cost, a seat's lowest cost and, the supervisor alone, the submissions used.
pub data Act : Type 0 where
  open_sitting : (caller allowance : ℕ) (card plan work : List ℕ) → Act
  seat_candidate : (caller candidate : ℕ) → Act
  close_sitting : (caller : ℕ) → Act
  submit_sheet : (caller : ℕ) (card sheet : List ℕ) → Act
  read_least : (caller : ℕ) → Act
  read_lowest : (caller candidate : ℕ) → Act
  read_used : (caller : ℕ) → Act

-- A sitting is 'unopened', open or 'closed'.
pub data Phase : Type 0 where
  unopened : Phase
  opened : Phase
  closed : Phase

unfoldable pub is_unopened : Phase → Bool
is_unopened unopened = true
is_unopened opened = false
is_unopened closed = false

unfoldable pub is_opened : Phase → Bool
is_opened unopened = false
is_opened opened = true
is_opened closed = false

unfoldable pub is_closed : Phase → Bool
is_closed unopened = false
is_closed opened = false
is_closed closed = true

-- What the rules ask about a sitting when an act comes: its phase, the allowance, the submissions used, the least cost, whether a candidate
-- has a seat, whether no seat is empty, and a candidate's 'lowest cost marked so far, or none'.
pub record Facts : Type 0 where
  pub phase : Phase
  pub allowance : ℕ
  pub used : ℕ
  pub least : ℕ
  pub seated : ℕ → Bool
  pub full : Bool
  pub lowest : ℕ → Option ℕ

-- 'Each act names its doer, 0 for the supervisor.'
abbrev pub supervisor : (caller : ℕ) → Bool
supervisor d = eqb d 0

-- Who seats candidates and closes the sitting: the supervisor, while it is open.
abbrev pub in_charge : Facts → (caller : ℕ) → Bool
in_charge f d = supervisor d && is_opened f.phase

-- The sitting has been opened, and may be closed by now.
abbrev pub begun : Facts → Bool
begun f = not (is_unopened f.phase)

-- Who reads a candidate's lowest cost: the supervisor 'any seat's', a candidate 'the own'.
abbrev pub reads_lowest : Facts → (caller candidate : ℕ) → Bool
reads_lowest f d c = begun f && (supervisor d || eqb d c)

-- 'an allowance of 1 to 1,000 hand-ins'
abbrev pub allowance_in_range : ℕ → Bool
allowance_in_range a = leb 1 a && leb a 1000

-- No seat is named by a candidate number that is 'unknown' or 0.
abbrev pub no_seat : Facts → (candidate : ℕ) → Bool
no_seat f c = eqb c 0 || not (f.seated c)

-- What has happened once an act is answered: nothing, an opening with its allowance and the least cost, the seating of a candidate, the
-- closing, a submission that was refused but counts, or the submission of a candidate's sheet that was marked with a cost.
pub data Event : Type 0 where
  nothing_done : Event
  opening_done : (allowance least : ℕ) → Event
  seating_done : (candidate : ℕ) → Event
  closing_done : Event
  submission_counted : Event
  submission_marked : (candidate cost : ℕ) → Event

-- 'A sheet refused by 11 to 13 uses up one hand-in too.'
unfoldable pub submission_refused : Refusal → Event
submission_refused x = cond (leb 11 (refusal_number x) && leb (refusal_number x) 13) submission_counted nothing_done

-- What an act is and does: the card that it is lent, if any; by the facts of the sitting what it answers as a call, and whether a success
-- tells a lowest cost (1) or not (0); and what has happened after a success with a cost and after a refusal.
pub record ActSpec : Type 0 where
  pub cards : List (List ℕ)
  pub call : Facts → Spec
  pub marked : Facts → ℕ
  pub done : ℕ → Event
  pub refused : Refusal → Event

-- An act whose success tells no lowest cost and does something, and whose refusal does nothing.
abbrev pub acting : (cards : List (List ℕ)) → (Facts → Spec) → (ℕ → Event) → ActSpec
acting cs s e = record { cards = cs; call = s; marked = λ f. 0; done = e; refused = λ x. nothing_done }

-- A submission's 15 to 17, which 'for hand-ins .. are tested in this order before 11 to 13'.
abbrev pub submission_tests : Facts → (caller : ℕ) → List Test
submission_tests f d =
    NotPermitted unless (not (supervisor d) && is_opened f.phase) ∷
    SeatUnavailable when no_seat f d ∷
    AllowanceSpent when leb f.allowance f.used ∷ []

unfoldable pub act_spec : Act → ActSpec
-- 'The supervisor opens a sitting with a card, the exact planner's areas and an allowance'; 'opening gives the least cost'; 17 'after 1 to 10'.
act_spec (open_sitting d a c p w) =
    let i = instance_of c in
    let areas = plan_buffer exact i p ∷ work_buffer exact i w ∷ [] in
    acting (c ∷ []) (λ f. record {
      tests =
          card_tests c ++
          (BufferTooShort when any_short areas ∷ NotPermitted unless supervisor d ∷ AllowanceSpent unless allowance_in_range a ∷ []);
      cost = planned_cost exact i;
      buffers = areas;
    })
    (opening_done a)
-- 'The supervisor seats candidates': a seat 'numbered 0, taken twice or beyond the list or the 32nd gets 16'.
act_spec (seat_candidate d c) =
    acting []
    (λ f. answering (NotPermitted unless in_charge f d ∷ SeatUnavailable when (eqb c 0 || (f.seated c || f.full)) ∷ []) 0)
    (λ n. seating_done c)
-- 'closes the sitting'; 15 for 'a second closing too'.
act_spec (close_sitting d) = acting [] (λ f. answering (NotPermitted unless in_charge f d ∷ []) 0) (λ n. closing_done)
-- 'A seated candidate hands in sheets, each answered as marking does'; 'A sheet refused by 11 to 13 uses up one hand-in too.'
act_spec (submit_sheet d c s) =
    record {
      cards = c ∷ [];
      call = λ f. answering (card_tests c ++ (submission_tests f d ++ sheet_tests (instance_of c) s)) (sheet_cost (instance_of c) s);
      marked = λ f. 0;
      done = submission_marked d;
      refused = submission_refused;
    }
-- The supervisor 'reads the least cost'; a seated candidate 'reads the least cost only after closing'.
act_spec (read_least d) =
    acting [] (λ f. answering (
    NotPermitted unless (begun f && (supervisor d || is_closed f.phase)) ∷
    SeatUnavailable when (not (supervisor d) && no_seat f d) ∷ []) f.least)
    (λ n. nothing_done)
-- The supervisor reads 'any seat's lowest'; a seated candidate 'reads the own lowest cost (none is told from a cost of 0)'.
act_spec (read_lowest d c) =
    record {
      cards = [];
      call = λ f. answering (
          NotPermitted unless reads_lowest f d c ∷
          SeatUnavailable when no_seat f c ∷ []) (option_get_or (f.lowest c) 0);
      marked = λ f. option_elim (f.lowest c) 0 (λ l. 1);
      done = λ n. nothing_done;
      refused = λ x. nothing_done;
    }
-- The supervisor reads 'the hand-ins used'.
act_spec (read_used d) =
    acting [] (λ f. answering (NotPermitted unless (supervisor d && begun f) ∷ []) f.used) (λ n. nothing_done)
