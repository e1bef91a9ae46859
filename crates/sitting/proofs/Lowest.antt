-- The lowest cost of a seat: marking a sheet, and reading it.
use Rattle.std.specs.Prelude.{ℕ, min, ◌≡◌, Option, Some}
use Rattle.basics.specs.Core.{◌∙◌, option_get_or, option_elim, eq-eqb, ne_eqb}
use Rattle.model.specs.declared.Refusal.{Refusal}
use Rattle.std.specs.Prelude.{Ok, Err}
use Rattle.model.specs.declared.Seat.{Seat}
use Rattle.model.specs.declared.Sitting.{Sitting}
use Rattle.model.specs.declared.Reply.{Reply}
use Rattle.model.specs.Acts.{read_lowest, act_spec}
use Rattle.model.specs.SittingState.{lowest_of, lower_of, marked_record, sitting_after}
use Rattle.model.specs.Sittings.{answer_to, marked_with, event_with, event_of, told, reply_with}
use Rattle.seats.specs.declared.Found.{Found}
use Rattle.sitting.specs.Seen.{record_of, seen, event_seen, reply_seen, reply_giving}

module _ (s : Seat) (n : ℕ) where
  -- The record with a lowest cost.
  abbrev marked : ℕ → Seat
  marked l = record { lowest = l; candidate = s.candidate; marked = 1; reserved = s.reserved }

  -- The first cost marked is the lowest.
  pub first_marked : s.marked ≡ 0 → marked n ≡ marked_record n s
  unfolding lowest_of lower_of
  first_marked h = rw (eq-eqb s.marked 0 h)

  -- Of two costs the lower one is.
  pub lower_marked : (s.marked ≡ 0 → ⊥) → {l : ℕ} → l ≡ min s.lowest n → marked l ≡ marked_record n s
  unfolding lowest_of lower_of
  lower_marked before e = rw (ne_eqb s.marked 0 before, e)

module _ (z : Sitting) (v : Option Found) (d c : ℕ) {r : Reply} where
  -- Reading a lowest cost that is refused.
  pub lowest_refused :
      {x : Refusal} → r ≡ reply_giving (Err x) 0 z →
      answer_to (seen z v v) (read_lowest d c) ≡ Err x → r ≡ reply_seen z v v (read_lowest d c)
  unfolding reply_giving reply_seen event_seen told reply_with marked_with event_of event_with act_spec sitting_after
  lowest_refused e given = e ∙ rw given

  module _ (f : Found) (found : v ≡ Some f) (given : answer_to (seen z v v) (read_lowest d c) ≡ Ok (option_get_or (lowest_of f.seat) 0)) where
    -- Reading it where nothing is marked.
    pub lowest_none : f.seat.marked ≡ 0 → r ≡ reply_giving (Ok 0) 0 z → r ≡ reply_seen z v v (read_lowest d c)
    unfolding reply_giving reply_seen event_seen told reply_with marked_with event_of event_with act_spec sitting_after seen record_of lowest_of option_elim
    lowest_none h e = e ∙ rw (given, found, eq-eqb f.seat.marked 0 h)

    -- Reading it where a sheet is marked.
    pub lowest_some : (f.seat.marked ≡ 0 → ⊥) → r ≡ reply_giving (Ok f.seat.lowest) 1 z → r ≡ reply_seen z v v (read_lowest d c)
    unfolding reply_giving reply_seen event_seen told reply_with marked_with event_of event_with act_spec sitting_after seen record_of lowest_of option_elim
    lowest_some h e = e ∙ rw (given, found, ne_eqb f.seat.marked 0 h)
