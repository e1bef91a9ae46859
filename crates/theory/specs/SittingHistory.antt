-- When the state of a sitting is that of a history, a list of events (document 02, §4): `Joined`, and of its seats `SeatsTold`. Then both give the
-- same facts, `joined_agrees`. The state after an opening is that of every history that ends with it, `opening_joined`, and it stays so with
-- everything that can happen, `event_joined`.
use Rattle.std.specs.Prelude.{ℕ, ◌+◌, ◌≤◌, ◌<◌, ◌≡◌, refl, true, false, not, List, [], ◌∷◌, map, length, get_or, leb, eqb}
use Rattle.basics.specs.Core.{sym, ap, ◌∙◌, true≢false, head_d, flat_map, Option}
use Rattle.basics.specs.Core.{none, some, ⊎_elim, le_refl, arith, length-map, get_or-eq_default, lt-ltb, le-ltb, le-leb}
use Rattle.basics.specs.Core.{lt-leb, eqb-true, eqb-false, ne_eqb}
use Rattle.basics.specs.Numbers.{true_or_false, le_or_lt}
use Rattle.basics.specs.Lists.{keep}
use Rattle.basics.specs.FirstPlace.{occurs, count_of, first_place, change_first, occurs_count, place_beyond, length_change, count_taken}
use Rattle.basics.specs.FirstPlace.{change_found, change_occurs, change_counts, change_adds, change_apart, change_first_lem}
use Rattle.model.specs.Acts.{is_unopened, Event, nothing_done, opening_done, seating_done, closing_done, submission_counted, submission_marked}
use Rattle.model.specs.SittingState.{Place, State, is_for, empty_place, seated_place, marked_place, facts_of, lower_of, after}
use Rattle.model.specs.Sittings.{effect_of, is_opening, is_submission, seated_by, costs_of, since_opening, last_opening}
use Rattle.model.specs.Sittings.{smallest_of, lowest_among, phase_in, facts_in}
use Rattle.laws.specs.SittingLaws.{AgreeAt}
use Rattle.theory.specs.SittingEvents.{Possible, nothing_possible, opening_possible, closing_possible, counted_possible, seating_possible}
use Rattle.theory.specs.SittingEvents.{marked_possible}

-- The lowest cost of the first seat of a candidate.
abbrev lowest_at : List Place → ℕ → Option ℕ
lowest_at ps c = (get_or ps (first_place (is_for c) ps) empty_place).lowest

-- The seats hold what has happened since the opening: the candidates who were seated, as many empty seats as are left, and the lowest costs.
pub record SeatsTold (seats : ℕ) (ps : List Place) (h : List Event) : Type 0 where
  pub who : (c : ℕ) → eqb c 0 ≡ false → occurs (is_for c) ps ≡ occurs (λ d. eqb d c) (flat_map seated_by h)
  pub left : count_of (is_for 0) ps + length (flat_map seated_by h) ≡ seats
  pub lowest : (c : ℕ) → eqb c 0 ≡ false → lowest_at ps c ≡ lowest_among (flat_map (costs_of c) h)

-- A seat that is empty is not that of a candidate other than 0, and a seat of one candidate is not that of another.
empty_apart : (d : ℕ) → eqb d 0 ≡ false → (p : Place) → is_for 0 p ≡ true → is_for d p ≡ false
empty_apart d real p e =
    ne_eqb p.candidate d (λ same. eqb-false d 0 real (sym same ∙ eqb-true _ _ e))

seat_apart : (c d : ℕ) → eqb c d ≡ false → (p : Place) → is_for c p ≡ true → is_for d p ≡ false
seat_apart c d differ p e = ne_eqb p.candidate d (λ same. eqb-false c d differ (sym (eqb-true _ _ e) ∙ same))

-- Without a seat there is no lowest cost.
unseated_none : (ps : List Place) (c : ℕ) → occurs (is_for c) ps ≡ false → lowest_at ps c ≡ none
unseated_none ps c absent =
    ap (λ (k : ℕ). (get_or ps k empty_place).lowest) (place_beyond (is_for c) ps absent)
    ∙ ap (λ (p : Place). p.lowest) (get_or-eq_default ps empty_place (le_refl (length ps)))

-- The lowest of some costs and one more is the lower of the two.
lowest_more : (n : ℕ) (ns : List ℕ) → lowest_among (n ∷ ns) ≡ some (lower_of (lowest_among ns) n)
unfolding lowest_among smallest_of lower_of
lowest_more n [] = refl
lowest_more n (m ∷ ns) = ap (λ (l : ℕ). some l) (omega arith)

module _ {seats : ℕ} {ps : List Place} {h : List Event} (told : SeatsTold seats ps h) where
  -- Seating a candidate.
  seating_told :
      {c : ℕ} → eqb c 0 ≡ false → occurs (is_for c) ps ≡ false → occurs (is_for 0) ps ≡ true →
      SeatsTold seats (change_first (is_for 0) (seated_place c) ps) (seating_done c ∷ h)
  unfolding effect_of occurs flat_map
  seating_told {c} real absent free =
      record {
        who = λ d e.
            ⊎_elim
            (λ (t : eqb c d ≡ true). rw (t, change_adds (is_for 0) (seated_place c) (is_for d) (λ p f. t) ps free))
            (λ (t : eqb c d ≡ false).
            rw t (change_occurs (is_for 0) (seated_place c) (is_for d) (λ p f. t ∙ sym (empty_apart d e p f)) ps ∙ told.who d e))
            (true_or_false (eqb c d));
        left = omega (arith, count_taken (is_for 0) (seated_place c) (λ p. real) ps free, told.left);
        lowest = λ d e.
            ⊎_elim
            (λ (t : eqb c d ≡ true).
            let same : c ≡ d = eqb-true c d t in
            ap (λ (p : Place). p.lowest) (change_first_lem (is_for 0) (seated_place c) (is_for d) (λ p f. t) empty_place ps free
            (ap (λ (x : ℕ). occurs (is_for x) ps) (sym same) ∙ absent))
            ∙ sym (unseated_none ps c absent) ∙ told.lowest c real ∙ ap (λ (x : ℕ). lowest_among (flat_map (costs_of x) h)) same)
            (λ (t : eqb c d ≡ false).
            ap (λ (p : Place). p.lowest) (change_apart (is_for 0) (seated_place c) (is_for d) (λ p f. (empty_apart d e p f, t)) empty_place ps)
            ∙ told.lowest d e)
            (true_or_false (eqb c d));
      }

  -- Marking a sheet.
  marking_told :
      {c n : ℕ} → eqb c 0 ≡ false → occurs (is_for c) ps ≡ true →
      SeatsTold seats (change_first (is_for c) (marked_place n) ps) (submission_marked c n ∷ h)
  unfolding effect_of flat_map
  marking_told {c} {n} real found =
      record {
        who = λ d e. change_occurs (is_for c) (marked_place n) (is_for d) (λ p f. refl) ps ∙ told.who d e;
        left = omega (arith, change_counts (is_for c) (marked_place n) (is_for 0) (λ p f. refl) ps, told.left);
        lowest = λ d e.
            ⊎_elim
            (λ (t : eqb c d ≡ true).
            let same : c ≡ d = eqb-true c d t in
            rw t (ap (λ (x : ℕ). lowest_at (change_first (is_for c) (marked_place n) ps) x) (sym same)
            ∙ ap (λ (p : Place). p.lowest) (change_found (is_for c) (marked_place n) (λ p. refl) empty_place ps found)
            ∙ ap (λ (o : Option ℕ). some (lower_of o n)) (told.lowest c real ∙ ap (λ (x : ℕ). lowest_among (flat_map (costs_of x) h)) same)
            ∙ sym (lowest_more n _)))
            (λ (t : eqb c d ≡ false).
            rw t (ap (λ (p : Place). p.lowest) (change_apart (is_for c) (marked_place n) (is_for d)
            (λ p f. (seat_apart c d t p f, seat_apart c d t p f)) empty_place ps)
            ∙ told.lowest d e))
            (true_or_false (eqb c d));
      }

-- Among empty seats no candidate has one.
no_candidate : (ps : List Place) (c : ℕ) → eqb c 0 ≡ false → occurs (is_for c) (map (λ p. empty_place) ps) ≡ false
unfolding occurs
no_candidate [] c real = refl
no_candidate (p ∷ ps) c real = rw (ne_eqb 0 c (λ same. eqb-false c 0 real (sym same)), no_candidate ps c real)

-- Among empty seats all are empty.
all_empty : (ps : List Place) → count_of (is_for 0) (map (λ p. empty_place) ps) ≡ length ps
unfolding count_of
all_empty [] = refl
all_empty (p ∷ ps) = omega (arith, all_empty ps)

-- After an opening nothing has happened.
opening_told : (ps : List Place) → SeatsTold (length ps) (map (λ p. empty_place) ps) []
unfolding occurs flat_map lowest_among
opening_told ps =
    record {
      who = no_candidate ps;
      left = omega (arith, all_empty ps);
      lowest = λ c real. unseated_none (map (λ p. empty_place) ps) c (no_candidate ps c real);
    }

-- An event that seats nobody and marks no sheet leaves the seats as they are told.
quiet_told :
    {seats : ℕ} {ps : List Place} {h : List Event} (e : Event) → seated_by e ≡ [] → ((c : ℕ) → costs_of c e ≡ []) → SeatsTold seats ps h →
    SeatsTold seats ps (e ∷ h)
unfolding flat_map
quiet_told e nobody nothing told =
    record {
      who = λ c real. rw nobody (told.who c real);
      left = rw nobody told.left;
      lowest = λ c real. rw (nothing c) (told.lowest c real);
    }

-- A state is that of a history: its phase, the number of its seats, and once it is opened the rest.
pub record Joined (seats : ℕ) (h : List Event) (s : State) : Type 0 where
  pub phase_told : s.phase ≡ phase_in h
  pub size : length s.places ≡ seats
  pub allowance_told : is_unopened s.phase ≡ false → s.allowance ≡ (effect_of (last_opening h)).allowance
  pub used_told : is_unopened s.phase ≡ false → s.used ≡ count_of is_submission (since_opening h)
  pub least_told : is_unopened s.phase ≡ false → s.least ≡ (effect_of (last_opening h)).least
  pub seats_told : is_unopened s.phase ≡ false → SeatsTold seats s.places (since_opening h)

-- There is an empty seat exactly if fewer candidates have been seated than there are seats.
full_told : {seats : ℕ} {ps : List Place} {h : List Event} → SeatsTold seats ps h → not (occurs (is_for 0) ps) ≡ leb seats (length (flat_map seated_by h))
full_told {seats} {ps} {h} told =
    let k = length (flat_map seated_by h) in
    let n = count_of (is_for 0) ps in
    let sum : n + k ≡ seats = told.left in
    ap not (occurs_count (is_for 0) ps) ∙
    ⊎_elim
    (λ (none_left : n ≤ 0). rw (le-ltb 0 n none_left, le-leb seats k (omega arith)))
    (λ (some_left : 0 < n). rw (lt-ltb 0 n some_left, lt-leb seats k (omega arith)))
    (le_or_lt n 0)

-- A state and its history give the same facts about every candidate.
pub joined_agrees : {seats : ℕ} {h : List Event} {s : State} → Joined seats h s → (c : ℕ) → AgreeAt c (facts_of s) (facts_in seats h)
joined_agrees j c =
    record {
      same_phase = j.phase_told;
      once_opened = λ o. record {
        same_allowance = j.allowance_told o;
        same_used = j.used_told o;
        same_least = j.least_told o;
        same_full = full_told (j.seats_told o);
        same_seated = (j.seats_told o).who c;
        same_lowest = (j.seats_told o).lowest c;
      };
    }

-- Where the phase is not unopened, an opening is in the history.
opened_before : (h : List Event) → is_unopened (phase_in h) ≡ false → occurs is_opening h ≡ true
unfolding phase_in is_unopened
opened_before h e =
    ⊎_elim
    (λ (t : occurs is_opening h ≡ true). t)
    (λ (t : occurs is_opening h ≡ false). absurd (true≢false (rw t at e)))
    (true_or_false (occurs is_opening h))

-- The state after an opening is that of every history that ends with it.
pub opening_joined :
    (seats : ℕ) (h : List Event) (s : State) (a n : ℕ) → length s.places ≡ seats → Joined seats (opening_done a n ∷ h) (after (opening_done a n) s)
unfolding after phase_in since_opening effect_of occurs keep head_d count_of
opening_joined seats h s a n size =
    record {
      phase_told = refl;
      size = length-map s.places (λ p. empty_place) ∙ size;
      allowance_told = λ o. refl;
      used_told = λ o. refl;
      least_told = λ o. refl;
      seats_told = λ o. rw (sym size) (opening_told s.places);
    }

-- The state after what can happen is that of the history with it.
pub event_joined : {seats : ℕ} {h : List Event} {s : State} → Joined seats h s → {e : Event} → Possible s e → Joined seats (e ∷ h) (after e s)
unfolding after phase_in since_opening effect_of occurs keep count_of
event_joined j nothing_possible =
    record {
      phase_told = j.phase_told;
      size = j.size;
      allowance_told = j.allowance_told;
      used_told = λ o. omega (arith, j.used_told o);
      least_told = j.least_told;
      seats_told = λ o. quiet_told nothing_done refl (λ c. refl) (j.seats_told o);
    }
event_joined {seats} {h} {s} j (opening_possible a n) = opening_joined seats h s a n j.size
event_joined {h = h} {s = s} j (closing_possible o) =
    record {
      phase_told = rw (opened_before h (ap is_unopened (sym j.phase_told) ∙ o));
      size = j.size;
      allowance_told = λ o'. j.allowance_told o;
      used_told = λ o'. omega (arith, j.used_told o);
      least_told = λ o'. j.least_told o;
      seats_told = λ o'. quiet_told closing_done refl (λ c. refl) (j.seats_told o);
    }
event_joined j (counted_possible o spare) =
    record {
      phase_told = j.phase_told;
      size = j.size;
      allowance_told = j.allowance_told;
      used_told = λ o'. omega (arith, j.used_told o);
      least_told = j.least_told;
      seats_told = λ o'. quiet_told submission_counted refl (λ c. refl) (j.seats_told o);
    }
event_joined {s = s} j (seating_possible c o real absent free) =
    record {
      phase_told = j.phase_told;
      size = length_change (is_for 0) (seated_place c) s.places ∙ j.size;
      allowance_told = j.allowance_told;
      used_told = λ o'. omega (arith, j.used_told o);
      least_told = j.least_told;
      seats_told = λ o'. seating_told (j.seats_told o) real absent free;
    }
event_joined {s = s} j (marked_possible c n o spare real found) =
    record {
      phase_told = j.phase_told;
      size = length_change (is_for c) (marked_place n) s.places ∙ j.size;
      allowance_told = j.allowance_told;
      used_told = λ o'. omega (arith, j.used_told o);
      least_told = j.least_told;
      seats_told = λ o'. marking_told (j.seats_told o) real found;
    }
