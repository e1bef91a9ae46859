-- Laws of what the search digit by digit computes: the verdict of a slot by cases, the bounds of sides and leads, `side_most`, `lead_most`,
-- `carried_most`, and a round slot by slot.
use Rattle.std.specs.Prelude.{ℕ, suc, ◌+◌, ◌-◌, ◌≤◌, ◌<◌, ◌≡◌, refl, Bool, true, false, cond, List, leb, length}
use Rattle.basics.specs.Core.{sym, ap, ◌∙◌, ⊎_elim, le_of_lt, eq-or-lt_of_le}
use Rattle.basics.specs.Core.{arith, get_or-eq_default, le-leb, lt-leb, eq-eqb, ne_eqb}
use Rattle.basics.specs.Numbers.{le_or_lt, true_or_false}
use Rattle.basics.specs.Lists.{tabulate, length_tabulate, get_or_tabulate}
use Rattle.basics.specs.Backwards.{back_end, back_step}
use Rattle.model.specs.Instance.{Instance}
use Rattle.model.specs.Counts.{can_serve, operating_cost}
use Rattle.thresholds.specs.Places.{count_at_place, last_place}
use Rattle.thresholds.specs.Thresholds.{Verdict, is_less, weighed, level_price, judge, carried, raised_place, side_at, raised_at}
use Rattle.thresholds.specs.Thresholds.{in_slot, forward, backward}

-- The test is 1 where x is less than y.
pub less_one : (x y : ℕ) → x < y → is_less x y ≡ 1
unfolding is_less
less_one x y h = rw (lt-leb y x h) refl

-- The test is 0 where x is at least y.
pub less_zero : (x y : ℕ) → y ≤ x → is_less x y ≡ 0
unfolding is_less
less_zero x y h = rw (le-leb y x h) refl

-- The test is 0 or 1.
pub less_most : (x y : ℕ) → is_less x y ≤ 1
unfolding is_less
less_most x y = most (leb y x)
  where
    most : (b : Bool) → cond b 0 1 ≤ 1
    most true = omega arith
    most false = omega arith

-- A slot with load l judges level j by the lead before it.
module _ (i : Instance) (counts : List ℕ) (j l lead : ℕ) where
  -- What the place above the level costs, with the lead.
  abbrev upper : ℕ
  upper = lead + operating_cost i (count_at_place counts (j + 1)) l

  -- What the place below the level costs.
  abbrev lower : ℕ
  lower = operating_cost i (count_at_place counts j) l

  -- The verdict by what the two places cost.
  abbrev weighed_here : Verdict
  weighed_here = weighed (level_price i counts j) upper lower

  -- Beyond the list no plan is above the level.
  pub judge_beyond : last_place counts ≤ j → judge i counts j l lead ≡ record { lead = 0; side = 0 }
  unfolding judge
  judge_beyond h = rw (le-leb (last_place counts) j h) refl

  module _ (inside : j < last_place counts) where
    -- Inside the list the two places are weighed if the one below the level serves.
    pub judge_serves : can_serve i (count_at_place counts j) l ≡ true → judge i counts j l lead ≡ weighed_here
    unfolding judge
    judge_serves serves = rw (lt-leb (last_place counts) j inside, serves) refl

    -- If it does not, every plan is above the level.
    pub judge_forced : can_serve i (count_at_place counts j) l ≡ false → judge i counts j l lead ≡ record { lead = 0; side = 2 }
    unfolding judge
    judge_forced fails = rw (lt-leb (last_place counts) j inside, fails) refl

  -- So what holds of these verdicts holds of the slot's.
  judge_cases :
      (P : Verdict → Type 0) → P (record { lead = 0; side = 0 }) →
      (j < last_place counts → P weighed_here × P (record { lead = 0; side = 2 })) → P (judge i counts j l lead)
  judge_cases P beyond inside =
      ⊎_elim
      (λ (h : last_place counts ≤ j). rw (judge_beyond h) beyond)
      (λ (h : j < last_place counts).
      ⊎_elim
      (λ (serves : can_serve i (count_at_place counts j) l ≡ true). rw (judge_serves h serves) (inside h).0)
      (λ (fails : can_serve i (count_at_place counts j) l ≡ false). rw (judge_forced h fails) (inside h).1)
      (true_or_false (can_serve i (count_at_place counts j) l)))
      (le_or_lt (last_place counts) j)

  -- A side is 0, 1 or 2.
  pub side_most : (judge i counts j l lead).side ≤ 2
  side_most =
      judge_cases (λ verdict. verdict.side ≤ 2) (omega arith)
      (λ _. (omega (arith, less_most upper lower, less_most upper (lower + level_price i counts j)), omega arith))

  -- A lead is at most the price of rising over the level.
  pub lead_most : (judge i counts j l lead).lead ≤ level_price i counts j
  lead_most = judge_cases (λ verdict. verdict.lead ≤ level_price i counts j) (omega arith) (λ _. (omega arith, omega arith))

  -- Beyond the list the side is 0.
  pub side_beyond : length counts ≤ j + 1 → (judge i counts j l lead).side ≤ 0
  side_beyond beyond = rw (judge_beyond (omega arith)) (omega arith)

  -- A side above 0 is found inside the list only.
  pub side_inside : 1 ≤ (judge i counts j l lead).side → j + 1 < length counts
  side_inside some =
      ⊎_elim
      (λ (beyond : length counts ≤ j + 1). omega (arith, side_beyond beyond))
      (λ (inside : j + 1 < length counts). inside)
      (le_or_lt (length counts) (j + 1))

-- The lead that is carried over to a level with the price w, from a slot before whose place so far is `before`.
module _ (w before here lead : ℕ) where
  -- From the same place it is the slot's own.
  pub carried_same : here ≡ before → carried w before here lead ≡ lead
  unfolding carried
  carried_same e = rw (eq-eqb here before e) refl

  -- From a higher one it is 0.
  pub carried_above : here < before → carried w before here lead ≡ 0
  unfolding carried
  carried_above h = rw (ne_eqb here before (λ e. omega arith), le-leb here before (le_of_lt h)) refl

  -- From a lower one it is the price.
  pub carried_below : before < here → carried w before here lead ≡ w
  unfolding carried
  carried_below h = rw (ne_eqb here before (λ e. omega arith), lt-leb here before h) refl

  -- What bounds the slot's own lead and the price bounds the lead that is carried over.
  pub carried_most : (most : ℕ) → lead ≤ most → w ≤ most → carried w before here lead ≤ most
  carried_most most small price =
      ⊎_elim
      (λ (h : here ≤ before).
      ⊎_elim
      (λ (e : here ≡ before). rw (carried_same e) small)
      (λ (g : here < before). rw (carried_above g) (omega arith))
      (eq-or-lt_of_le h))
      (λ (h : before < here). rw (carried_below h) price)
      (le_or_lt here before)

-- The place after a round is a place of a list with n entries, if the place before it is one and a side above 0 is found inside the list
-- only. Where the side is 0 the next slot's place alone does not raise it.
pub raised_inside :
    (b here side next n : ℕ) → here < n → (1 ≤ side → here + b < n) → raised_place b here side next < n
unfolding raised_place
raised_inside b here side next n low high =
    let sum = side + is_less (here + b - 1) next in
    ⊎_elim
    (λ (many : 2 ≤ sum). rw (le-leb 2 sum many) (high (omega (arith, less_most (here + b - 1) next))))
    (λ (few : sum < 2). rw (lt-leb 2 sum few) low)
    (le_or_lt 2 sum)

module _ (slots b : ℕ) (plan sides : ℕ → ℕ) where
  -- A slot's place after a round is by the next slot's.
  pub raised_step :
      (t : ℕ) → t < slots → raised_at slots b plan sides t ≡ raised_place b (plan t) (sides t) (raised_at slots b plan sides (suc t))
  raised_step = back_step slots _

  -- After the last slot the place is 0.
  pub raised_end : raised_at slots b plan sides slots ≡ 0
  raised_end = back_end slots _

-- The entries of the sides that a round finds.
pub forward_entry :
    (i : Instance) (counts : List ℕ) (start b : ℕ) (plan : List ℕ) (t : ℕ) → t < i.slots →
    in_slot (forward i counts start b plan) t ≡ side_at i counts start b (in_slot plan) t
unfolding forward
forward_entry i counts start b plan t h = get_or_tabulate i.slots (side_at i counts start b (in_slot plan)) t 0 h

-- The entries of the places after a round, also in the slot after the last.
pub backward_entry :
    (slots b : ℕ) (plan sides : List ℕ) (t : ℕ) → t ≤ slots →
    in_slot (backward slots b plan sides) t ≡ raised_at slots b (in_slot plan) (in_slot sides) t
unfolding backward
backward_entry slots b plan sides t h =
    ⊎_elim
    (λ (end : t ≡ slots).
    get_or-eq_default (tabulate slots new) 0 (omega (arith, length_tabulate slots new)) ∙
    sym (ap new end ∙ raised_end slots b (in_slot plan) (in_slot sides)))
    (λ (inside : t < slots). get_or_tabulate slots new t 0 inside)
    (eq-or-lt_of_le h)
  where
    new : ℕ → ℕ
    new = raised_at slots b (in_slot plan) (in_slot sides)
