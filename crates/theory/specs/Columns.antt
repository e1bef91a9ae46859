-- The dynamic program over a list of allowed counts (thesis 4.2, 5.1), slot by slot. A place is an index of the list; a column gives each place j
-- the least cost of serving the slots so far and then holding the count at j. The proofs of this crate use columns. No code computes them, and no
-- definition of `model` and no contract cites them.
use Rattle.std.specs.Prelude.{ℕ, zero, suc, ◌+◌, ◌-◌, ◌*◌, cond, List, [], ◌∷◌, ◌++◌, leb}
use Rattle.basics.specs.Backwards.{back_to}
use Rattle.model.specs.Instance.{Instance}
use Rattle.model.specs.Counts.{can_serve, operating_cost}
use Rattle.model.specs.Thesis.{switching_price}
use Rattle.thresholds.specs.Places.{count_at_place, last_place}

-- A cost, and the place that it comes from.
pub record Choice : Type 0 where
  pub cost : ℕ
  pub at : ℕ

-- The choice of lower cost, the first one on a tie.
abbrev pub cheaper : Choice → Choice → Choice
cheaper a b = cond (leb a.cost b.cost) a b

-- One slot with load l, after a column and before holding the count at place j.
module _ (i : Instance) (counts : List ℕ) (l : ℕ) (before : ℕ → ℕ) (j : ℕ) where
  -- The cost of serving at place k and of then switching on up to place j.
  abbrev pub served_up_to : ℕ → ℕ
  served_up_to k =
      before k + operating_cost i (count_at_place counts k) l + switching_price i * (count_at_place counts j - count_at_place counts k)

  -- Serving at place k.
  abbrev pub served_at : ℕ → Choice
  served_at k = record { cost = served_up_to k; at = k }

  -- The choice at place k: serving there, if its count can, or the choice of the places above; the lower place on a tie.
  unfoldable pub served_or_above : ℕ → Choice → Choice
  served_or_above k above = cond (can_serve i (count_at_place counts k) l) (cheaper (served_at k) above) above

  -- The best of the last d + 1 places.
  unfoldable pub from_top : ℕ → Choice
  from_top zero = served_at (last_place counts)
  from_top (suc d) = served_or_above (last_place counts - suc d) (from_top d)

  -- The best of all places.
  unfoldable pub best_place : Choice
  best_place = from_top (last_place counts)

-- All slots, from a start count.
module _ (i : Instance) (counts : List ℕ) (start : ℕ) where
  -- The column after t slots.
  unfoldable pub column : ℕ → ℕ → ℕ
  column zero = λ j. switching_price i * (count_at_place counts j - start)
  column (suc t) = λ j. (best_place i counts (i.load t) (column t) j).cost

  -- The places that slot t (from 0) is served from, by the place held after it.
  unfoldable pub selection : ℕ → ℕ → ℕ
  selection t j = (best_place i counts (i.load t) (column t) j).at

  -- The counts of the first t slots, by the way back from place j after them.
  unfoldable pub way_back : ℕ → ℕ → List ℕ
  way_back zero j = []
  way_back (suc t) j = way_back t (selection t j) ++ (count_at_place counts (selection t j) ∷ [])

  -- The plan that the selections lead to.
  unfoldable pub searched_plan : List ℕ
  searched_plan = way_back i.slots 0

  -- The cost of the searched plan.
  unfoldable pub searched_cost : ℕ
  searched_cost = column i.slots 0

  -- The place of the searched plan in slot t. After the last slot it is 0.
  abbrev pub place_in : ℕ → ℕ
  place_in = back_to i.slots selection
