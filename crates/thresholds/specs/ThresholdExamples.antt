-- Plans found digit by digit, beside the least plans by a dynamic program over columns, which were worked out apart from these
-- definitions.
use Rattle.std.specs.Prelude.{ℕ, ◌-◌, ◌≡◌, refl, Bool, true, ◌&&◌, List, [], ◌∷◌, length, get_or}
use Rattle.basics.specs.Backwards.{from_end, back_to}
use Rattle.basics.specs.Lists.{tabulate, same_list}
use Rattle.basics.specs.Ranges.{least_over}
use Rattle.model.specs.Instance.{Instance}
use Rattle.model.specs.MoreLight.{least_from}
use Rattle.model.specs.Counts.{can_serve, operating_cost}
use Rattle.thresholds.specs.Thresholds.{is_less, judge, first_lead, carried, raised_place, lead_before, side_at, forward, backward, rounds}
use Rattle.thresholds.specs.Thresholds.{threshold_plan}

-- A show of a rack of m with a table, two prices and loads; the allowed counts, the start count and the number of rounds; and the least
-- plan.
record Row : Type 0 where
  modules : ℕ
  table : List ℕ
  power_up : ℕ
  power_down : ℕ
  loads : List ℕ
  counts : List ℕ
  start : ℕ
  digits : ℕ
  least : List ℕ

-- The show of a row.
abbrev show_of : Row → Instance
show_of r =
    record {
      modules = r.modules;
      top_step = length r.table - 1;
      slots = length r.loads;
      power_up = r.power_up;
      power_down = r.power_down;
      table = λ k. get_or r.table k 0;
      load = λ t. get_or r.loads t 0;
    }

-- The plan found for a row is its least plan.
abbrev found : Row → Bool
found r = same_list (threshold_plan (show_of r) r.counts r.start r.digits) r.least

-- So it is for each row of a list.
all_found : List Row → Bool
all_found [] = true
all_found (r ∷ rs) = found r && all_found rs

-- All counts of a rack of 7, with loads, so many rounds and the least plan.
abbrev all_counts_of : (loads : List ℕ) → (digits : ℕ) → (least : List ℕ) → Row
all_counts_of loads digits least =
    record {
      modules = 7;
      table = 0 ∷ 5 ∷ 11 ∷ [];
      power_up = 3;
      power_down = 1;
      loads = loads;
      counts = 0 ∷ 1 ∷ 2 ∷ 3 ∷ 4 ∷ 5 ∷ 6 ∷ 7 ∷ [];
      start = 0;
      digits = digits;
      least = least;
    }

-- With seven slots and three rounds, which are as many as the list needs, or more; and with no slot.
abbrev all_counts_row : (digits : ℕ) → Row
all_counts_row digits = all_counts_of (3 ∷ 11 ∷ 4 ∷ 11 ∷ 4 ∷ 5 ∷ 0 ∷ []) digits (3 ∷ 6 ∷ 6 ∷ 6 ∷ 5 ∷ 5 ∷ 0 ∷ [])

abbrev no_slot_row : Row
no_slot_row = all_counts_of [] 3 []

-- A list that leaves counts out, from a start count.
abbrev start_row : Row
start_row =
    record {
      modules = 3;
      table = 5 ∷ 6 ∷ 7 ∷ 13 ∷ [];
      power_up = 5;
      power_down = 3;
      loads = 0 ∷ 4 ∷ 2 ∷ 1 ∷ 6 ∷ 5 ∷ 7 ∷ [];
      counts = 0 ∷ 2 ∷ 3 ∷ [];
      start = 2;
      digits = 2;
      least = 2 ∷ 2 ∷ 2 ∷ 2 ∷ 3 ∷ 3 ∷ 3 ∷ [];
    }

-- Such a list with a table that falls.
abbrev falling_row : Row
falling_row =
    record {
      modules = 6;
      table = 4 ∷ 2 ∷ 1 ∷ [];
      power_up = 2;
      power_down = 4;
      loads = 2 ∷ 7 ∷ 12 ∷ 3 ∷ 4 ∷ 5 ∷ [];
      counts = 0 ∷ 1 ∷ 2 ∷ 3 ∷ 4 ∷ 6 ∷ [];
      start = 2;
      digits = 3;
      least = 2 ∷ 4 ∷ 6 ∷ 3 ∷ 3 ∷ 3 ∷ [];
    }

-- All counts from a start count, with loads that rise, fall and rise again.
abbrev rising_twice_row : Row
rising_twice_row =
    record {
      modules = 7;
      table = 4 ∷ 4 ∷ 5 ∷ 8 ∷ [];
      power_up = 2;
      power_down = 2;
      loads = 5 ∷ 12 ∷ 16 ∷ 20 ∷ 6 ∷ 10 ∷ 20 ∷ [];
      counts = 0 ∷ 1 ∷ 2 ∷ 3 ∷ 4 ∷ 5 ∷ 6 ∷ 7 ∷ [];
      start = 2;
      digits = 3;
      least = 2 ∷ 6 ∷ 7 ∷ 7 ∷ 5 ∷ 5 ∷ 7 ∷ [];
    }

-- The plan found for each row is its least plan.
plans_found : all_found (all_counts_row 3 ∷ all_counts_row 4 ∷ no_slot_row ∷ start_row ∷ falling_row ∷ rising_twice_row ∷ []) ≡ true
unfolding all_found threshold_plan rounds backward forward from_end back_to side_at lead_before judge carried raised_place first_lead is_less tabulate same_list
    can_serve operating_cost least_over least_from
plans_found = refl
