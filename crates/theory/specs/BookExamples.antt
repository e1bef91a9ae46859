-- The worked examples of facts 1 to 5 of docs/COURSE-BOOK.md, on cards that meet the hypotheses of these facts: `book_examples`; and that sharper
-- forms of the facts fail, as `coarse_sometimes_dearer`.
use Rattle.std.specs.Prelude.{ℕ, ◌≤◌, ◌≡◌, refl, true, List, [], ◌∷◌, ◌++◌, reverse}
use Rattle.basics.specs.Core.{sym, ap, ap₂, ◌∙◌, flat_map, arith}
use Rattle.basics.specs.Tests.{every}
use Rattle.basics.specs.Sums.{sum}
use Rattle.basics.specs.Ranges.{least_over, first_over}
use Rattle.basics.specs.Lists.{tabulate, equal_tabulate, rows, keep}
use Rattle.basics.specs.Bytes.{little_endian, bytes_of}
use Rattle.model.specs.Instance.{Instance, instance_of, card_bytes, convex_at, convex, table_in_range, prices_in_range, loads_in_range}
use Rattle.model.specs.MoreLight.{least_from, active_step}
use Rattle.model.specs.Counts.{can_serve, all_counts, power_of_two, coarse_counts}
use Rattle.model.specs.Sheets.{state_at, sheet_length, sheet_entries, light_at, sheet_light, serves, step_cost, change_cost}
use Rattle.model.specs.Sheets.{sheet_operating_cost, sheet_switching_cost, sheet_cost}
use Rattle.model.specs.Plans.{module_byte, slot_row, sheet_of, plan_cost, plan_serves, plans_in_order, cheapest, cheapest_of, least_plan}
use Rattle.model.specs.Planners.{Planner, exact, coarse, allowed_counts, planned_by, planned_cost}
use Rattle.model.specs.Specs.{ShowInOrder, first_of}
use Rattle.model.specs.Calls.{Accepted}
use Rattle.model.specs.Promises.{KeepsRules}
use Rattle.model.specs.RelatedShows.{Agree, loads_of, Reversed, LargerRack, Concatenated, PlannedAt, PlannedAs}
use Rattle.model.specs.Examples.{show_of, card_of}
use Rattle.laws.specs.Encoding.{SameShow, in_order_fits, in_order_accepted, card_bytes_show}
use Rattle.theory.specs.AgreeingShows.{agree_back, agree_on, same_loads}
use Rattle.theory.specs.CourseBook.{planned_at, planned_as, planned_at_one, NeverDearer}

-- A table and prices.
pub record Rates : Type 0 where
  pub top_step : ℕ
  pub power_up : ℕ
  pub power_down : ℕ
  pub table : List ℕ

-- The card of a show with these rates, m modules and the loads l.
abbrev pub card : Rates → (m : ℕ) → (loads : List ℕ) → List ℕ
card f m l = card_of m f.top_step f.power_up f.power_down f.table l

-- Example A's rates; rates with a dear second step; rates by which only a start costs; and rates by which only an active module costs.
abbrev pub rates_a : Rates
rates_a = record { top_step = 2; power_up = 3; power_down = 2; table = 1 ∷ 2 ∷ 4 ∷ [] }

abbrev pub dear_step : Rates
dear_step = record { top_step = 2; power_up = 1; power_down = 1; table = 1 ∷ 2 ∷ 8 ∷ [] }

abbrev pub power_up_only : Rates
power_up_only = record { top_step = 1; power_up = 1; power_down = 0; table = 0 ∷ 0 ∷ [] }

abbrev pub table_only : Rates
table_only = record { top_step = 2; power_up = 0; power_down = 0; table = 1 ∷ 1 ∷ 2 ∷ [] }

-- A card is accepted, and a planner gives it the cost x and the plan p.
pub record Given (k : Planner) (c : List ℕ) (x : ℕ) (p : List ℕ) : Type 0 where
  pub accepted : Accepted c
  pub cost : PlannedAt k c x
  pub plan : PlannedAs k c p

module _ (f : Rates) where
  abbrev show : (m : ℕ) → (loads : List ℕ) → Instance
  show m l = show_of m f.top_step f.power_up f.power_down f.table l

  -- What is computed of a show in order gives what a planner gives its card.
  given :
      (k : Planner) (m : ℕ) (l : List ℕ) {x : ℕ} {p : List ℕ} → ShowInOrder (show m l) → KeepsRules k (instance_of (card f m l)) →
      planned_cost k (instance_of (card f m l)) ≡ x → planned_by k (instance_of (card f m l)) ≡ p → Given k (card f m l) x p
  given k m l order keeps cost plan =
      let c = card f m l in
      let accepted = in_order_accepted (show m l) order in
      record { accepted = accepted; cost = rw cost at (planned_at k c accepted keeps); plan = rw plan at (planned_as k c accepted keeps) }

  -- What is read from the card of a show in order is the show.
  written : (m : ℕ) (l : List ℕ) → ShowInOrder (show m l) → SameShow (show m l) (instance_of (card f m l))
  written m l order = card_bytes_show (show m l) (in_order_fits (show m l) order)

  loads : (m : ℕ) (l : List ℕ) → ShowInOrder (show m l) → loads_of (instance_of (card f m l)) ≡ l
  unfolding loads_of
  loads m l order = same_loads (written m l order) ∙ sym (equal_tabulate refl (λ k h. refl))

  -- Cards with the same rates agree.
  agree :
      (m n : ℕ) (l r : List ℕ) → ShowInOrder (show m l) → ShowInOrder (show n r) →
      Agree (instance_of (card f m l)) (instance_of (card f n r))
  agree m n l r e e' =
      let same : Agree (show m l) (show n r) = record { top_step = refl; power_up = refl; power_down = refl; table = λ k h. refl } in
      agree_on (agree_back (written m l e).agree) (agree_on same (written n r e').agree)

  reversed_cards :
      (m : ℕ) (l : List ℕ) → ShowInOrder (show m l) → ShowInOrder (show m (reverse l)) →
      Reversed (instance_of (card f m l)) (instance_of (card f m (reverse l)))
  reversed_cards m l e e' =
      record {
        agree = agree m m l (reverse l) e e';
        rack = (written m (reverse l) e').modules ∙ sym (written m l e).modules;
        loads = loads m (reverse l) e' ∙ ap reverse (sym (loads m l e));
      }

  larger_cards :
      (m n : ℕ) (l : List ℕ) → m ≤ n → ShowInOrder (show m l) → ShowInOrder (show n l) →
      LargerRack (instance_of (card f m l)) (instance_of (card f n l))
  larger_cards m n l more e e' =
      record {
        agree = agree m n l l e e';
        rack = omega (arith, (written m l e).modules, (written n l e').modules);
        loads = loads n l e' ∙ sym (loads m l e);
      }

  concatenated_cards :
      (m : ℕ) (l r : List ℕ) → ShowInOrder (show m l) → ShowInOrder (show m r) → ShowInOrder (show m (l ++ r)) →
      Concatenated (instance_of (card f m l)) (instance_of (card f m r)) (instance_of (card f m (l ++ r)))
  concatenated_cards m l r e e' e'' =
      record {
        agree_first = agree m m l (l ++ r) e e'';
        agree_second = agree m m r (l ++ r) e' e'';
        rack_first = (written m (l ++ r) e'').modules ∙ sym (written m l e).modules;
        rack_second = (written m (l ++ r) e'').modules ∙ sym (written m r e').modules;
        loads = loads m (l ++ r) e'' ∙ sym (ap₂ (λ a b. a ++ b) (loads m l e) (loads m r e'));
      }

-- The loads of example A.
abbrev pub loads_a : List ℕ
loads_a = 6 ∷ 0 ∷ 2 ∷ []

-- A card with two modules and the loads 2 2.
abbrev pub card_of_several : List ℕ
card_of_several = card table_only 2 (2 ∷ 2 ∷ [])

-- The examples of the course book, each with the cards that it speaks of.
pub record Book : Type 0 where
  -- Example A and example A backwards cost the same, and the plan is the plan backwards.
  pub reversed :
      Reversed (instance_of (card rates_a 3 loads_a)) (instance_of (card rates_a 3 (reverse loads_a))) ×
      Given exact (card rates_a 3 loads_a) 32 (3 ∷ 1 ∷ 1 ∷ []) × Given exact (card rates_a 3 (reverse loads_a)) 32 (1 ∷ 1 ∷ 3 ∷ [])
  -- Each module more can lower the least cost: 20, 18, 16.
  pub larger :
      LargerRack (instance_of (card dear_step 2 (4 ∷ []))) (instance_of (card dear_step 3 (4 ∷ []))) ×
      LargerRack (instance_of (card dear_step 3 (4 ∷ []))) (instance_of (card dear_step 4 (4 ∷ []))) ×
      Given exact (card dear_step 2 (4 ∷ [])) 20 (2 ∷ []) × Given exact (card dear_step 3 (4 ∷ [])) 18 (3 ∷ []) ×
      Given exact (card dear_step 4 (4 ∷ [])) 16 (4 ∷ [])
  -- A module more can leave the least cost as it is, 3 and 3, and raise the coarse planner's cost, 3 and 4.
  pub larger_coarse :
      LargerRack (instance_of (card power_up_only 3 (3 ∷ []))) (instance_of (card power_up_only 4 (3 ∷ []))) ×
      Given exact (card power_up_only 3 (3 ∷ [])) 3 (3 ∷ []) × Given exact (card power_up_only 4 (3 ∷ [])) 3 (3 ∷ []) ×
      Given coarse (card power_up_only 3 (3 ∷ [])) 3 (3 ∷ []) × Given coarse (card power_up_only 4 (3 ∷ [])) 4 (4 ∷ [])
  -- Example A, which costs 32, and a show of cost 16 cost 39 joined: less than 48, and more than 32.
  pub concatenated :
      Concatenated (instance_of (card rates_a 3 loads_a)) (instance_of (card rates_a 3 (3 ∷ []))) (instance_of (card rates_a 3 (loads_a ++ (3 ∷ [])))) ×
      Given exact (card rates_a 3 (3 ∷ [])) 16 (2 ∷ []) × Given exact (card rates_a 3 (loads_a ++ (3 ∷ []))) 39 (3 ∷ 2 ∷ 2 ∷ 2 ∷ [])
  -- Two shows can cost the sum joined: 1 and 1, 2.
  pub concatenated_equal :
      Concatenated (instance_of (card table_only 1 (1 ∷ []))) (instance_of (card table_only 1 (1 ∷ []))) (instance_of (card table_only 1 (1 ∷ 1 ∷ []))) ×
      Given exact (card table_only 1 (1 ∷ [])) 1 (1 ∷ []) × Given exact (card table_only 1 (1 ∷ 1 ∷ [])) 2 (1 ∷ 1 ∷ [])
  -- The plan is 1 1. The plan 2 2 costs as much, and so does its sheet, which has two modules active in each slot.
  pub several_least :
      Given exact card_of_several 4 (1 ∷ 1 ∷ []) × (plan_serves (instance_of card_of_several) (2 ∷ 2 ∷ []) ≡ true) ×
      (plan_cost (instance_of card_of_several) (2 ∷ 2 ∷ []) ≡ 4) ×
      (serves (instance_of card_of_several) (1 ∷ 1 ∷ 1 ∷ 1 ∷ []) ≡ true) × (sheet_cost (instance_of card_of_several) (1 ∷ 1 ∷ 1 ∷ 1 ∷ []) ≡ 4)

pub book_examples : Book
unfolding every sum tabulate rows keep flat_map little_endian bytes_of instance_of card_bytes convex_at convex table_in_range prices_in_range
    loads_in_range can_serve all_counts power_of_two coarse_counts state_at sheet_length sheet_entries light_at sheet_light serves step_cost
    change_cost sheet_operating_cost sheet_switching_cost sheet_cost module_byte slot_row sheet_of plan_cost plan_serves plans_in_order cheapest
    cheapest_of least_plan least_over first_over least_from active_step allowed_counts planned_by first_of
book_examples =
    record {
      reversed = (
        reversed_cards rates_a 3 loads_a refl refl,
        given rates_a exact 3 loads_a refl refl refl refl,
        given rates_a exact 3 (reverse loads_a) refl refl refl refl,
      );
      larger = (
        larger_cards dear_step 2 3 (4 ∷ []) (omega arith) refl refl,
        larger_cards dear_step 3 4 (4 ∷ []) (omega arith) refl refl,
        given dear_step exact 2 (4 ∷ []) refl refl refl refl,
        given dear_step exact 3 (4 ∷ []) refl refl refl refl,
        given dear_step exact 4 (4 ∷ []) refl refl refl refl,
      );
      larger_coarse = (
        larger_cards power_up_only 3 4 (3 ∷ []) (omega arith) refl refl,
        given power_up_only exact 3 (3 ∷ []) refl refl refl refl,
        given power_up_only exact 4 (3 ∷ []) refl refl refl refl,
        given power_up_only coarse 3 (3 ∷ []) refl refl refl refl,
        given power_up_only coarse 4 (3 ∷ []) refl refl refl refl,
      );
      concatenated = (
        concatenated_cards rates_a 3 loads_a (3 ∷ []) refl refl refl,
        given rates_a exact 3 (3 ∷ []) refl refl refl refl,
        given rates_a exact 3 (loads_a ++ (3 ∷ [])) refl refl refl refl,
      );
      concatenated_equal = (
        concatenated_cards table_only 1 (1 ∷ []) (1 ∷ []) refl refl refl,
        given table_only exact 1 (1 ∷ []) refl refl refl refl,
        given table_only exact 1 (1 ∷ 1 ∷ []) refl refl refl refl,
      );
      several_least = (given table_only exact 2 (2 ∷ 2 ∷ []) refl refl refl refl, refl, refl, refl, refl);
    }

-- The coarse planner is not one by which more modules never cost more.
pub coarse_sometimes_dearer : NeverDearer coarse → ⊥
coarse_sometimes_dearer never =
    let (larger, _, _, three, four) = book_examples.larger_coarse in
    let (x, y, at-three, at-four, below) = never _ _ three.accepted four.accepted larger in
    omega (
      arith,
      planned_at_one coarse (card power_up_only 3 (3 ∷ [])) three.cost at-three,
      planned_at_one coarse (card power_up_only 4 (3 ∷ [])) four.cost at-four,
    )
