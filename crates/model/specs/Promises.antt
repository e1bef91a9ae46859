-- What the contracts of the calls promise beyond their outcome, about the call's own number and cost or points and its own bytes at exit: of the
-- sheet call, marking and the planners conditions 2 and 3 of the tender, where the sheets are all lists that serve, of the planner with a list
-- condition 3 with its ratio, and that no sheet that keeps to the list costs less (02 §8), of the practice call what 02 §1 says of its cards, of
-- reading the least cost what §4 says of it, of the catalogue call what its bytes are in a card, and of the explanation of a sheet what §7 says of
-- its three numbers.
use Rattle.std.specs.Prelude.{ℕ, ◌+◌, ◌*◌, ◌≤◌, ◌<◌, ◌≡◌, true, List, [], ◌∷◌, ◌++◌, ◌↔◌, length, get_or, take}
use Rattle.std.specs.Prelude.{Ok}
use Rattle.model.specs.declared.Sitting.{Sitting}
use Rattle.model.specs.declared.Reply.{Reply}
use Rattle.model.specs.declared.Points.{Points}
use Rattle.model.specs.Answers.{number_of, cost_of}
use Rattle.model.specs.Instance.{Instance, instance_of, head_length, card_length, table_size, table_of, table_in_range, convex, never_falls, price_bound}
use Rattle.model.specs.Sheets.{serves, sheet_operating_cost, sheet_switching_cost, sheet_cost, counts_of}
use Rattle.model.specs.Plans.{Member, sheet_of, plan_cost}
use Rattle.model.specs.Planners.{Planner, exact, work_bytes, keeps_list, planned_cost}
use Rattle.model.specs.Explanation.{counts_operating_cost, counts_switching_cost, NoBetterSpread, NoBetterChoice, NoBetterOrder}
use Rattle.model.specs.Explanation.{NoBetterPlan, NoBetterSheet}
use Rattle.model.specs.Practice.{longest_practice}
use Rattle.model.specs.Catalogue.{catalogue_entry}
use Rattle.model.specs.Specs.{sheet_bytes, front_tests, size_tests, load_test, Passes}
use Rattle.model.specs.Calls.{answer, Accepted, plan_show, mark_sheet}

-- The sheet that the first T bytes of a plan buffer make.
abbrev pub made_sheet : List ℕ → List ℕ → List ℕ
made_sheet card plan = sheet_of (instance_of card) (take (instance_of card).slots plan)

-- 'the sheet made from the exact plan costs exactly the exact planner's figure'; 'the coarse planner's figure, which is what the
-- sheet of its own plan costs'
pub record OwnSheet (card plan : List ℕ) (number cost : ℕ) : Type 0 where
  pub sheet_serves : number ≡ 0 → serves (instance_of card) (made_sheet card plan) ≡ true
  pub sheet_costs : number ≡ 0 → sheet_cost (instance_of card) (made_sheet card plan) ≡ cost

-- The cost is at most r times what any sheet that serves costs: with r = 1 'every other sheet that serves the show costs at least as
-- much', with r = 2 'at most twice the least that a sheet serving the show costs'; both 'now range over sheets with enough light' (02 §2); with
-- the ratio of a list 'at most r times the least over all sheets' (02 §8).
abbrev pub AtMostTimes : ℕ → (card : List ℕ) → (number cost : ℕ) → Type 0
AtMostTimes r card number cost =
    number ≡ 0 → (s : List ℕ) → serves (instance_of card) s ≡ true → cost ≤ r * sheet_cost (instance_of card) s

-- Each slot of a sheet has as many active modules as some number of the list.
abbrev pub CountsWithin : (counts : List ℕ) → (card sheet : List ℕ) → Type 0
CountsWithin counts card s = (t : ℕ) → t < (instance_of card).slots → Member (get_or (counts_of (instance_of card) s) t 0) counts

-- 'The plan limited to the list' (02 §8) is the least of all sheets that keep to the list: no sheet that serves, with counts of the list
-- alone, costs less.
abbrev pub LeastWithin : (counts : List ℕ) → (card : List ℕ) → (number cost : ℕ) → Type 0
LeastWithin counts card number cost =
    number ≡ 0 → (s : List ℕ) → serves (instance_of card) s ≡ true → CountsWithin counts card s → cost ≤ sheet_cost (instance_of card) s

-- 'Each sheet the planner makes is accepted at the cost the planner named': marking accepts the first m × T bytes of the sheet
-- buffer at the cost given.
abbrev pub MarkedAlike : (card sheet : List ℕ) → (number cost : ℕ) → Type 0
MarkedAlike card sheet number cost =
    number ≡ 0 → answer (mark_sheet card (take (sheet_bytes (instance_of card)) sheet)) ≡ Ok cost

-- 'a sheet is accepted exactly if it serves the show': number 0 is given for those that serve an accepted show, and for no others.
pub record AcceptsExactly (card sheet : List ℕ) (number : ℕ) : Type 0 where
  pub only_serving : number ≡ 0 → Accepted card × (serves (instance_of card) sheet ≡ true)
  pub every_serving : Accepted card → serves (instance_of card) sheet ≡ true → number ≡ 0

-- The card that stands at the front of an area: as many bytes as its own Q and T ask for.
abbrev pub front_card : List ℕ → List ℕ
front_card area = take (card_length (instance_of area)) area

-- A planner's list of counts and its ratio keep the rules for a show's rack (02 §8). The exact and the coarse planner have no list to be judged.
abbrev pub KeepsRules : Planner → Instance → Type 0
KeepsRules k i = keeps_list k i ≡ true

-- Something holds with every plan and work buffer that is long enough for a planner and a card.
abbrev pub WithRoom : Planner → (card : List ℕ) → ((plan work : List ℕ) → Type 0) → Type 0
WithRoom k card holds =
    (plan work : List ℕ) → (instance_of card).slots ≤ length plan → work_bytes k (instance_of card) ≤ length work → holds plan work

-- A planner plans a card with every plan and work buffer that is long enough.
abbrev pub AlwaysPlanned : Planner → (card : List ℕ) → Type 0
AlwaysPlanned k card = WithRoom k card (λ plan work. number_of (answer (plan_show k card plan work)) ≡ 0)

-- 'Every card it writes is accepted, also by the coarse planner' (02 §1): the card at the front of the area at exit is accepted, both
-- planners plan it, and so does one with a list that keeps the rules, and it is no longer than the longest practice card.
pub record WritesAccepted (area : List ℕ) (number : ℕ) : Type 0 where
  pub accepted : number ≡ 0 → Accepted (front_card area)
  pub planned : number ≡ 0 → (k : Planner) → KeepsRules k (instance_of (front_card area)) → AlwaysPlanned k (front_card area)
  pub at_most : number ≡ 0 → length (front_card area) ≤ longest_practice

-- An area as long as the longest practice card is enough for every start from 1 on.
abbrev pub AlwaysEnough : (start : ℕ) → (area : List ℕ) → (number : ℕ) → Type 0
AlwaysEnough start area number = 1 ≤ start → longest_practice ≤ length area → number ≡ 0

-- 'A seated candidate .. reads the least cost only after closing' (02 §4): a caller who is not the supervisor gets 15 and no cost from a sitting
-- that is not closed.
pub record HiddenTillClosed (sitting : Sitting) (caller : ℕ) (reply : Reply) : Type 0 where
  pub refused : (sitting.state ≡ 2 → ⊥) → (caller ≡ 0 → ⊥) → reply.number ≡ 15
  pub no_cost : (sitting.state ≡ 2 → ⊥) → (caller ≡ 0 → ⊥) → reply.cost ≡ 0
  pub none_marked : (sitting.state ≡ 2 → ⊥) → (caller ≡ 0 → ⊥) → reply.marked ≡ 0

-- The fields of a card other than its table are in order: none of refusals 1 to 5 and 8 applies, and the two prices keep their bound.
pub record OthersInOrder (card : List ℕ) : Type 0 where
  pub others : Passes (front_tests card ++ (size_tests card ++ (load_test (instance_of card) ∷ [])))
  pub power_up : (instance_of card).power_up ≤ price_bound
  pub power_down : (instance_of card).power_down ≤ price_bound

-- A card has the catalogue module's table (02 §5): each entry that is read from it is the rule's, refusals 6 and 7 find nothing wrong with the table,
-- it never falls, and the card is accepted exactly if its other fields are in order.
pub record HasCatalogueTable (card : List ℕ) : Type 0 where
  pub entries : (k : ℕ) → k ≤ (instance_of card).top_step → (instance_of card).table k ≡ catalogue_entry k
  pub in_range : table_in_range (instance_of card).top_step (instance_of card).table ≡ true
  pub convexity : convex (instance_of card).top_step (instance_of card).table ≡ true
  pub never_falls : never_falls (instance_of card).top_step (instance_of card).table ≡ true
  pub accepted : OthersInOrder card ↔ Accepted card

-- The bytes that the catalogue call writes for a top step are the catalogue module's table in every card that has this top step and these bytes
-- where its table stands, and so in every card that is made of a head with this top step, these bytes and anything behind them.
pub record WritesTable (top : ℕ) (area : List ℕ) (number : ℕ) : Type 0 where
  pub in_card :
      number ≡ 0 → (card : List ℕ) → (instance_of card).top_step ≡ top → table_of card ≡ take (table_size top) area → HasCatalogueTable card
  pub behind_head :
      number ≡ 0 → (head loads : List ℕ) → length head ≡ head_length → (instance_of head).top_step ≡ top →
      HasCatalogueTable (head ++ (take (table_size top) area ++ loads))

-- 'for each sheet that marking accepts' (02 §7): an explanation gives number 0 for these, with a work buffer that is long enough, and for no
-- others.
abbrev pub ExplainsMarked : (card sheet work : List ℕ) → (number : ℕ) → Type 0
ExplainsMarked card sheet work number =
    number ≡ 0 ↔ ((number_of (answer (mark_sheet card sheet)) ≡ 0) × (work_bytes exact (instance_of card) ≤ length work))

-- 'None is negative' (02 §7): each number is a whole difference, of which nothing is cut off.
pub record NoneNegative (card sheet : List ℕ) (points : Points) : Type 0 where
  pub spread_whole :
      points.number ≡ 0 →
      counts_operating_cost (instance_of card) (counts_of (instance_of card) sheet) + points.spread ≡ sheet_operating_cost (instance_of card) sheet
  pub swaps_whole :
      points.number ≡ 0 →
      counts_switching_cost (instance_of card) (counts_of (instance_of card) sheet) + points.swaps ≡ sheet_switching_cost (instance_of card) sheet
  pub counts_whole :
      points.number ≡ 0 →
      planned_cost exact (instance_of card) + points.counts ≡ plan_cost (instance_of card) (counts_of (instance_of card) sheet)

-- 'together they are the cost above the least' (02 §7): with all buffers that are long enough the exact planner gives a cost, and this cost and the
-- three numbers are the cost that marking gives.
abbrev pub AboveLeast : (card sheet : List ℕ) → Points → Type 0
AboveLeast card sheet points =
    points.number ≡ 0 →
    WithRoom exact card
    (λ plan work.
    (number_of (answer (plan_show exact card plan work)) ≡ 0) ×
    (cost_of (answer (plan_show exact card plan work)) + (points.spread + points.swaps + points.counts) ≡
    cost_of (answer (mark_sheet card sheet))))

-- 'Each is zero exactly if changing that one thing alone saves nothing' (02 §7); of the swaps it is said of patterns and of sheets.
-- All three are zero exactly if no sheet that serves costs less.
pub record ZeroExactly (card sheet : List ℕ) (points : Points) : Type 0 where
  pub spread_zero : points.number ≡ 0 → points.spread ≡ 0 ↔ NoBetterSpread (instance_of card) sheet
  pub swaps_zero : points.number ≡ 0 → points.swaps ≡ 0 ↔ NoBetterChoice (instance_of card) sheet
  pub swaps_zero_sheets : points.number ≡ 0 → points.swaps ≡ 0 ↔ NoBetterOrder (instance_of card) sheet
  pub counts_zero : points.number ≡ 0 → points.counts ≡ 0 ↔ NoBetterPlan (instance_of card) sheet
  pub all_zero : points.number ≡ 0 → points.spread + points.swaps + points.counts ≡ 0 ↔ NoBetterSheet (instance_of card) sheet
