-- Shows that document 02, §3, compares: when two agree, and when one is another played backwards, another on a rack with more modules, or
-- two others joined; and the cost and the plan that a planner gives for a card.
use Rattle.std.specs.Prelude.{ℕ, ◌≤◌, ◌≡◌, List, ◌++◌, reverse, take}
use Rattle.basics.specs.Lists.{tabulate}
use Rattle.model.specs.Answers.{number_of}
use Rattle.model.specs.Instance.{Instance, instance_of}
use Rattle.model.specs.Planners.{Planner}
use Rattle.model.specs.Calls.{plan_show, answer, plan_at_exit, Gives}
use Rattle.model.specs.Promises.{WithRoom}

-- Two shows agree in table and prices: the same F(0) to F(Q), warm-up price and cool-down price. What is asked of their racks and loads is
-- said by each of the three records that follow.
pub record Agree (i j : Instance) : Type 0 where
  pub top_step : j.top_step ≡ i.top_step
  pub power_up : j.power_up ≡ i.power_up
  pub power_down : j.power_down ≡ i.power_down
  pub table : (k : ℕ) → k ≤ i.top_step → j.table k ≡ i.table k

-- The loads of a show, slot by slot.
unfoldable pub loads_of : Instance → List ℕ
loads_of i = tabulate i.slots i.load

-- 'A show played backwards': the show j is the show i with its loads in reverse.
pub record Reversed (i j : Instance) : Type 0 where
  pub agree : Agree i j
  pub rack : j.modules ≡ i.modules
  pub loads : loads_of j ≡ reverse (loads_of i)

-- 'The same show on a rack with more modules': the show j is the show i on a rack with at least as many modules.
pub record LargerRack (i j : Instance) : Type 0 where
  pub agree : Agree i j
  pub rack : i.modules ≤ j.modules
  pub loads : loads_of j ≡ loads_of i

-- 'Two shows with equal rack, table and prices .., joined end to end': the show k is the show i and then the show j.
pub record Concatenated (i j k : Instance) : Type 0 where
  pub agree_first : Agree i k
  pub agree_second : Agree j k
  pub rack_first : k.modules ≡ i.modules
  pub rack_second : k.modules ≡ j.modules
  pub loads : loads_of k ≡ loads_of i ++ loads_of j

-- A planner gives a card this cost: with every plan and work buffer that is long enough its number is 0 and its cost is this one.
abbrev pub PlannedAt : Planner → (card : List ℕ) → (cost : ℕ) → Type 0
PlannedAt k card cost = WithRoom k card (λ plan work. Gives (plan_show k card plan work) 0 cost)

-- A planner gives a card this plan: with every plan and work buffer that is long enough its number is 0 and the first T bytes of the plan
-- buffer at exit are these counts.
abbrev pub PlannedAs : Planner → (card : List ℕ) → (counts : List ℕ) → Type 0
PlannedAs k card counts =
    WithRoom k card
    (λ plan work.
    (number_of (answer (plan_show k card plan work)) ≡ 0) ×
    (take (instance_of card).slots (plan_at_exit (plan_show k card plan work)) ≡ counts))
