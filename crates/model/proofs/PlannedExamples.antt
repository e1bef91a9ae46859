-- What the planners give two cards (specs/RelatedExamples): the cost and the plan, with all buffers that are long enough.
use Rattle.std.specs.Prelude.{refl, [], ◌∷◌, length}
use Rattle.basics.specs.Core.{sym, flat_map}
use Rattle.basics.specs.Core.{le-ltb}
use Rattle.basics.specs.Tests.{every, all_of}
use Rattle.basics.specs.Sums.{sum}
use Rattle.basics.specs.Ranges.{least_over, first_over}
use Rattle.basics.specs.Lists.{tabulate, rows, keep, same_list}
use Rattle.basics.specs.Bytes.{little_endian, bytes_of}
use Rattle.model.specs.Instance.{instance_of, card_bytes, card_length, convex_at, convex, table_in_range, prices_in_range, loads_in_range}
use Rattle.model.specs.MoreLight.{least_from, active_step}
use Rattle.model.specs.Counts.{can_serve, all_counts, power_of_two, coarse_counts}
use Rattle.model.specs.Sheets.{state_at, step_cost, change_cost, sheet_operating_cost, sheet_switching_cost, sheet_cost}
use Rattle.model.specs.Plans.{module_byte, slot_row, sheet_of, plan_cost, plan_serves, plans_in_order, cheapest, cheapest_of, least_plan}
use Rattle.model.specs.Planners.{exact, coarse, allowed_counts, work_bytes, planned_by}
use Rattle.model.specs.Specs.{any_short, card_tests, first_of, at_exit}
use Rattle.model.specs.Calls.{spec_of, answer, buffers_at_exit, plan_at_exit}
use Rattle.model.specs.RelatedShows.{PlannedAt, PlannedAs}
use Rattle.model.specs.RelatedExamples.{GivenFrom, card_like_a, card_three}

given_computed : GivenFrom exact card_like_a 3 12 32 (3 ∷ 1 ∷ 1 ∷ []) × GivenFrom coarse card_three 1 10 4 (4 ∷ [])
unfolding every all_of sum tabulate rows keep same_list flat_map little_endian bytes_of instance_of card_bytes card_length convex_at convex table_in_range
    prices_in_range loads_in_range can_serve all_counts power_of_two coarse_counts state_at step_cost change_cost sheet_operating_cost sheet_switching_cost
    sheet_cost least_over first_over least_from active_step module_byte slot_row sheet_of plan_cost plan_serves plans_in_order cheapest cheapest_of least_plan
    allowed_counts work_bytes planned_by any_short card_tests spec_of first_of answer at_exit buffers_at_exit plan_at_exit
given_computed = (
  λ p w room work. rw (le-ltb (length p) 3 room, le-ltb (length w) 12 work) (record { number_is = refl; cost_is = refl }, refl),
  λ p w room work. rw (le-ltb (length p) 1 room, le-ltb (length w) 10 work) (record { number_is = refl; cost_is = refl }, refl),
)

-- So the exact planner gives example A's card the cost 32 and the plan 3 1 1, and the coarse one the other card the cost 4 and the plan 4.
planned_holds :
    PlannedAt exact card_like_a 32 × PlannedAs exact card_like_a (3 ∷ 1 ∷ 1 ∷ []) × PlannedAt coarse card_three 4 × PlannedAs coarse card_three (4 ∷ [])
unfolding little_endian bytes_of rows instance_of card_bytes work_bytes
planned_holds = (
  λ p w room work. (given_computed.0 p w room work).0,
  λ p w room work. let (given, plan) = given_computed.0 p w room work in (sym given.number_is, plan),
  λ p w room work. (given_computed.1 p w room work).0,
  λ p w room work. let (given, plan) = given_computed.1 p w room work in (sym given.number_is, plan),
)
