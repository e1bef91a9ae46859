use Rattle.explanation.proofs.ThreeNumbers.{counts_room, counts_known, price_fits, swaps_fits, plan_ready, planned_below, swaps_below, least_below, three_numbers}
use Rattle.explanation.proofs.points_over.Goals as goal

pub write_counts-requires : goal.write_counts-requires
write_counts-requires c = search counts_room

pub exchanged_modules-exchanged-requires : goal.exchanged_modules-exchanged-requires
exchanged_modules-exchanged-requires c = search counts_known

pub overflow_add-swaps : goal.overflow_add-swaps
overflow_add-swaps c = search price_fits

pub overflow_mul-swaps : goal.overflow_mul-swaps
overflow_mul-swaps c = search swaps_fits

pub plan_cost-planned-requires : goal.plan_cost-planned-requires
plan_cost-planned-requires c = search plan_ready

pub overflow_sub-result : goal.overflow_sub-result
overflow_sub-result c = search planned_below

pub overflow_sub-result-2 : goal.overflow_sub-result-2
overflow_sub-result-2 c = search swaps_below

pub overflow_sub-result-3 : goal.overflow_sub-result-3
overflow_sub-result-3 c = search least_below

pub returns-clause-value : goal.returns-clause-value
returns-clause-value c = search three_numbers
