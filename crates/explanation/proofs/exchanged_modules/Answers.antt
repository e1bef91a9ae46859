use Rattle.basics.specs.Summing.{summed_none}
use Rattle.explanation.proofs.Exchanging.{row_end, next_end, next_short, rise_there, total_fits, change_counted, all_counted}
use Rattle.explanation.proofs.exchanged_modules.Goals as goal

pub loop-t-init : goal.loop-t-init
loop-t-init c = summed_none _ _

pub row_starts-starts-requires-clause-row_short : goal.row_starts-starts-requires-clause-row_short
row_starts-starts-requires-clause-row_short c = search next_short

pub beyond_rise-total-requires : goal.beyond_rise-total-requires
beyond_rise-total-requires c = search rise_there

pub overflow_add-total : goal.overflow_add-total
overflow_add-total c = search total_fits

pub loop-t-preserved : goal.loop-t-preserved
loop-t-preserved c = search change_counted

pub returns : goal.returns
returns c = search all_counted

pub slice_bounds-row_starts-end : goal.slice_bounds-row_starts-end
slice_bounds-row_starts-end c = search row_end

pub slice_bounds-row_starts-end-in-loop-t : goal.slice_bounds-row_starts-end-in-loop-t
slice_bounds-row_starts-end-in-loop-t c = search next_end
