use Rattle.basics.specs.Tests.{test_failed, test_passed}
use Rattle.card.proofs.Sizes.{sheet_size_fits}
use Rattle.calls.proofs.Marking.{mark_length, sized, mark_entries, sheet_ready, mark_light, mark_cost}
use Rattle.calls.proofs.mark_sheet_on.Goals as goal

pub overflow_mul-size : goal.overflow_mul-size
overflow_mul-size c = search sheet_size_fits

pub returns-then-sheet-size : goal.returns-then-sheet-size
returns-then-sheet-size c = search mark_length

pub returns-then-not-sheet_entries : goal.returns-then-not-sheet_entries
returns-then-not-sheet_entries c = search (mark_entries, test_failed)

pub sheet_light-requires : goal.sheet_light-requires
sheet_light-requires c = search sized

pub returns-then-not-sheet_light : goal.returns-then-not-sheet_light
returns-then-not-sheet_light c = search (mark_light, test_failed, test_passed)

pub sheet_cost-requires : goal.sheet_cost-requires
sheet_cost-requires c = search (sheet_ready, test_passed)

pub returns : goal.returns
returns c = search (mark_cost, test_passed)
