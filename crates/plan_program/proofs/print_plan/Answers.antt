use Rattle.basics.specs.Core.{sym, length-take-le}
use Rattle.basics.specs.Writing.{start_same}
use Rattle.plan_program.proofs.Printing.{entries_within, print_ready, print_done}
use Rattle.plan_program.proofs.print_plan.Goals as goal

pub slice_bounds-sheet-end : goal.slice_bounds-sheet-end
slice_bounds-sheet-end c = entries_within c.requires _ _ c.area-sheet.ensures c.make_sheet_on.auto.sheet

pub slice_bounds-write_listing-end-2 : goal.slice_bounds-write_listing-end-2
slice_bounds-write_listing-end-2 c =
    sym (length-take-le _ _ (entries_within c.requires _ _ c.area-sheet.ensures c.make_sheet_on.auto.sheet))

pub write_listing-requires : goal.write_listing-requires
write_listing-requires c =
    print_ready c.requires _ _ c.area-sheet.ensures c.make_sheet_on.ensures.sheet_after

pub returns : goal.returns
returns c =
    let same = print_done c.requires _ _ c.area-sheet.ensures c.make_sheet_on.ensures.sheet_after _ in
    let told = start_same _ _ _ same (c.write_listing.ensures.size, c.write_listing.ensures.bytes) in
    record { size = told.0; bytes = told.1 }
