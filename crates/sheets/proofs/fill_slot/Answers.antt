use Rattle.basics.specs.Core.{sym, arith, length-take-le}
use Rattle.sheets.proofs.Row.{row_filled}
use Rattle.sheets.proofs.fill_slot.Goals as goal

pub slice_bounds-fill-end-2 : goal.slice_bounds-fill-end-2
slice_bounds-fill-end-2 c = sym (length-take-le _ _ (omega arith))

pub returns : goal.returns
returns c =
    let given = c.requires in
    row_filled _ _ _ _ _ given.rest_le_active given.active_in_bounds c.fill.ensures c.fill-2.ensures c.fill-3.ensures
