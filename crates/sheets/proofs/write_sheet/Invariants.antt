use Rattle.card.specs.Shows.{show_of}
use Rattle.sheets.proofs.Filled.{Filled}
use Rattle.sheets.proofs.write_sheet.Given as goal

abbrev pub invariant-loop-t : goal.invariant-loop-t
invariant-loop-t l = Filled (show_of l.card) l.plan l.initial.sheet l.t l.sheet
