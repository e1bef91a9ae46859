use Rattle.std.specs.Prelude.{length, get_or}
use Rattle.basics.specs.Tests.{Passed}
use Rattle.card.specs.Shows.{show_of}
use Rattle.model.specs.Sheets.{is_entry, off}
use Rattle.sheets.proofs.sheet_entries.Given as goal

abbrev pub invariant-loop-b : goal.invariant-loop-b
invariant-loop-b l = Passed (length l.sheet) (λ y. is_entry (show_of l.card).top_step (get_or l.sheet y off)) l.b-index
