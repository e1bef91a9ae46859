use Rattle.basics.specs.Tests.{passed_none, passed_more, passed_all, passed_not}
use Rattle.model.specs.Sheets.{sheet_entries}
use Rattle.sheets.proofs.SheetBytes.{entry_failed, entry_passed}
use Rattle.sheets.proofs.sheet_entries.Goals as goal

pub loop-b-init : goal.loop-b-init
loop-b-init c = passed_none _ _

pub returns-then-not-is_entry : goal.returns-then-not-is_entry
unfolding sheet_entries
returns-then-not-is_entry c =
    passed_not c.loop-b.invariant c.loop-b-test.true (search entry_failed)

pub loop-b-preserved : goal.loop-b-preserved
loop-b-preserved c =
    passed_more c.loop-b.invariant c.loop-b-test.true (search entry_passed)

pub returns : goal.returns
unfolding sheet_entries
returns c = search passed_all
