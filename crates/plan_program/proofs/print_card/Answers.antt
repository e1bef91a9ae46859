use Rattle.basics.specs.Core.{ap, ◌∙◌}
use Rattle.basics.specs.Writing.{start_same}
use Rattle.model.specs.Listing.{refused_line}
use Rattle.plan_program.proofs.print_card.Goals as goal

pub returns-in-Ok : goal.returns-in-Ok
returns-in-Ok c = let told = c.in-Ok.ensures in record { size = told.0; bytes = told.1 }

pub returns-in-Err : goal.returns-in-Err
returns-in-Err c =
    let same = ap refused_line c.from.ensures ∙ c.in-Err.ensures.0 in
    let told = start_same _ _ _ same (c.write_refusal.ensures.size, rw c.in-Err.ensures.1 at c.write_refusal.ensures.bytes) in
    record { size = told.0; bytes = told.1 }
