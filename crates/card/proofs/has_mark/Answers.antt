use Rattle.card.proofs.Mark.{mark_first, mark_second, mark_third}
use Rattle.card.proofs.has_mark.Goals as goal

pub returns-then-first-ne68 : goal.returns-then-first-ne68
returns-then-first-ne68 c = search mark_first

pub returns-then-second-ne76 : goal.returns-then-second-ne76
returns-then-second-ne76 c = search mark_second

pub returns : goal.returns
returns c = search mark_third
