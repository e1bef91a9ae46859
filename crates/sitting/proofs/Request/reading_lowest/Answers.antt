use Rattle.basics.specs.Core.{◌∙◌, sym, eq-eqb, ne_eqb}
use Rattle.model.specs.Acts.{act_spec}
use Rattle.model.specs.Specs.{first_of}
use Rattle.model.specs.Sittings.{answer_to}
use Rattle.sitting.specs.Seen.{seen, record_of}
use Rattle.sitting.proofs.Lowest.{lowest_refused, lowest_none, lowest_some}
use Rattle.sitting.proofs.Request.reading_lowest.Goals as goal

pub returns-then-not-may_read_lowest : goal.returns-then-not-may_read_lowest
unfolding answer_to act_spec first_of seen
returns-then-not-may_read_lowest c =
    search (lowest_refused, (sym c.may_read_lowest.ensures ∙ c.if-not-may_read_lowest.true))

pub returns-then-candidate-eq0 : goal.returns-then-candidate-eq0
unfolding answer_to act_spec first_of seen
returns-then-candidate-eq0 c =
    search (lowest_refused, eq-eqb, (sym c.may_read_lowest.ensures ∙ c.if-not-may_read_lowest.false))

pub returns-in_default : goal.returns-in_default
unfolding answer_to act_spec first_of seen
returns-in_default c =
    search (lowest_refused, ne_eqb, c.in_default.is, (sym c.may_read_lowest.ensures ∙ c.if-not-may_read_lowest.false))

pub returns-then-seat-eq0 : goal.returns-then-seat-eq0
unfolding answer_to act_spec first_of seen record_of
returns-then-seat-eq0 c =
    search (lowest_none, ne_eqb, c.in-Some.is, (sym c.may_read_lowest.ensures ∙ c.if-not-may_read_lowest.false))

pub returns : goal.returns
unfolding answer_to act_spec first_of seen record_of
returns c =
    search (lowest_some, ne_eqb, c.in-Some.is, (sym c.may_read_lowest.ensures ∙ c.if-not-may_read_lowest.false))
