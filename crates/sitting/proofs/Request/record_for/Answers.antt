use Rattle.basics.specs.Core.{sym, ◌∙◌, eq-eqb, ne_eqb}
use Rattle.model.specs.Acts.{act_spec}
use Rattle.model.specs.Specs.{first_of}
use Rattle.model.specs.Sittings.{answer_to}
use Rattle.sitting.specs.Seen.{seen}
use Rattle.sitting.proofs.Phases.{when_open, unless_open}
use Rattle.sitting.proofs.Replies.{seat_given}
use Rattle.sitting.proofs.Request.record_for.Goals as goal
use Rattle.sitting.proofs.Request.record_for.Goals.{then-candidate-eq0-via-then-candidate-eq0, then-candidate-eq0-via-else-candidate-eq0+then-is_some}

pub returns-then-self-ne0 : goal.returns-then-self-ne0
unfolding answer_to act_spec first_of seen
returns-then-self-ne0 c = search ne_eqb

pub returns-in_default : goal.returns-in_default
unfolding answer_to act_spec first_of seen
returns-in_default c = search (eq-eqb, unless_open _ _ c.phase.ensures c.in_default.not-Open)

pub returns-then-candidate-eq0 : goal.returns-then-candidate-eq0
unfolding answer_to act_spec first_of seen
returns-then-candidate-eq0 c =
    elim c.then-candidate-eq0.branch [
      | then-candidate-eq0-via-then-candidate-eq0 w ↦ search (eq-eqb, w.if-candidate-eq0.true, when_open _ _ c.phase.ensures c.in-Open.is)
      | then-candidate-eq0-via-else-candidate-eq0+then-is_some w ↦
          search (eq-eqb, ne_eqb, w.if-candidate-eq0.false, (sym w.is_some.ensures ∙ w.if-is_some.true), when_open _ _ c.phase.ensures c.in-Open.is)
    ]

pub returns : goal.returns
returns c =
    seat_given _ _ _ _ c.args.empty c.if-self-ne0.false (when_open _ _ c.phase.ensures c.in-Open.is) c.if-candidate-eq0.false
    (sym c.is_some.ensures ∙ c.if-is_some.false) c.ok_or.ensures.value
