use Rattle.std.specs.Prelude.{◌≡◌, refl}
use Rattle.std.proofs.lemmas.Result.{err_from_is_err_and, IfErr-at_err}
use Rattle.basics.specs.Core.{sym, eq-eqb, ne_eqb, le-leb, lt-leb}
use Rattle.model.specs.declared.Refusal.TheVariants.{SeatUnavailable}
use Rattle.model.specs.Acts.{submission_refused}
use Rattle.model.specs.Specs.{first_of}
use Rattle.laws.specs.SittingLaws.{submission_on_card}
use Rattle.sitting.specs.Seen.{seen}
use Rattle.sitting.proofs.Phases.{when_open, unless_open}
use Rattle.sitting.proofs.Submissions.{card_barred}
use Rattle.sitting.proofs.Request.admitted.Goals as goal

pub returns-in_err-card : goal.returns-in_err-card
returns-in_err-card c =
    let p = err_from_is_err_and c.from_residual.result c.from_residual.ensures.1 in
    rw (p.1, p.2) (card_barred _ _ _ _ c.in_err-card.ensures)

pub returns-then-self-eq0 : goal.returns-then-self-eq0
unfolding first_of seen submission_refused
returns-then-self-eq0 c =
    rw (← c.in_ok-card.ensures) (record {
      refused_is = λ x. search (submission_on_card, eq-eqb, c.in_ok-card.card.accepted);
      uncounted = refl;
    })

pub returns-in_default : goal.returns-in_default
unfolding first_of seen submission_refused
returns-in_default c =
    rw (← c.in_ok-card.ensures) (record {
      refused_is = λ x. search (submission_on_card, ne_eqb, unless_open _ _ c.phase.ensures c.in_default.not-Open, c.in_ok-card.card.accepted);
      uncounted = refl;
    })

pub returns-in_err-record : goal.returns-in_err-record
unfolding first_of seen submission_refused
returns-in_err-record c =
    let p = err_from_is_err_and c.from_residual-in_err-record.result c.from_residual-in_err-record.ensures.1 in
    let none = c.in_err-record.ensures.ok_part in
    let unseated = IfErr-at_err (λ x. x ≡ SeatUnavailable) (sym c.in_err-record.ensures.value) (rw none refl) in
    rw (p.1, p.2, unseated, ← c.in_ok-card.ensures) (record {
      refused_is = λ x. search (submission_on_card, ne_eqb, when_open _ _ c.phase.ensures c.in-Open.is, none, c.in_ok-card.card.accepted);
      uncounted = refl;
    })

pub returns-then-self : goal.returns-then-self
unfolding first_of seen submission_refused
returns-then-self c =
    rw (← c.in_ok-card.ensures) (record {
      refused_is = λ x.
          search (submission_on_card, ne_eqb, le-leb, when_open _ _ c.phase.ensures c.in-Open.is, c.in_ok-record.ensures.ok_part, c.in_ok-card.card.accepted);
      uncounted = refl;
    })

pub returns : goal.returns
unfolding first_of seen
returns c =
    rw (← c.in_ok-card.ensures) (record {
      card_is = refl;
      record_is = c.in_ok-record.ensures.ok_part;
      one_more = c.if-self.false;
      as_marking = λ x.
          search (submission_on_card, ne_eqb, lt-leb, when_open _ _ c.phase.ensures c.in-Open.is, c.in_ok-record.ensures.ok_part, c.in_ok-card.card.accepted);
    })
