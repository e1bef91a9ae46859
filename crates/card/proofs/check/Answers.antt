use Rattle.std.proofs.lemmas.Result.{err_from_is_err_and}
use Rattle.card.proofs.CardTests.{front_length, size_of}
use Rattle.card.proofs.Groups.{front_refused, size_refused, body_refused, passed_convex, passed_accepted}
use Rattle.card.proofs.check.Goals as goal

pub returns-in_err-check_front : goal.returns-in_err-check_front
returns-in_err-check_front c =
    let p = err_from_is_err_and c.from_residual.result c.from_residual.ensures.1 in
    rw (p.1, p.2) (front_refused _ c.check_front.ensures c.in_err-check_front.was)

pub read_header-header-requires : goal.read_header-header-requires
read_header-header-requires c = front_length _ c.check_front.ensures c.in_ok-check_front.was

pub returns-in_err-check_size : goal.returns-in_err-check_size
returns-in_err-check_size c =
    let p = err_from_is_err_and c.from_residual-in_err-check_size.result c.from_residual-in_err-check_size.ensures.1 in
    rw (p.1, p.2) (size_refused _ c.check_front.ensures c.in_ok-check_front.was c.check_size.ensures c.in_err-check_size.was)

pub invariant_of-whole : goal.invariant_of-whole
invariant_of-whole c = record { sized = size_of _ _ c.read_header-header.ensures c.check_size.ensures c.in_ok-check_size.was }

pub returns-in_err-check_body : goal.returns-in_err-check_body
returns-in_err-check_body c =
    let p = err_from_is_err_and c.from_residual-in_err-check_body.result c.from_residual-in_err-check_body.ensures.1 in
    rw (p.1, p.2)
    (body_refused _ c.check_front.ensures c.in_ok-check_front.was c.check_size.ensures c.in_ok-check_size.was c.check_body.ensures c.in_err-check_body.was)

pub lowest_step-lowest_step-requires : goal.lowest_step-lowest_step-requires
lowest_step-lowest_step-requires c =
    passed_convex _ c.check_front.ensures c.in_ok-check_front.was c.check_size.ensures c.in_ok-check_size.was c.check_body.ensures
    c.read_header-header.ensures c.in_ok-check_body.was

pub invariant_of-result : goal.invariant_of-result
invariant_of-result c =
    record {
      accepted =
          passed_accepted _ c.check_front.ensures c.in_ok-check_front.was c.check_size.ensures c.in_ok-check_size.was c.check_body.ensures
          c.in_ok-check_body.was;
      header_is = c.read_header-header.ensures;
      lowest_is = c.lowest_step-lowest_step.ensures;
    }
