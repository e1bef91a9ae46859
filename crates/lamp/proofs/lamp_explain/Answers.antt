use Rattle.lamp.proofs.Promised.{explains}
use Rattle.lamp.proofs.lamp_explain.Goals as goal

pub returns : goal.returns
returns c =
    let (outcome, (work_bytes, (marked, (none_negative, (above_least, zero_exactly))))) = explains _ _ _ (
      c.explain.ensures.value,
      c.explain.ensures.work_after,
    ) in
    record {
      outcome = outcome;
      work_bytes = work_bytes;
      marked = marked;
      none_negative = none_negative;
      above_least = above_least;
      zero_exactly = zero_exactly;
    }
