use Rattle.std.specs.Prelude.{[], ◌∷◌, ◌%◌}
use Rattle.basics.specs.Core.{arith}
use Rattle.basics.specs.Writing.{room_first, room_rest, written_one, written_more}
use Rattle.model.specs.Listing.{digit}
use Rattle.listing.proofs.Digits.{decimal_one, decimal_more}
use Rattle.listing.proofs.+put_digits.Goals as goal

pub returns-then-n-lt10 : goal.returns-then-n-lt10
returns-then-n-lt10 t c =
    let r = rw (decimal_one _ c.if-n-lt10.true) at c.requires in
    rw (decimal_one _ c.if-n-lt10.true) (written_one (digit c.args.n) _ _ (omega (arith, r.room)))

pub put_digits-last-requires : goal.put_digits-last-requires
put_digits-last-requires t c =
    (omega arith, room_first _ (rw (decimal_more _ c.if-n-lt10.false c.ranges.n.fits) at c.requires))

-- There is room for the last digit.
pub bounds-out-last : goal.bounds-out-last
bounds-out-last t c =
    let whole = rw (decimal_more _ c.if-n-lt10.false c.ranges.n.fits) at c.requires in
    let r = room_rest {b = digit (c.args.n % 10) ∷ []} whole c.put_digits-last.ensures in
    omega (arith, r.room)

pub returns : goal.returns
returns t c =
    let whole = rw (decimal_more _ c.if-n-lt10.false c.ranges.n.fits) at c.requires in
    let r = room_rest {b = digit (c.args.n % 10) ∷ []} whole c.put_digits-last.ensures in
    rw (decimal_more _ c.if-n-lt10.false c.ranges.n.fits)
    (written_more c.put_digits-last.ensures (written_one (digit (c.args.n % 10)) _ _ (omega (arith, r.room))))
