use Rattle.basics.specs.Core.{arith}
use Rattle.basics.specs.Writing.{room_less, room_rest}
use Rattle.buffers.specs.Writers.{wrote_more}
use Rattle.listing.proofs.Digits.{decimal_rise}
use Rattle.listing.proofs.put_slot_number.Goals as goal

-- There is room for the slot's number, and for every smaller one.
pub put_number-requires : goal.put_number-requires
put_number-requires c = room_less (decimal_rise _ _ (omega arith)) (room_rest c.requires.room c.put_bytes.ensures.written)

pub returns : goal.returns
returns c = search wrote_more
