use Rattle.buffers.specs.Writers.{wrote_more}
use Rattle.model.specs.Listing.{slot_line}
use Rattle.listing.proofs.put_slot.Goals as goal

pub returns : goal.returns
unfolding slot_line
returns c = wrote_more c.put_slot_number.ensures (search wrote_more)
