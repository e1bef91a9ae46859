use Rattle.buffers.specs.Writers.{wrote_more}
use Rattle.listing.proofs.put_count.Goals as goal

pub returns : goal.returns
returns c = wrote_more c.put.ensures (rw c.from.ensures at c.put_number.ensures)
