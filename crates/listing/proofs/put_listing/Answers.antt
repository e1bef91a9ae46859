use Rattle.buffers.specs.Writers.{wrote_more}
use Rattle.model.specs.Listing.{cost_line, listing}
use Rattle.listing.proofs.put_listing.Goals as goal

pub returns : goal.returns
unfolding listing cost_line
returns c = wrote_more c.put_line.ensures (search wrote_more)
