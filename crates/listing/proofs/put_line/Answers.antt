use Rattle.buffers.specs.Writers.{wrote_more}
use Rattle.listing.proofs.put_line.Goals as goal

pub returns : goal.returns
returns c = search wrote_more
