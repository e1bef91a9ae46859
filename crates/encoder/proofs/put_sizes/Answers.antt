use Rattle.buffers.specs.Writers.{wrote_more}
use Rattle.encoder.proofs.put_sizes.Goals as goal

pub returns : goal.returns
returns c = search wrote_more
