use Rattle.std.proofs.Common.{rules}
use Rattle.basics.specs.Bytes.{bytes_of}
use Rattle.buffers.specs.Writers.{wrote_more}
use Rattle.encoder.proofs.put_front.Goals as goal

-- There is room for the version, whatever it is.
pub put_number-requires : goal.put_number-requires
unfolding bytes_of
put_number-requires c = search rules

pub returns : goal.returns
unfolding bytes_of
returns c = search wrote_more
