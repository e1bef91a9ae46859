use Rattle.std.proofs.Common.{rules}
use Rattle.buffers.specs.Writers.{wrote_front}
use Rattle.model.specs.Listing.{refused_line}
use Rattle.listing.proofs.write_refusal.Goals as goal

pub returns-clause-bytes : goal.returns-clause-bytes
unfolding refused_line
returns-clause-bytes c =
    let stands = (wrote_front c.new-writer.ensures.front c.put_line.ensures).1 in
    search rules
