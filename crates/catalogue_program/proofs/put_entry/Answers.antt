use Rattle.buffers.specs.Writers.{wrote_more}
use Rattle.catalogue_program.proofs.put_entry.Goals as goal

pub returns : goal.returns
returns c = wrote_more (rw c.entry.ensures at c.put_number.ensures) c.put.ensures
