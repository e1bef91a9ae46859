use Rattle.std.specs.Prelude.{length, get_or}
use Rattle.basics.specs.Bytes.{bytes_of}
use Rattle.buffers.specs.Writers.{RowsWrote}
use Rattle.buffers.proofs.Writer.put_numbers.Given as goal

abbrev pub invariant-loop-number : goal.invariant-loop-number
invariant-loop-number l = RowsWrote (λ k. bytes_of 4 (get_or l.numbers k 0)) (length l.numbers) l.initial.self l.number-index l.self
