use Rattle.std.specs.Prelude.{◌+◌, ◌-◌, ◌≡◌, refl}
use Rattle.basics.specs.Core.{arith}
use Rattle.card.proofs.FieldsRead.{Taken, taken_none, taken_more, taken_fits, taken_read, byte_small}
use Rattle.card.proofs.Cursor.take.Given as given
use Rattle.card.proofs.Cursor.take.Goals as goal
use Rattle.card.proofs.Cursor.take.Goals.{In-loop-k, After-from}

pub loop-k-init : goal.loop-k-init
loop-k-init g c = taken_none _ _ _

-- What is taken, by the place of the byte that is taken next.
next : (g : given.Over) (c : In-loop-k g) → Taken c.args.bytes.now c.args.self.at g.row.W (c.loop-k.k - 1 + 1) c.loop-k.value
next g c = let same : c.loop-k.k - 1 + 1 ≡ c.loop-k.k = omega arith in rw same c.loop-k.invariant

pub overflow_mul-value : goal.overflow_mul-value
overflow_mul-value g c = record { fits = omega (arith, taken_fits (next g c) (omega arith) c.requires.narrow 0 (omega arith)) }

pub overflow_add-value : goal.overflow_add-value
overflow_add-value g c =
    let t = next g (goal.at.overflow_add-value g c).In-loop-k in
    record { fits = omega (arith, taken_fits t (omega arith) c.requires.narrow c.from.result (byte_small _ _ c.type_inv.bytes c.from.ensures)) }

pub loop-k-preserved : goal.loop-k-preserved
loop-k-preserved g c =
    taken_more (next g (goal.at.loop-k-preserved g c).In-loop-k) (omega arith) c.from.ensures (byte_small _ _ c.type_inv.bytes c.from.ensures)

pub returns : goal.returns
returns g c =
    let none : c.loop-k.k ≡ 0 = omega arith in
    taken_read (rw none at c.loop-k.invariant) refl
