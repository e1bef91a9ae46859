use Rattle.std.specs.Prelude.{refl}
use Rattle.basics.specs.Core.{arith}
use Rattle.model.specs.Instance.{instance_of}
use Rattle.card.proofs.FieldsRead.{read_at}
use Rattle.card.proofs.read_header.Goals as goal

pub returns : goal.returns
unfolding instance_of
returns c =
    let m = c.take-modules.ensures in
    let q = c.take-top_step.ensures in
    let t = c.take-slots.ensures in
    let u = c.take-power_up.ensures in
    let d = c.take-power_down.ensures in
    record {
      modules_is = read_at m refl;
      top_is = read_at q m.position;
      slots_is = read_at t (omega arith);
      up_is = read_at u (omega arith);
      down_is = read_at d (omega arith);
      modules_bound = m.bound;
      top_bound = q.bound;
      slots_bound = t.bound;
    }
