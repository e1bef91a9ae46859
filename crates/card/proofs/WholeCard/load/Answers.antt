use Rattle.basics.specs.Core.{arith}
use Rattle.card.proofs.FieldsRead.{read_at}
use Rattle.model.specs.Instance.{instance_of}
use Rattle.card.proofs.WholeCard.load.Goals as goal

pub returns : goal.returns
unfolding instance_of
returns c =
    record {
      is = read_at c.take.ensures (omega (arith, c.load_place.ensures, c.args.self.now.sized.header.top_is));
      bound = c.take.ensures.bound;
    }
