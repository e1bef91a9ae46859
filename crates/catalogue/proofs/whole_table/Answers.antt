use Rattle.std.specs.Prelude.{refl}
use Rattle.basics.specs.Tests.{every}
use Rattle.model.specs.Catalogue.{follows_rule, catalogue_entry}
use Rattle.model.specs.Instance.{convex, convex_at, never_falls}
use Rattle.catalogue.proofs.whole_table.Goals as goal

-- The length and the three tests are computed.
pub returns : goal.returns
unfolding every follows_rule catalogue_entry convex convex_at never_falls
returns c = record { size = refl; rule = refl; convexity = refl; rise = refl }
