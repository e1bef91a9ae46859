use Rattle.lamp.proofs.Promised.{catalogued}
use Rattle.lamp.proofs.lamp_catalogue_table.Goals as goal

pub returns : goal.returns
returns c =
    let (outcome, (table_bytes, in_cards)) = catalogued _ _ (
      c.catalogue_table.ensures.value,
      (
        c.catalogue_table.ensures.table_after,
        c.catalogue_table.ensures.writes_table,
      ),
    ) c.from.ensures in
    record { outcome = outcome; table_bytes = table_bytes; in_cards = in_cards }
