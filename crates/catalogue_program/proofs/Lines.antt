-- The lines that the rule's numbers are printed on.
use Rattle.std.specs.Prelude.{◌≡◌, refl, length}
use Rattle.basics.specs.Lists.{rows}
use Rattle.model.specs.Catalogue.{catalogue_entry}
use Rattle.model.specs.Listing.{digits, decimal, catalogue_lines}

-- All lines together have 1,036 characters.
pub lines_size : length catalogue_lines ≡ 1036
unfolding catalogue_lines rows catalogue_entry decimal digits
lines_size = refl
