-- The catalogue module's table (document 02, §5): its rule, `catalogue_entry`, the tests of a whole table, `TestedTable`, and its entries as a
-- card's fields, `catalogue_bytes`.
use Rattle.std.specs.Prelude.{ℕ, ◌+◌, ◌-◌, ◌*◌, ◌/◌, ◌≡◌, Bool, true, List, length, get_or, eqb}
use Rattle.basics.specs.Tests.{every}
use Rattle.model.specs.Instance.{table_fields, convex, never_falls}

-- The rule: 'F(k) = 400 + 3k + k(k − 1)/2'. For k = 0 the product is 0, whatever stands for k − 1, and a product of neighbours is even, so
-- that halving it leaves no rest.
unfoldable pub catalogue_entry : ℕ → ℕ
catalogue_entry k = 400 + 3 * k + k * (k - 1) / 2

-- 'for k from 0 to 200': the highest step, and how many entries the table has.
abbrev pub catalogue_top : ℕ
catalogue_top = 200

abbrev pub catalogue_size : ℕ
catalogue_size = catalogue_top + 1

-- Entry k of a table that is given as a list.
abbrev pub entry_of : List ℕ → ℕ → ℕ
entry_of table k = get_or table k 0

-- A table 'follows the rule': a test of all its entries.
unfoldable pub follows_rule : List ℕ → Bool
follows_rule table = every catalogue_size (λ k. eqb (entry_of table k) (catalogue_entry k))

-- 'That the table follows the rule, is convex and never falls is proved over the whole of it': three tests, each of the whole table.
pub record TestedTable (table : List ℕ) : Type 0 where
  pub size : length table ≡ catalogue_size
  pub rule : follows_rule table ≡ true
  pub convexity : convex catalogue_top (entry_of table) ≡ true
  pub rise : never_falls catalogue_top (entry_of table) ≡ true

-- 'a call writes its F(0) to F(Q) as a card's fields'
unfoldable pub catalogue_bytes : (top : ℕ) → List ℕ
catalogue_bytes top = table_fields top catalogue_entry
