-- The head of a card (document 01, 'The show card'): the bytes before its table, from plain fields, `head_of`; and when these fields are those of a
-- show, `FieldsOf`.
use Rattle.std.specs.Prelude.{ℕ, ◌≡◌, List, ◌++◌}
use Rattle.basics.specs.Bytes.{bytes_of}
use Rattle.model.specs.Instance.{Instance, front_bytes}
use Rattle.encoder.specs.declared.Fields.{Fields}

-- m, Q and T.
abbrev pub sizes_of : Fields → List ℕ
sizes_of f = bytes_of 1 f.modules ++ (bytes_of 1 f.top_step ++ bytes_of 2 f.slots)

-- The two prices.
abbrev pub prices_of : Fields → List ℕ
prices_of f = bytes_of 4 f.power_up ++ bytes_of 4 f.power_down

-- The mark and the version, the sizes and the prices.
abbrev pub head_of : Fields → List ℕ
head_of f = front_bytes ++ (sizes_of f ++ prices_of f)

-- The fields are those of a show.
pub record FieldsOf (i : Instance) (f : Fields) : Type 0 where
  pub modules_is : f.modules ≡ i.modules
  pub top_is : f.top_step ≡ i.top_step
  pub slots_is : f.slots ≡ i.slots
  pub up_is : f.power_up ≡ i.power_up
  pub down_is : f.power_down ≡ i.power_down
