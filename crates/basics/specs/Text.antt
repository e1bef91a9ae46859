-- Texts as the codes of their characters.
use Rattle.std.specs.Prelude.{ℕ, List, [], ◌∷◌}
use Prim.Native.Char.{code}
use Prim.Native.String.{String, [] as empty, ◌∷◌ as ◌then◌}

-- The codes of a string's characters, in their order.
abbrev pub text : String → List ℕ
text empty = []
text (c then s) = code c ∷ text s
