-- A card is written part by part: once its head, its table and its loads are written one behind the other, the card is.
use Rattle.std.specs.Prelude.{ℕ, ◌≡◌, List, ◌++◌}
use Rattle.basics.specs.Core.{append_assoc}
use Rattle.buffers.specs.declared.Writer.{Writer}
use Rattle.buffers.specs.Writers.{Wrote, wrote_more}
use Rattle.model.specs.Instance.{Instance, front_bytes, size_bytes, price_bytes, table_bytes, load_bytes, card_bytes}
use Rattle.encoder.specs.declared.Fields.{Fields}
use Rattle.encoder.specs.Heads.{head_of, FieldsOf}

regrouped : (a b c d : List ℕ) → a ++ (b ++ (c ++ d)) ≡ (a ++ (b ++ c)) ++ d
regrouped a b c d = simp append_assoc

module _ {i : Instance} {f : Fields} (is : FieldsOf i f) where
  card_parts : card_bytes i ≡ head_of f ++ (table_bytes i ++ load_bytes i)
  unfolding card_bytes
  card_parts =
      rw (is.modules_is, is.top_is, is.slots_is, is.up_is, is.down_is)
      (regrouped front_bytes (size_bytes i) (price_bytes i) (table_bytes i ++ load_bytes i))

  pub card_written :
      {old headed tabled new : Writer} → Wrote (head_of f) old headed → Wrote (table_bytes i) headed tabled →
      Wrote (load_bytes i) tabled new → Wrote (card_bytes i) old new
  card_written head table loads = rw card_parts (wrote_more head (wrote_more table loads))
