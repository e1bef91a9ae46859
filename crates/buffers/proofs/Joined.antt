-- A number of v + w bytes is written as its v lowest bytes and then as the w bytes of what is left of it.
use Rattle.std.specs.Prelude.{ℕ, ◌+◌, ◌/◌, ◌^◌, List}
use Rattle.basics.specs.Core.{arith}
use Rattle.basics.specs.Bytes.{bytes_of, bytes_join, length_bytes}
use Rattle.basics.specs.Writing.{Room, Written, room_less, written_more}

module _ (v w n : ℕ) {p : ℕ} {old : List ℕ} where
  -- Room for v + w bytes is room for v of them.
  pub low_room : (a : ℕ) → Room (bytes_of (v + w) n) p old → Room (bytes_of v a) p old
  low_room a room = room_less (omega (arith, length_bytes v a, length_bytes (v + w) n)) room

  -- Once v bytes are written, there is room for w more.
  pub high_room :
      (a b : ℕ) {q : ℕ} {mid : List ℕ} → Room (bytes_of (v + w) n) p old → Written (bytes_of v a) p old mid q → Room (bytes_of w b) q mid
  high_room a b room low =
      record { room = omega (arith, room.room, low.place, low.size, length_bytes v a, length_bytes w b, length_bytes (v + w) n) }

  -- Once the lowest bytes and then the others are written, the number is written.
  pub both_written :
      {q r : ℕ} {mid new : List ℕ} → Written (bytes_of v n) p old mid q → Written (bytes_of w (n / 256 ^ v)) q mid new r →
      Written (bytes_of (v + w) n) p old new r
  both_written low high = rw (bytes_join v w n) (written_more low high)
