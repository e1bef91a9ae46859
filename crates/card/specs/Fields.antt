-- What reading a card's bytes gives: numbers, the header, entries of the table and loads.
use Rattle.std.specs.Prelude.{ℕ, ◌+◌, ◌^◌, ◌≤◌, ◌<◌, ◌≡◌, List, length}
use Rattle.basics.specs.Bytes.{little_endian}
use Rattle.model.specs.Instance.{instance_of, load_place}
use Rattle.card.specs.declared.Header.{Header}

-- The w bytes from place p on are there.
pub record Within (s : List ℕ) (p w : ℕ) : Type 0 where
  pub within : p + w ≤ length s

-- 'Each field read yields its number and the position after it' (document 01, 'The show card'): the value is the number in the w bytes
-- from place p on, and next the place after them.
pub record ReadAt (s : List ℕ) (p w value next : ℕ) : Type 0 where
  pub number : value ≡ little_endian w s p
  pub bound : value < 256 ^ w
  pub position : next ≡ p + w

-- The header's numbers are the card's, and those of one or two bytes are so small.
pub record HeaderOf (s : List ℕ) (h : Header) : Type 0 where
  pub modules_is : h.modules ≡ (instance_of s).modules
  pub top_is : h.top_step ≡ (instance_of s).top_step
  pub slots_is : h.slots ≡ (instance_of s).slots
  pub up_is : h.power_up ≡ (instance_of s).power_up
  pub down_is : h.power_down ≡ (instance_of s).power_down
  pub modules_bound : h.modules < 256
  pub top_bound : h.top_step < 256
  pub slots_bound : h.slots < 65536

-- A card that is as long as its header says, with that header.
pub record Sized (s : List ℕ) (h : Header) : Type 0 where
  pub header : HeaderOf s h
  pub size : length s ≡ load_place h.top_step h.slots

-- The place of the load of slot t is a small number.
pub record PlaceNear (h : Header) (t : ℕ) : Type 0 where
  pub top_bound : h.top_step < 256
  pub slot_bound : t < 65536

-- The card has the entry F(k).
pub record EntryThere (h : Header) (k : ℕ) : Type 0 where
  pub in_table : k ≤ h.top_step

-- The value is the table's entry F(k), which is below 2 to the 32 on any card.
pub record TableEntry (s : List ℕ) (k value : ℕ) : Type 0 where
  pub is : value ≡ (instance_of s).table k
  pub bound : value < 256 ^ 4

-- The card has the load of slot t.
pub record LoadThere (h : Header) (t : ℕ) : Type 0 where
  pub in_show : t < h.slots

-- The value is the load of slot t, which is below 2 to the 16 on any card.
pub record SlotLoad (s : List ℕ) (t value : ℕ) : Type 0 where
  pub is : value ≡ (instance_of s).load t
  pub bound : value < 256 ^ 2
