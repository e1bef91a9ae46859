-- The length of the card that is drawn, the room for it, and what the practice call answers and leaves in its area.
use Rattle.std.specs.Prelude.{◌≤◌, ◌<◌, ◌≡◌, List, ℕ, length, Ok, Err}
use Rattle.basics.specs.Core.{arith, eq-eqb, ne_eqb, lt-ltb}
use Rattle.basics.specs.Lists.{written_over}
use Rattle.buffers.specs.declared.Writer.{Writer}
use Rattle.buffers.specs.Writers.{wrote_front}
use Rattle.laws.specs.Encoding.{card_bytes_length}
use Rattle.laws.specs.PracticeAccepted.{practice_given}
use Rattle.model.specs.declared.Refusal.{Refusal}
use Rattle.model.specs.declared.Refusal.TheVariants.{ZeroStart, BufferTooShort}
use Rattle.model.specs.Instance.{card_bytes, card_length, load_place}
use Rattle.model.specs.Practice.{practice_show}
use Rattle.model.specs.Specs.{first_of, any_short, at_exit}
use Rattle.model.specs.Calls.{practice_card, spec_of, answer, buffers_at_exit, card_at_exit}
use Rattle.practice.specs.declared.draws.FirstDraws.{FirstDraws}
use Rattle.practice.specs.Drawing.{DrawnRoom}

-- The length that is worked out from the fields is the card's.
pub size_is : (first : FirstDraws) → load_place first.fields.top_step first.fields.slots ≡ card_length (practice_show first.start)
unfolding card_length
size_is first = rw (first.fields_are.top_is, first.fields_are.slots_is)

-- An area of at least that length has room for the card.
pub card_room : {first : FirstDraws} {w : Writer} → w.at ≡ 0 → card_length (practice_show first.start) ≤ length w.out.now → DrawnRoom card_bytes first w
card_room {first} front long = record { room = record { room = omega (arith, card_bytes_length (practice_show first.start)) } }

module _ (start : ℕ) (card : List ℕ) where
  -- Start 0 is refused.
  pub zero_refused : start ≡ 0 → answer (practice_card start card) ≡ Err ZeroStart
  unfolding answer spec_of first_of
  zero_refused e = rw (eq-eqb start 0 e)

  -- After any other start, an area shorter than the card is.
  pub short_refused : (start ≡ 0 → ⊥) → length card < card_length (practice_show start) → answer (practice_card start card) ≡ Err BufferTooShort
  unfolding answer spec_of first_of any_short
  short_refused some h = rw (ne_eqb start 0 some, lt-ltb _ _ h)

  -- A refusal leaves the area as it was.
  pub left : {x : Refusal} → answer (practice_card start card) ≡ Err x → card_at_exit (practice_card start card) ≡ card
  unfolding card_at_exit buffers_at_exit spec_of at_exit
  left e = rw e

  -- A success has the card written over its front.
  pub holds : answer (practice_card start card) ≡ Ok 0 → card_at_exit (practice_card start card) ≡ written_over (card_bytes (practice_show start)) card
  unfolding card_at_exit buffers_at_exit spec_of at_exit
  holds e = rw e

pub ruleset answers = (size_is, card_room, wrote_front, zero_refused, short_refused, practice_given, left, holds)
