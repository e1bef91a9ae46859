-- The tests on the phase of a sitting, by the phase that the code tells apart.
use Rattle.std.specs.Prelude.{ℕ, ◌≡◌, refl, true, false}
use Rattle.model.specs.Acts.{is_opened, is_closed, is_unopened}
use Rattle.model.specs.SittingState.{phase_of}
use Rattle.sitting.specs.declared.Phase.{Phase}
use Rattle.sitting.specs.declared.Phase.TheVariants.{Unopened, Open, Closed}
use Rattle.sitting.specs.Phases.{phase_meant}

-- Another phase than the open one is not open, and another than the unopened one is not unopened.
other_open : (p : Phase) → (p ≡ Open → ⊥) → is_opened (phase_meant p) ≡ false
unfolding phase_meant is_opened
other_open Unopened h = refl
other_open Open h = absurd (h refl)
other_open Closed h = refl

other_unopened : (p : Phase) → (p ≡ Unopened → ⊥) → is_unopened (phase_meant p) ≡ false
unfolding phase_meant is_unopened
other_unopened Unopened h = absurd (h refl)
other_unopened Open h = refl
other_unopened Closed h = refl

-- What is told of the phase of a sitting by that of the code.
module _ (p : Phase) (n : ℕ) (is : phase_meant p ≡ phase_of n) where
  pub when_open : p ≡ Open → is_opened (phase_of n) ≡ true
  unfolding phase_meant is_opened
  when_open e = rw (← is, e) refl

  pub unless_open : (p ≡ Open → ⊥) → is_opened (phase_of n) ≡ false
  unless_open h = rw (← is) (other_open p h)

  pub when_unopened : p ≡ Unopened → is_unopened (phase_of n) ≡ true
  unfolding phase_meant is_unopened
  when_unopened e = rw (← is, e) refl

  pub unless_unopened : (p ≡ Unopened → ⊥) → is_unopened (phase_of n) ≡ false
  unless_unopened h = rw (← is) (other_unopened p h)

  pub open_unclosed : p ≡ Open → is_closed (phase_of n) ≡ false
  unfolding phase_meant is_closed
  open_unclosed e = rw (← is, e) refl

  pub when_closed : p ≡ Closed → is_closed (phase_of n) ≡ true
  unfolding phase_meant is_closed
  when_closed e = rw (← is, e) refl

  pub open_begun : p ≡ Open → is_unopened (phase_of n) ≡ false
  unfolding phase_meant is_unopened
  open_begun e = rw (← is, e) refl

  pub closed_begun : p ≡ Closed → is_unopened (phase_of n) ≡ false
  unfolding phase_meant is_unopened
  closed_begun e = rw (← is, e) refl
