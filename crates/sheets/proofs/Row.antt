-- A slot's row, filled in three parts.
use Rattle.std.specs.Prelude.{ℕ, ◌-◌, ◌+◌, ◌/◌, ◌%◌, ◌≤◌, ◌<◌, ◌≡◌, refl, Bool, true, false, cond, List, ◌++◌, length, take, drop, replicate, ltb}
use Rattle.basics.specs.Core.{sym, ap, ◌∙◌, arith}
use Rattle.basics.specs.Core.{lt-ltb, le-ltb}
use mir.Syntax.{w8}
use mir.Val.{Fits}
use borrow.Rule.Slice.PartMut.{mid_of, put_mid}
use Rattle.basics.specs.Lists.{tabulate, tabulate_same, tabulate_constant}
use Rattle.basics.specs.Filling.{Upto, upto_all}
use Rattle.basics.specs.Parts.{upto_front, upto_part}
use Rattle.model.specs.Instance.{Instance}
use Rattle.model.specs.MoreLight.{active_step}
use Rattle.model.specs.Plans.{module_byte}
use Rattle.laws.specs.Acceptance.{accepted_bounds}
use Rattle.laws.specs.Operating.{byte_off}
use Rattle.card.specs.declared.Card.{Card}
use Rattle.card.specs.Shows.{show_of}
use Rattle.card.proofs.Lowest.{active_most}
use Rattle.counts.specs.Serving.{Served}
use Rattle.counts.proofs.Shares.{step_small}
use Rattle.sheets.specs.Marks.{slot_byte}

-- The active step of a step at most one above the quotient fits a byte.
pub active_fits :
    {card : Card} {n l k j : ℕ} → Served card n l → (n ≡ 0 → ⊥) → j ≡ active_step (show_of card) k → k ≤ l / n + 1 → Fits w8 j
active_fits {card} {n} {l} {k} given some is near =
    record { fits = omega (arith, active_most card k, step_small given some, (accepted_bounds _ card.accepted).top_step.1) }

-- Where no module is active, the row is all off.
pub row_off :
    (i : Instance) (n l : ℕ) (row : List ℕ) {new : List ℕ} → n ≡ 0 → new ≡ replicate (length row) 255 →
    new ≡ tabulate (length row) (module_byte i n l)
row_off i n l row e filled = filled ∙ sym (tabulate_constant (length row) (λ k h. byte_off i n l k (omega arith)))

-- The bytes of the three parts.
module _ (n r low high k : ℕ) where
  high_byte : k < r → r ≤ n → slot_byte n r low high k ≡ high
  unfolding slot_byte
  high_byte h g = rw (lt-ltb k n (omega arith), lt-ltb k r h)

  low_byte : r ≤ k → k < n → slot_byte n r low high k ≡ low
  unfolding slot_byte
  low_byte h g = rw (lt-ltb k n g, le-ltb k r h)

  off_byte : n ≤ k → slot_byte n r low high k ≡ 255
  unfolding slot_byte
  off_byte h = rw (le-ltb k n h)

-- The parts are the first r modules, the other active ones, and those that are off.
pub row_filled :
    (n r low high : ℕ) (row : List ℕ) {first others rest : List ℕ} → r ≤ n → n ≤ length row → first ≡ replicate (length (take r row)) high →
    let begun : List ℕ = first ++ drop r row in
    others ≡ replicate (length (mid_of r (n - r) begun)) low →
    let active : List ℕ = put_mid r (n - r) begun others in
    rest ≡ replicate (length (mid_of n (length active - n) active)) 255 →
    put_mid n (length active - n) active rest ≡ tabulate (length row) (slot_byte n r low high)
row_filled n r low high row {first} {others} {rest} below inside e f g =
    let begun : Upto (slot_byte n r low high) r row (first ++ drop r row) =
    upto_front (omega arith) e (λ k c. high_byte n r low high k c below) in
    let active : Upto (slot_byte n r low high) n row (put_mid r (n - r) (first ++ drop r row) others) =
    upto_part begun below inside f (λ k c d. low_byte n r low high k c d) in
    upto_all (upto_part active (omega arith) (omega arith) g (λ k c d. off_byte n r low high k c)) (omega arith)

-- A row whose modules share the load is the slot's row.
pub row_shared :
    (i : Instance) (n l : ℕ) (row : List ℕ) {low high : ℕ} {new : List ℕ} → low ≡ active_step i (l / n) → high ≡ active_step i (l / n + 1) →
    new ≡ tabulate (length row) (slot_byte n (l % n) low high) → new ≡ tabulate (length row) (module_byte i n l)
unfolding slot_byte module_byte
row_shared i n l row low-is high_is filled =
    filled ∙ tabulate_same (length row) (λ k h. rw (low-is, high_is) (ap (λ (x : ℕ). cond (ltb k n) x 255) (go (ltb k (l % n)))))
  where
    go : (b : Bool) → cond b (active_step i (l / n + 1)) (active_step i (l / n)) ≡ active_step i (cond b (l / n + 1) (l / n))
    go true = refl
    go false = refl
