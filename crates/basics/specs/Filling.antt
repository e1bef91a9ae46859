-- Invariants of loops that fill a list, one store a turn: upwards from the first place, and downwards from the last.
use Rattle.std.specs.Prelude.{ℕ, ◌+◌, ◌≤◌, ◌<◌, ◌≡◌, refl, List, length, get_or, set}
use Rattle.basics.specs.Core.{◌∙◌, ⊎_elim, arith, length-set, get_or-set_same}
use Rattle.basics.specs.Core.{get_or-set_other}
use Rattle.basics.specs.Numbers.{le_or_lt}
use Rattle.basics.specs.Lists.{tabulate, equal_tabulate}

-- Filling upwards: below j the list holds f, and from j on it is as it was.
pub record Upto (f : ℕ → ℕ) (j : ℕ) (old new : List ℕ) : Type 0 where
  pub size : length new ≡ length old
  pub done : (k : ℕ) → k < j → k < length old → get_or new k 0 ≡ f k
  pub kept : (k : ℕ) → j ≤ k → get_or new k 0 ≡ get_or old k 0

-- Before the first store upwards nothing is filled.
pub upto_none : (f : ℕ → ℕ) (old : List ℕ) → Upto f 0 old old
upto_none f old = record { size = refl; done = λ k h g. absurd (omega arith); kept = λ k h. refl }

-- A store at j, where everything below j is done, fills the list up to j + 1.
pub upto_more :
    {f : ℕ → ℕ} {j x : ℕ} {old new : List ℕ} → Upto f j old new → j < length old → x ≡ f j → Upto f (j + 1) old (set new j x)
upto_more {f} {j} {x} {old} {new} u h e =
    let long : j < length new = omega arith in
    record {
      size = length-set new j x ∙ u.size;
      done = λ k g i.
          ⊎_elim
          (λ (l : j ≤ k).
          let same : k ≡ j = omega arith in
          rw same (get_or-set_same new j x 0 long ∙ e))
          (λ (l : k < j). get_or-set_other new j k x 0 (omega arith) ∙ u.done k l i)
          (le_or_lt j k);
      kept = λ k g. get_or-set_other new j k x 0 (omega arith) ∙ u.kept k (omega arith);
    }

-- A list filled up to its length is the table of f.
pub upto_all : {f : ℕ → ℕ} {j : ℕ} {old new : List ℕ} → Upto f j old new → length old ≤ j → new ≡ tabulate (length old) f
upto_all u h = equal_tabulate u.size (λ k inside. u.done k (omega arith) inside)

-- Filling downwards: from j on the list holds f, and below j it is as it was.
pub record Downto (f : ℕ → ℕ) (j : ℕ) (old new : List ℕ) : Type 0 where
  pub size : length new ≡ length old
  pub done : (k : ℕ) → j ≤ k → k < length old → get_or new k 0 ≡ f k
  pub kept : (k : ℕ) → k < j → get_or new k 0 ≡ get_or old k 0

-- Before the first store downwards nothing is filled.
pub downto_none : (f : ℕ → ℕ) (old : List ℕ) → Downto f (length old) old old
downto_none f old = record { size = refl; done = λ k h g. absurd (omega arith); kept = λ k h. refl }

-- A store at j, where everything above j is done, fills the list down to j.
pub downto_more :
    {f : ℕ → ℕ} {j x : ℕ} {old new : List ℕ} → Downto f (j + 1) old new → j < length old → x ≡ f j → Downto f j old (set new j x)
downto_more {f} {j} {x} {old} {new} u h e =
    let long : j < length new = omega arith in
    record {
      size = length-set new j x ∙ u.size;
      done = λ k g i.
          ⊎_elim
          (λ (l : k ≤ j).
          let same : k ≡ j = omega arith in
          rw same (get_or-set_same new j x 0 long ∙ e))
          (λ (l : j < k). get_or-set_other new j k x 0 (omega arith) ∙ u.done k (omega arith) i)
          (le_or_lt k j);
      kept = λ k g. get_or-set_other new j k x 0 (omega arith) ∙ u.kept k (omega arith);
    }

-- A list filled down to place 0 is the table of f.
pub downto_all : {f : ℕ → ℕ} {old new : List ℕ} → Downto f 0 old new → new ≡ tabulate (length old) f
downto_all u = equal_tabulate u.size (λ k inside. u.done k (omega arith) inside)
