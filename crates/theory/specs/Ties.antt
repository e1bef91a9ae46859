-- The tie order of plans: the last slot in which two plans differ decides.
use Rattle.std.specs.Prelude.{ℕ, zero, suc, ◌≤◌, ◌<◌, ◌≡◌, List, [], ◌∷◌, ◌++◌, length, get_or}
use Rattle.basics.specs.Core.{sym, ◌∙◌, ⊎_elim, not-suc-le-zero, le_antisymm, arith}
use Rattle.basics.specs.Core.{ext_get_or, get_or_at}
use Rattle.basics.specs.Numbers.{le_or_lt}
use Rattle.basics.specs.Members.{snoc_before}

-- The order `NotAfter` over the first t slots.
abbrev pub NotAfterIn : ℕ → List ℕ → List ℕ → Type 0
NotAfterIn t p r = (u : ℕ) → u < t → ((v : ℕ) → u < v → v < t → get_or p v 0 ≡ get_or r v 0) → get_or p u 0 ≤ get_or r u 0

-- The last slot decides, or where it is the same the slots before it.
pub not_after_suc :
    (t : ℕ) (p r : List ℕ) → get_or p t 0 ≤ get_or r t 0 → (get_or p t 0 ≡ get_or r t 0 → NotAfterIn t p r) → NotAfterIn (suc t) p r
not_after_suc t p r last before u h agree =
    ⊎_elim
    (λ (g : t ≤ u). let same : u ≡ t = omega arith in rw same last)
    (λ (g : u < t). before (agree t g (omega arith)) u g (λ v a b. agree v a (omega arith)))
    (le_or_lt t u)

-- Two plans in order with the same last slot are in order in the slots before it.
not_after_pred : (t : ℕ) (p r : List ℕ) → get_or p t 0 ≡ get_or r t 0 → NotAfterIn (suc t) p r → NotAfterIn t p r
not_after_pred t p r last order u h agree =
    order u (omega arith)
    (λ v a b.
    ⊎_elim
    (λ (g : t ≤ v). let same : v ≡ t = omega arith in rw same last)
    (λ (g : v < t). agree v a g)
    (le_or_lt t v))

-- The order depends on the first t slots only.
pub not_after_same :
    (t : ℕ) (p q r s : List ℕ) → ((u : ℕ) → u < t → get_or p u 0 ≡ get_or q u 0) → ((u : ℕ) → u < t → get_or r u 0 ≡ get_or s u 0) →
    NotAfterIn t q s → NotAfterIn t p r
not_after_same t p q r s left right order u h agree =
    rw (left u h, right u h) (order u h (λ v a b. sym (left v b) ∙ agree v a b ∙ right v b))

-- Two plans with one slot more are in order by their last slots, or where these are the same by the slots before.
pub not_after_snoc :
    (t : ℕ) (p r : List ℕ) (x y : ℕ) → length p ≡ t → length r ≡ t → x ≤ y → (x ≡ y → NotAfterIn t p r) →
    NotAfterIn (suc t) (p ++ (x ∷ [])) (r ++ (y ∷ []))
not_after_snoc t p r x y e f last before =
    let left = get_or_at p x [] 0 t e in
    let right = get_or_at r y [] 0 t f in
    not_after_suc t (p ++ (x ∷ [])) (r ++ (y ∷ []))
    (omega arith)
    (λ g.
    not_after_same t (p ++ (x ∷ [])) p (r ++ (y ∷ [])) r
    (λ u h. snoc_before p x 0 t u e h)
    (λ u h. snoc_before r y 0 t u f h)
    (before (omega arith)))

-- Two plans of which neither comes after the other are the same.
pub not_after_equal : (t : ℕ) (p r : List ℕ) → length p ≡ t → length r ≡ t → NotAfterIn t p r → NotAfterIn t r p → p ≡ r
not_after_equal t p r e f a b = ext_get_or 0 p r (e ∙ sym f) (λ u h. slots t a b u (rw e at h))
  where
    slots : (t : ℕ) → NotAfterIn t p r → NotAfterIn t r p → (u : ℕ) → u < t → get_or p u 0 ≡ get_or r u 0
    slots zero a b u h = absurd (not-suc-le-zero h)
    slots (suc t) a b u h =
        let low = a t (omega arith) (λ v x y. omega arith) in
        let high = b t (omega arith) (λ v x y. omega arith) in
        let last : get_or p t 0 ≡ get_or r t 0 = le_antisymm low high in
        ⊎_elim
        (λ (g : t ≤ u). let same : u ≡ t = omega arith in rw same last)
        (λ (g : u < t). slots t (not_after_pred t p r last a) (not_after_pred t r p (sym last) b) u g)
        (le_or_lt t u)
