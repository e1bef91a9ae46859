-- What holds of each element of a list, members of lists, and lists whose elements stand in order.
use Rattle.std.specs.Prelude.{ℕ, zero, suc, ◌+◌, ◌≤◌, ◌<◌, ◌≡◌, refl, Bool, true, false, cond, List, [], ◌∷◌, ◌++◌, map, length, get_or}
use Rattle.basics.specs.Core.{sym, ap, ◌∙◌, subst, ⊎_elim}
use Rattle.basics.specs.Core.{flat_map, Memᴰ, mem_head, mem_tail, mem_not_nil, mem_cases_cons}
use Rattle.basics.specs.Core.{mem_append_cases, mem_append_left, mem_append_right, not-suc-le-zero, le_of_suc-le-suc, le_of_lt}
use Rattle.basics.specs.Core.{le_trans, add-one, arith, length-append, get_or-append}
use Rattle.basics.specs.Numbers.{le_or_lt}
use Rattle.basics.specs.Rising.{rises_to}
use Rattle.basics.specs.Tests.{all_of, and_left, and_right}
use Rattle.basics.specs.Lists.{keep}

-- A statement holds of each element of a list.
abbrev pub Each : {A : Type 0} → (A → Type 0) → List A → Type 0
Each P [] = Unit {0}
Each P (x ∷ xs) = P x × Each P xs

module _ {A : Type 0} where
  -- What holds of each element holds of a member.
  pub each_member : (P : A → Type 0) (l : List A) {x : A} → Each P l → Memᴰ x l → P x
  each_member P [] each m = absurd (mem_not_nil m)
  each_member P (y ∷ ys) {x} (first, rest) m =
      ⊎_elim (λ (same : x ≡ y). subst P (sym same) first) (each_member P ys rest) (mem_cases_cons m)

  -- What holds of everything holds of each element.
  pub each_all : (P : A → Type 0) → ((x : A) → P x) → (l : List A) → Each P l
  each_all P all [] = tt
  each_all P all (x ∷ xs) = (all x, each_all P all xs)

  -- An element at a place below the length is a member.
  pub member_at : (l : List A) (j : ℕ) (d : A) → j < length l → Memᴰ (get_or l j d) l
  member_at [] j d h = absurd (not-suc-le-zero h)
  member_at (x ∷ xs) zero d h = mem_head refl
  member_at (x ∷ xs) (suc j) d h = mem_tail (member_at xs j d (le_of_suc-le-suc h))

  -- A member stands at a place below the length.
  pub place_of : {x : A} {l : List A} (d : A) → Memᴰ x l → (j : ℕ) × (j < length l) × (get_or l j d ≡ x)
  place_of d (mem_head e) = (0, omega arith, sym e)
  place_of d (mem_tail m) = let (j, h, e) = place_of d m in (suc j, omega arith, e)

  -- One more element after n leaves the n before it as they are.
  pub snoc_before : (l : List A) (x d : A) (n j : ℕ) → length l ≡ n → j < n → get_or (l ++ (x ∷ [])) j d ≡ get_or l j d
  snoc_before l x d n j e h = get_or-append l (x ∷ []) d j (omega arith)

  -- One more element makes a list one longer.
  pub snoc_length : (l : List A) (x : A) (n : ℕ) → length l ≡ n → length (l ++ (x ∷ [])) ≡ suc n
  snoc_length l x n e = omega (arith, length-append l (x ∷ []))

  -- A member at which the test holds is a member of `keep`.
  pub to_keep : (f : A → Bool) {x : A} {l : List A} → Memᴰ x l → f x ≡ true → Memᴰ x (keep f l)
  unfolding keep
  to_keep f (mem_head h) e = rw (rw h at e) (mem_head h)
  to_keep f {x} (mem_tail {x = y} {xs = ys} m) e = later (f y) (to_keep f m e)
    where
      later : (b : Bool) → Memᴰ x (keep f ys) → Memᴰ x (cond b (y ∷ keep f ys) (keep f ys))
      later true m = mem_tail m
      later false m = m

  -- A member of `keep` is a member at which the test holds.
  pub from_keep : (f : A → Bool) {x : A} (l : List A) → Memᴰ x (keep f l) → Memᴰ x l × (f x ≡ true)
  unfolding keep
  from_keep f [] m = absurd (mem_not_nil m)
  from_keep f {x} (y ∷ ys) m = split (f y) refl m (from_keep f ys)
    where
      split :
          (b : Bool) → f y ≡ b → Memᴰ x (cond b (y ∷ keep f ys) (keep f ys)) →
          (Memᴰ x (keep f ys) → Memᴰ x ys × (f x ≡ true)) → Memᴰ x (y ∷ ys) × (f x ≡ true)
      split true e m below =
          ⊎_elim
          (λ (h : x ≡ y). (mem_head h, ap f h ∙ e))
          (λ (h : Memᴰ x (keep f ys)). let (n, g) = below h in (mem_tail n, g))
          (mem_cases_cons m)
      split false e m below = let (n, g) = below m in (mem_tail n, g)

  -- A list in order: each element stands in the relation to every later one.
  pub data InOrder (R : A → A → Type 0) : List A → Type 0 where
    none : InOrder R []
    next : {x : A} {xs : List A} → ((y : A) → Memᴰ y xs → R x y) → InOrder R xs → InOrder R (x ∷ xs)

  -- In a list in order an element stands in the relation to each at a later place.
  pub in_order_at : {R : A → A → Type 0} {l : List A} → InOrder R l → (d : A) (j k : ℕ) → j < k → k < length l → R (get_or l j d) (get_or l k d)
  in_order_at none d j k h inside = absurd (not-suc-le-zero inside)
  in_order_at (next first later) d j zero h inside = absurd (not-suc-le-zero h)
  in_order_at (next {xs = xs} first later) d zero (suc k) h inside = first _ (member_at xs k d (omega arith))
  in_order_at (next first later) d (suc j) (suc k) h inside = in_order_at later d j k (omega arith) (omega arith)

  -- Order is kept by `keep`.
  pub in_order_keep : {R : A → A → Type 0} (f : A → Bool) {l : List A} → InOrder R l → InOrder R (keep f l)
  unfolding keep
  in_order_keep f none = none
  in_order_keep {R} f (next {x = x} {xs = xs} first later) = split (f x) (in_order_keep f later)
    where
      split : (b : Bool) → InOrder R (keep f xs) → InOrder R (cond b (x ∷ keep f xs) (keep f xs))
      split true o = next (λ y m. first y (from_keep f xs m).0) o
      split false o = o

  -- Two lists in order, joined, are in order if each of the first is related to each of the second.
  in_order_append :
      {R : A → A → Type 0} {xs ys : List A} → InOrder R xs → InOrder R ys →
      ((x y : A) → Memᴰ x xs → Memᴰ y ys → R x y) → InOrder R (xs ++ ys)
  in_order_append none p across = p
  in_order_append {ys = ys} (next {x = x} {xs = xs} first later) p across =
      next
      (λ y m. ⊎_elim (first y) (λ (h : Memᴰ y ys). across x y (mem_head refl) h) (mem_append_cases xs m))
      (in_order_append later p (λ a b m n. across a b (mem_tail m) n))

-- A test that holds at each element of a list holds at a member.
pub all_of_at : (f : ℕ → Bool) (l : List ℕ) {x : ℕ} → all_of f l ≡ true → Memᴰ x l → f x ≡ true
unfolding all_of
all_of_at f [] e m = absurd (mem_not_nil m)
all_of_at f (y ∷ ys) {x} e m =
    ⊎_elim
    (λ (same : x ≡ y). ap f same ∙ and_left (f y) (all_of f ys) e)
    (all_of_at f ys (and_right (f y) (all_of f ys) e))
    (mem_cases_cons m)

-- A list of numbers, each below the next, is in order.
pub rising_in_order : (l : List ℕ) → ((j : ℕ) → j + 1 < length l → get_or l j 0 < get_or l (j + 1) 0) → InOrder ◌<◌ l
rising_in_order [] rises = none
rising_in_order (x ∷ xs) rises =
    next {xs = xs}
    (λ y m.
    let (j, h, e) = place_of 0 m in
    let rise = rises_to (λ k. get_or (x ∷ xs) k 0) (length xs) (λ k b. le_of_lt (rises k (omega arith))) in
    rw e at (le_trans (rises 0 (omega arith)) (rise 1 (suc j) (omega arith) (omega arith))))
    (rising_in_order xs (λ j h. rw (add-one j) (rw (add-one (suc j)) at (rises (suc j) (omega arith)))))

-- In an ascending list an element is at most each one that stands no earlier.
pub in_order_le : {l : List ℕ} → InOrder ◌<◌ l → (j k : ℕ) → j ≤ k → k < length l → get_or l j 0 ≤ get_or l k 0
in_order_le order j k h inside =
    ⊎_elim
    (λ (g : k ≤ j). let same : j ≡ k = omega arith in rw same (omega arith))
    (λ (g : j < k). le_of_lt (in_order_at order 0 j k g inside))
    (le_or_lt k j)

module _ {A B : Type 0} where
  -- A member of `map` is the function's value at a member of the list.
  pub from_map : (f : A → B) {y : B} (l : List A) → Memᴰ y (map f l) → (x : A) × Memᴰ x l × (y ≡ f x)
  from_map f [] m = absurd (mem_not_nil m)
  from_map f {y} (x ∷ xs) m =
      ⊎_elim
      (λ (h : y ≡ f x). (x, mem_head refl, h))
      (λ (h : Memᴰ y (map f xs)). let (z, n, e) = from_map f xs h in (z, mem_tail n, e))
      (mem_cases_cons m)

  -- Order is kept by `map` of a function that keeps the relation.
  pub in_order_map :
      {R : B → B → Type 0} {S : A → A → Type 0} (f : A → B) {l : List A} →
      ((x y : A) → Memᴰ x l → Memᴰ y l → S x y → R (f x) (f y)) → InOrder S l → InOrder R (map f l)
  in_order_map f keeps none = none
  in_order_map {R} f keeps (next {x = x} {xs = xs} first later) =
      next {x = f x}
      (λ y m.
      let (z, n, e) = from_map f xs m in
      rw e (keeps x z (mem_head refl) (mem_tail n) (first z n)))
      (in_order_map f (λ a b m n. keeps a b (mem_tail m) (mem_tail n)) later)

  -- A member of the list that the function gives for a member is a member of `flat_map`.
  pub to_flat_map : (f : A → List B) {x : A} {y : B} {l : List A} → Memᴰ x l → Memᴰ y (f x) → Memᴰ y (flat_map f l)
  unfolding flat_map
  to_flat_map f (mem_head {xs = xs} e) n = mem_append_left (flat_map f xs) (rw e at n)
  to_flat_map f (mem_tail {x = z} m) n = mem_append_right (f z) (to_flat_map f m n)

  -- A member of `flat_map` is one of the list that the function gives for some member.
  pub from_flat_map :
      (f : A → List B) {y : B} (l : List A) → Memᴰ y (flat_map f l) → (x : A) × Memᴰ x l × Memᴰ y (f x)
  unfolding flat_map
  from_flat_map f [] m = absurd (mem_not_nil m)
  from_flat_map f {y} (x ∷ xs) m =
      ⊎_elim
      (λ (h : Memᴰ y (f x)). (x, mem_head refl, h))
      (λ (h : Memᴰ y (flat_map f xs)). let (z, n, g) = from_flat_map f xs h in (z, mem_tail n, g))
      (mem_append_cases (f x) m)

  -- Order is kept by `flat_map` of a function that gives lists in order, where those of related elements are related throughout.
  pub in_order_flat_map :
      {R : B → B → Type 0} {S : A → A → Type 0} (f : A → List B) {l : List A} → ((x : A) → InOrder R (f x)) →
      ((x y : A) (a b : B) → S x y → Memᴰ a (f x) → Memᴰ b (f y) → R a b) → InOrder S l → InOrder R (flat_map f l)
  unfolding flat_map
  in_order_flat_map f inside across none = none
  in_order_flat_map {R} f inside across (next {x = x} {xs = xs} first later) =
      in_order_append
      (inside x)
      (in_order_flat_map f inside across later)
      (λ a b m n. let (z, k, g) = from_flat_map f xs n in across x z a b (first z k) m g)
