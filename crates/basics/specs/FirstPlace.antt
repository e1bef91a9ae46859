-- Whether a test holds at an element of a list, at how many and at which place first, `occurs`, `count_of`, `first_place`; and a list changed at that
-- place alone, `change_first`.
use Rattle.std.specs.Prelude.{ℕ, suc, ◌+◌, ◌<◌, ◌≡◌, refl, Bool, true, false, cond, ◌||◌, List, [], ◌∷◌, map, length, get_or, set, ltb}
use Rattle.basics.specs.Core.{sym, ap, ◌∙◌, true≢false, ⊎_elim}
use Rattle.basics.specs.Core.{zero-add, arith, lt-ltb, le-ltb}
use Rattle.basics.specs.Numbers.{true_or_false}

-- The test holds at an element of the list.
unfoldable pub occurs {ℓ} : {A : Type ℓ} → (A → Bool) → List A → Bool
occurs f [] = false
occurs f (x ∷ xs) = f x || occurs f xs

-- How many elements of the list the test holds at.
unfoldable pub count_of {ℓ} : {A : Type ℓ} → (A → Bool) → List A → ℕ
count_of f [] = 0
count_of f (x ∷ xs) = cond (f x) 1 0 + count_of f xs

-- The first place at which the test holds, or the length of the list where there is none.
unfoldable pub first_place {ℓ} : {A : Type ℓ} → (A → Bool) → List A → ℕ
first_place f [] = 0
first_place f (x ∷ xs) = cond (f x) 0 (suc (first_place f xs))

-- The list with the first element at which the test holds changed.
unfoldable pub change_first {ℓ} : {A : Type ℓ} → (A → Bool) → (A → A) → List A → List A
change_first f g [] = []
change_first f g (x ∷ xs) = cond (f x) (g x ∷ xs) (x ∷ change_first f g xs)

module _ {A : Type 0} (f : A → Bool) where
  -- Where the test holds at an element, the first place is one of the list.
  pub place_inside : (xs : List A) → occurs f xs ≡ true → first_place f xs < length xs
  unfolding occurs first_place
  place_inside [] e = absurd (true≢false (sym e))
  place_inside (x ∷ xs) e =
      ⊎_elim
      (λ (t : f x ≡ true). rw t (omega arith))
      (λ (t : f x ≡ false). let h : first_place f xs < length xs = place_inside xs (rw t at e) in rw t (omega arith))
      (true_or_false (f x))

  -- Where it holds at none, the first place is the length.
  pub place_beyond : (xs : List A) → occurs f xs ≡ false → first_place f xs ≡ length xs
  unfolding occurs first_place
  place_beyond [] e = refl
  place_beyond (x ∷ xs) e =
      ⊎_elim
      (λ (t : f x ≡ true). absurd (true≢false (rw t at e)))
      (λ (t : f x ≡ false). rw t (ap suc (place_beyond xs (rw t at e))))
      (true_or_false (f x))

  -- The test holds at an element exactly if the first place is one of the list.
  pub occurs_place : (xs : List A) → occurs f xs ≡ ltb (first_place f xs) (length xs)
  occurs_place xs =
      ⊎_elim
      (λ (t : occurs f xs ≡ true). t ∙ sym (lt-ltb _ _ (place_inside xs t)))
      (λ (t : occurs f xs ≡ false). t ∙ sym (le-ltb (first_place f xs) (length xs) (omega (arith, place_beyond xs t))))
      (true_or_false (occurs f xs))

  -- The test holds at an element exactly if it holds at one or more.
  pub occurs_count : (xs : List A) → occurs f xs ≡ ltb 0 (count_of f xs)
  unfolding occurs count_of
  occurs_count [] = refl
  occurs_count (x ∷ xs) =
      ⊎_elim
      (λ (t : f x ≡ true). rw t (sym (lt-ltb 0 (1 + count_of f xs) (omega arith))))
      (λ (t : f x ≡ false). rw (t, zero-add (count_of f xs)) (occurs_count xs))
      (true_or_false (f x))

  module _ (g : A → A) where
    -- A change keeps the length.
    pub length_change : (xs : List A) → length (change_first f g xs) ≡ length xs
    unfolding change_first
    length_change [] = refl
    length_change (x ∷ xs) =
        ⊎_elim
        (λ (t : f x ≡ true). rw t)
        (λ (t : f x ≡ false). rw t (ap suc (length_change xs)))
        (true_or_false (f x))

    -- The changed list is the list set at the first place; a list without such an element stays, since its length is no place of it.
    pub change_sets : (d : A) (xs : List A) → change_first f g xs ≡ set xs (first_place f xs) (g (get_or xs (first_place f xs) d))
    unfolding first_place change_first
    change_sets d [] = refl
    change_sets d (x ∷ xs) =
        ⊎_elim
        (λ (t : f x ≡ true). rw t)
        (λ (t : f x ≡ false). rw t (ap (λ (l : List A). x ∷ l) (change_sets d xs)))
        (true_or_false (f x))

    -- Where the change takes the test away, the test holds at one element less.
    pub count_taken :
        ((x : A) → f (g x) ≡ false) → (xs : List A) → occurs f xs ≡ true → count_of f (change_first f g xs) + 1 ≡ count_of f xs
    unfolding occurs count_of change_first
    count_taken gone [] e = absurd (true≢false (sym e))
    count_taken gone (x ∷ xs) e =
        ⊎_elim
        (λ (t : f x ≡ true). rw (t, gone x) (omega arith))
        (λ (t : f x ≡ false). let less = count_taken gone xs (rw t at e) in rw (t, t) (omega arith))
        (true_or_false (f x))

    -- Where the change keeps the test, the changed list holds at its first place what was there, changed.
    pub change_found :
        ((x : A) → f (g x) ≡ f x) → (d : A) (xs : List A) → occurs f xs ≡ true →
        get_or (change_first f g xs) (first_place f (change_first f g xs)) d ≡ g (get_or xs (first_place f xs) d)
    unfolding occurs first_place change_first
    change_found kept d [] e = absurd (true≢false (sym e))
    change_found kept d (x ∷ xs) e =
        ⊎_elim
        (λ (t : f x ≡ true). rw (t, kept x, t))
        (λ (t : f x ≡ false). rw (t, t) (change_found kept d xs (rw t at e)))
        (true_or_false (f x))

    module _ (h : A → Bool) where
      -- Another test that a change keeps holds at an element before and after it alike, and at as many.
      pub change_occurs : ((x : A) → f x ≡ true → h (g x) ≡ h x) → (xs : List A) → occurs h (change_first f g xs) ≡ occurs h xs
      unfolding occurs change_first
      change_occurs same [] = refl
      change_occurs same (x ∷ xs) =
          ⊎_elim
          (λ (t : f x ≡ true). rw (t, same x t))
          (λ (t : f x ≡ false). rw (t, change_occurs same xs))
          (true_or_false (f x))

      pub change_counts : ((x : A) → f x ≡ true → h (g x) ≡ h x) → (xs : List A) → count_of h (change_first f g xs) ≡ count_of h xs
      unfolding count_of change_first
      change_counts same [] = refl
      change_counts same (x ∷ xs) =
          ⊎_elim
          (λ (t : f x ≡ true). rw (t, same x t))
          (λ (t : f x ≡ false). rw (t, change_counts same xs))
          (true_or_false (f x))

      -- A test that holds at the changed element holds in the changed list.
      pub change_adds :
          ((x : A) → f x ≡ true → h (g x) ≡ true) → (xs : List A) → occurs f xs ≡ true → occurs h (change_first f g xs) ≡ true
      unfolding occurs change_first
      change_adds new [] e = absurd (true≢false (sym e))
      change_adds new (x ∷ xs) e =
          ⊎_elim
          (λ (t : f x ≡ true). rw (t, new x t))
          (λ (t : f x ≡ false). rw (t, change_adds new xs (rw t at e)) (or-true (h x)))
          (true_or_false (f x))
        where
          or-true : (b : Bool) → (b || true) ≡ true
          or-true true = refl
          or-true false = refl

      -- The first element at which another test holds stays, where that test holds neither at what is changed nor at what it becomes.
      pub change_apart :
          ((x : A) → f x ≡ true → (h x ≡ false) × (h (g x) ≡ false)) → (d : A) (xs : List A) →
          get_or (change_first f g xs) (first_place h (change_first f g xs)) d ≡ get_or xs (first_place h xs) d
      unfolding first_place change_first
      change_apart apart d [] = refl
      change_apart apart d (x ∷ xs) =
          ⊎_elim
          (λ (t : f x ≡ true). rw (t, (apart x t).0, (apart x t).1))
          (λ (t : f x ≡ false).
          ⊎_elim
          (λ (u : h x ≡ true). rw (t, u))
          (λ (u : h x ≡ false). rw (t, u) (change_apart apart d xs))
          (true_or_false (h x)))
          (true_or_false (f x))

      -- Where another test holds at no element but at what the changed one becomes, this is its first.
      pub change_first_lem :
          ((x : A) → f x ≡ true → h (g x) ≡ true) → (d : A) (xs : List A) → occurs f xs ≡ true → occurs h xs ≡ false →
          get_or (change_first f g xs) (first_place h (change_first f g xs)) d ≡ g (get_or xs (first_place f xs) d)
      unfolding occurs first_place change_first
      change_first_lem new d [] e none = absurd (true≢false (sym e))
      change_first_lem new d (x ∷ xs) e none =
          ⊎_elim
          (λ (t : f x ≡ true). rw (t, new x t))
          (λ (t : f x ≡ false).
          ⊎_elim
          (λ (u : h x ≡ true). absurd (true≢false (rw u at none)))
          (λ (u : h x ≡ false). rw (t, u) (change_first_lem new d xs (rw t at e) (rw u at none)))
          (true_or_false (h x)))
          (true_or_false (f x))

-- Tests and changes on the images of a list's elements.
module _ {A B : Type 0} (image : A → B) (f : A → Bool) (h : B → Bool) (same : (x : A) → h (image x) ≡ f x) where
  pub occurs_map : (xs : List A) → occurs h (map image xs) ≡ occurs f xs
  unfolding occurs
  occurs_map [] = refl
  occurs_map (x ∷ xs) = rw (same x, occurs_map xs)

  pub place_map : (xs : List A) → first_place h (map image xs) ≡ first_place f xs
  unfolding first_place
  place_map [] = refl
  place_map (x ∷ xs) = rw (same x, place_map xs)

  pub change_map :
      (g : A → A) (k : B → B) → ((x : A) → image (g x) ≡ k (image x)) → (xs : List A) →
      map image (change_first f g xs) ≡ change_first h k (map image xs)
  unfolding change_first
  change_map g k moved [] = refl
  change_map g k moved (x ∷ xs) =
      ⊎_elim
      (λ (t : f x ≡ true). rw (same x, t, moved x))
      (λ (t : f x ≡ false). rw (same x, t, change_map g k moved xs))
      (true_or_false (f x))
