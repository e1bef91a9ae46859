-- Lists of which a part was lent and has come back, and the loop invariant of those filled part by part.
use Rattle.std.specs.Prelude.{ℕ, zero, suc, ◌+◌, ◌-◌, ◌≤◌, ◌<◌, ◌≡◌, refl, List, [], ◌∷◌, ◌++◌, length, get_or, take, drop, replicate}
use Rattle.basics.specs.Core.{ap, sym, ◌∙◌, ⊎_elim}
use Rattle.basics.specs.Core.{length-replicate, get_or-replicate, get_or-append, length-take-le, get_or-append-add, get_or-take}
use Rattle.basics.specs.Core.{get_or-drop, not-suc-le-zero, sub-zero, add-sub_cancel_left, le_dest, arith}
use borrow.Rule.Slice.PartMut.{mid_of, put_mid, mid_len, same_len_mid, drop_put}
use Rattle.basics.specs.Numbers.{le_or_lt}
use Rattle.basics.specs.Filling.{Upto, upto_none}

-- Within a list it does not matter what is read beyond its end.
pub get_or_within : (l : List ℕ) (k d e : ℕ) → k < length l → get_or l k d ≡ get_or l k e
get_or_within [] k d e h = absurd (not-suc-le-zero h)
get_or_within (x ∷ l) zero d e h = refl
get_or_within (x ∷ l) (suc k) d e h = get_or_within l k d e (omega arith)

-- The part of m entries from a on has the length m.
pub part_length : (a m : ℕ) (l : List ℕ) → a + m ≤ length l → length (mid_of a (a + m - a) l) ≡ m
part_length a m l h = mid_len a (a + m) l h ∙ add-sub_cancel_left a m

-- Entry k of the part from a to e is entry a + k of the list.
pub part_at : (a e : ℕ) (l : List ℕ) (k d : ℕ) → k < e - a → get_or (mid_of a (e - a) l) k d ≡ get_or l (a + k) d
part_at a e l k d h = rw (get_or-take (e - a) (drop a l) k d h, get_or-drop a l k d)

-- A list whose part from a to e is now new: what stands before it, in it and after it.
module _ (a e : ℕ) (l new : List ℕ) (order : a ≤ e) (within : e ≤ length l) (size : length new ≡ e - a) where
  front : length (take a l) ≡ a
  front = length-take-le a l (omega arith)

  put_before : (k d : ℕ) → k < a → get_or (put_mid a (e - a) l new) k d ≡ get_or l k d
  put_before k d h = get_or-append (take a l) _ d k (omega (arith, front)) ∙ get_or-take a l k d h

  put_inside : (k d : ℕ) → k < e - a → get_or (put_mid a (e - a) l new) (a + k) d ≡ get_or new k d
  put_inside k d h =
      let place : a + k ≡ length (take a l) + k = omega (arith, front) in
      rw (place, get_or-append-add (take a l) _ k d) (get_or-append new _ d k (omega arith))

  put_after : (k d : ℕ) → get_or (put_mid a (e - a) l new) (e + k) d ≡ get_or l (e + k) d
  put_after k d =
      sym (get_or-drop e (put_mid a (e - a) l new) k d) ∙ rw (drop_put a e l new order within size) (get_or-drop e l k d)

-- Filling the part from a to e fills the list up to e, where f is the same all over that part.
pub upto_part :
    {f : ℕ → ℕ} {a e x : ℕ} {old l new : List ℕ} → Upto f a old l → a ≤ e → e ≤ length old →
    new ≡ replicate (length (mid_of a (e - a) l)) x → ((k : ℕ) → a ≤ k → k < e → f k ≡ x) → Upto f e old (put_mid a (e - a) l new)
upto_part {f} {a} {e} {x} {old} {l} {new} u order within filled same =
    record {
      size = same_len_mid a (e - a) l new (ap length filled ∙ length-replicate _ x) ∙ u.size;
      done = λ k g i.
          ⊎_elim
          (λ (h : a ≤ k). inside k g (le_dest h))
          (λ (h : k < a). put_before a e l new order long size k 0 h ∙ u.done k h i)
          (le_or_lt a k);
      kept = λ k g. after k (le_dest g) ∙ u.kept k (omega arith);
    }
  where
    long : e ≤ length l
    long = omega arith

    size : length new ≡ e - a
    size = ap length filled ∙ length-replicate _ x ∙ mid_len a e l long

    inside : (k : ℕ) → k < e → (d : ℕ) × (a + d ≡ k) → get_or (put_mid a (e - a) l new) k 0 ≡ f k
    inside k g (d, p) =
        let here : d < length (mid_of a (e - a) l) = omega (arith, mid_len a e l long) in
        let entry : get_or new d 0 ≡ x = rw filled (get_or-replicate _ d x 0 here) in
        rw (same k (omega arith) g, ← p) (put_inside a e l new order long size d 0 (omega arith) ∙ entry)

    after : (k : ℕ) → (d : ℕ) × (e + d ≡ k) → get_or (put_mid a (e - a) l new) k 0 ≡ get_or l k 0
    after k (d, p) = rw (← p) (put_after a e l new order long size d 0)

-- Filling the part before e fills the list up to e, where f is the same all over that part.
pub upto_front :
    {f : ℕ → ℕ} {e x : ℕ} {old new : List ℕ} → e ≤ length old → new ≡ replicate (length (take e old)) x →
    ((k : ℕ) → k < e → f k ≡ x) → Upto f e old (new ++ drop e old)
upto_front {f} {e} {x} {old} {new} within filled same =
    rw (sub-zero e) at (upto_part {new = new} (upto_none f old) (omega arith) within (rw (sub-zero e) filled) (λ k g. same k))
