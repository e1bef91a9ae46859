-- What std says of a sum over the elements of a list, or over those of two lists in pairs, as a sum over their places.
use Rattle.std.specs.Prelude.{ℕ, zero, suc, ◌≤◌, ◌≡◌, refl, List, length, get_or, take, sum_by, zip}
use Rattle.basics.specs.Core.{sym, ap, ◌∙◌, le_refl, add-one, arith, take-length, min-eq_left}
use Rattle.std.proofs.lemmas.List.Sums.{sum_by_more}
use Rattle.std.proofs.lemmas.Slice.Zip.{length-zip, get_or-zip}
use Rattle.basics.specs.Sums.{sum, sum_ext}

pub by_places : {A : Type 0} (f : A → ℕ) (l : List A) (d : A) {x : ℕ} → x ≡ sum_by f l → x ≡ sum (length l) (λ k. f (get_or l k d))
unfolding sum
by_places f l d e = e ∙ ap (sum_by f) (sym (take-length l)) ∙ front (length l) (le_refl (length l))
  where
    front : (n : ℕ) → n ≤ length l → sum_by f (take n l) ≡ sum n (λ k. f (get_or l k d))
    front zero h = refl
    front (suc n) h = rw (← add-one n) (omega (arith, sum_by_more f l n d (omega arith), front n (omega arith)))

pub pairs_by_places :
    (f : ℕ → ℕ → ℕ) (a b : List ℕ) {x : ℕ} → length b ≡ length a → x ≡ sum_by (λ (p : ℕ × ℕ). f p.0 p.1) (zip a b) →
    x ≡ sum (length a) (λ k. f (get_or a k 0) (get_or b k 0))
pairs_by_places f a b same e =
    let long : length (zip a b) ≡ length a = length-zip a b ∙ min-eq_left (omega arith) in
    let pairs = rw long at (by_places (λ (p : ℕ × ℕ). f p.0 p.1) (zip a b) (0, 0) e) in
    pairs ∙ sum_ext (length a) (λ k h. rw (get_or-zip a b k (0, 0) h (omega arith)))
