-- Rows of m entries each, one after the other at the front of a list; and numbers of w bytes each, one after the other, which are read back:
-- `little_numbers`.
use Rattle.std.specs.Prelude.{ℕ, suc, ◌+◌, ◌*◌, ◌^◌, ◌≤◌, ◌<◌, ◌≡◌, List, ◌++◌, length, get_or, take, drop}
use Rattle.basics.specs.Core.{sym, ap, ◌∙◌, append_assoc, zero-add, mul-le-mul_left, add-one}
use Rattle.basics.specs.Core.{arith, length-append, length-drop, get_or-append, take_at, drop_at, drop-drop}
use Rattle.basics.specs.Core.{length-take-le, get_or-take}
use Rattle.std.proofs.Math.Arith.{digits_lt}
use borrow.Rule.Slice.PartMut.{put_mid}
use Rattle.basics.specs.Lists.{rows, rows_same, length_rows, get_or_rows}
use Rattle.basics.specs.Bytes.{little_endian, bytes_of, length_bytes, little_same, little_bytes}

-- Each of n rows of m entries lies within a list that is long enough for all of them.
pub row_within : (m : ℕ) {n t size : ℕ} → t < n → m * n ≤ size → t * m + m ≤ size
row_within m h g = omega (arith, mul-le-mul_left m h)

module _ (m : ℕ) (f : ℕ → List ℕ) (sized : (t : ℕ) → length (f t) ≡ m) where
  -- Entry k of row t stands at place t * m + k, whatever comes after the rows.
  front_row : (n t k d : ℕ) (rest : List ℕ) → t < n → k < m → get_or (rows n f ++ rest) (t * m + k) d ≡ get_or (f t) k d
  front_row n t k d rest h g =
      get_or-append (rows n f) rest d (t * m + k) (omega (arith, length_rows m n f sized, digits_lt h g)) ∙
      get_or_rows m n f sized t k d h g

  -- Filling row by row, the first n rows written and the rest as it was, keeps the length.
  pub rows_size : (n : ℕ) (old : List ℕ) → n * m ≤ length old → length (rows n f ++ drop (n * m) old) ≡ length old
  rows_size n old h = omega (arith, length-append (rows n f) (drop (n * m) old), length_rows m n f sized, length-drop (n * m) old)

  -- The next row, put in the place of the k entries from a on, makes the filled rows one more.
  pub next_row_lem :
      (n : ℕ) (old : List ℕ) {a k : ℕ} {area : List ℕ} → a ≡ n * m → k ≡ m → area ≡ rows n f ++ drop (n * m) old →
      put_mid a k area (f n) ≡ rows (n + 1) f ++ drop ((n + 1) * m) old
  unfolding rows
  next_row_lem n old {a} {k} {area} a-is k-is e =
      let long : length (rows n f) ≡ n * m = length_rows m n f sized in
      let front : take a area ≡ rows n f = rw (a-is, e) (take_at (rows n f) (drop (n * m) old) (n * m) long) in
      let after : drop a area ≡ drop (n * m) old = rw (a-is, e) (drop_at (rows n f) (drop (n * m) old) (n * m) long) in
      let end : n * m + m ≡ (n + 1) * m = omega arith in
      rw (front, after, k-is, drop-drop m (n * m) old, end, add-one n) (sym (append_assoc (rows n f) (f n) (drop (suc n * m) old)))

-- The numbers f 0, .., f (n - 1) one after the other, each as w bytes.
abbrev pub numbers : (w n : ℕ) → (ℕ → ℕ) → List ℕ
numbers w n f = rows n (λ k. bytes_of w (f k))

-- The elements of a list of numbers, each as w bytes.
abbrev pub element_bytes : (w : ℕ) → List ℕ → List ℕ
element_bytes w l = numbers w (length l) (λ k. get_or l k 0)

pub length_numbers : (w n : ℕ) (f : ℕ → ℕ) → length (numbers w n f) ≡ n * w
length_numbers w n f = length_rows w n (λ k. bytes_of w (f k)) (λ k. length_bytes w (f k))

-- The first n elements of a list that are f 0, .., f (n - 1), each as w bytes, are the numbers of f.
pub taken_bytes :
    (w n : ℕ) (f : ℕ → ℕ) (l : List ℕ) → n ≤ length l → ((k : ℕ) → k < n → get_or l k 0 ≡ f k) → element_bytes w (take n l) ≡ numbers w n f
taken_bytes w n f l long is =
    rw (length-take-le n l long) (rows_same n (λ k h. ap (bytes_of w) (get_or-take n l k 0 h ∙ is k h)))

-- Each of the numbers that fits w bytes is read back.
pub little_numbers :
    (w n : ℕ) (f : ℕ → ℕ) (rest : List ℕ) {t : ℕ} → t < n → f t < 256 ^ w → little_endian w (numbers w n f ++ rest) (t * w) ≡ f t
little_numbers w n f rest {t} h fits =
    little_same w (numbers w n f ++ rest) (bytes_of w (f t)) (t * w) 0
    (λ j g. rw zero-add (front_row w (λ k. bytes_of w (f k)) (λ k. length_bytes w (f k)) n t j 0 rest h g)) ∙
    little_bytes w (f t) fits
