-- Texts written one after the other into a list of bytes.
use Rattle.std.specs.Prelude.{ℕ, zero, suc, ◌+◌, ◌*◌, ◌≤◌, ◌<◌, ◌≡◌, refl, List, [], ◌∷◌, ◌++◌, length, get_or, set, take, drop}
use Rattle.basics.specs.Core.{sym, ◌∙◌, ap, append_assoc, le_refl, add-zero}
use Rattle.basics.specs.Core.{zero-add, add-one, arith, length-append, length-set, take-append-drop, set_split}
use Rattle.basics.specs.Core.{take_at, drop-drop, drop-append-add, length-take-le, take-suc, take-length}
use Rattle.basics.specs.Lists.{rows, written_over}
use Rattle.basics.specs.Rising.{rises_to}

-- The text fits into the list from place p on.
pub record Room (text : List ℕ) (p : ℕ) (l : List ℕ) : Type 0 where
  pub room : p + length text ≤ length l

-- From place p on the new list holds the text, and everywhere else it is the old one. The place after the text is next.
pub record Written (text : List ℕ) (p : ℕ) (old new : List ℕ) (next : ℕ) : Type 0 where
  pub fits : p + length text ≤ length old
  pub size : length new ≡ length old
  pub place : next ≡ p + length text
  pub bytes : new ≡ take p old ++ (text ++ drop (p + length text) old)

-- Writing nothing leaves the list as it is.
written_none : (p : ℕ) (l : List ℕ) → p ≤ length l → Written [] p l l p
written_none p l h =
    record { fits = omega arith; size = refl; place = omega arith; bytes = rw (add-zero p) (sym (take-append-drop p l)) }

-- A store at a place writes a text of one byte there.
pub written_one : (x p : ℕ) (l : List ℕ) → p < length l → Written (x ∷ []) p l (set l p x) (p + 1)
written_one x p l h =
    record { fits = omega arith; size = length-set l p x; place = refl; bytes = rw add-one (set_split l p x h) }

-- Writing one text and then another after it writes the two joined.
pub written_more :
    {a b : List ℕ} {p q r : ℕ} {old mid new : List ℕ} → Written a p old mid q → Written b q mid new r → Written (a ++ b) p old new r
written_more {a} {b} {p} {q} {r} {old} {mid} {new} v w =
    let long = length-append a b in
    record {
      fits = omega arith;
      size = w.size ∙ v.size;
      place = omega arith;
      bytes = w.bytes ∙ joined;
    }
  where
    front : List ℕ
    front = take p old ++ a

    long_front : length front ≡ q
    long_front =
        omega (arith, length-append (take p old) a, length-take-le p old (omega arith))

    cut : mid ≡ front ++ drop (p + length a) old
    cut = v.bytes ∙ sym (append_assoc (take p old) a (drop (p + length a) old))

    rest : drop (q + length b) mid ≡ drop (p + length (a ++ b)) old
    rest =
        let there : q + length b ≡ length front + length b = omega (arith, long_front) in
        let sums : p + length (a ++ b) ≡ p + length a + length b = omega (arith, length-append a b) in
        rw (there, cut, drop-append-add front (drop (p + length a) old) (length b), sums) (drop-drop (length b) (p + length a) old)

    joined : take q mid ++ (b ++ drop (q + length b) mid) ≡ take p old ++ ((a ++ b) ++ drop (p + length (a ++ b)) old)
    joined =
        rw (rest, cut, take_at front (drop (p + length a) old) q long_front)
        (simp append_assoc)

-- A text written from the first place on stands over the front of the old list.
pub written_start : {text old new : List ℕ} {r : ℕ} → Written text 0 old new r → (r ≡ length text) × (new ≡ written_over text old)
written_start {text} {old} w = (omega arith, rw (zero-add (length text)) at w.bytes)

-- A text written over the front of a list ends within the new list.
pub start_within : (text old : List ℕ) {r : ℕ} {new : List ℕ} → r ≡ length text → new ≡ written_over text old → r ≤ length new
start_within text old e d = omega (arith, ap length d, length-append text (drop (length text) old))

-- What was written over the front of a list may be given by an equal text.
pub start_same :
    (a b old : List ℕ) {r : ℕ} {new : List ℕ} → a ≡ b → (r ≡ length a) × (new ≡ written_over a old) →
    (r ≡ length b) × (new ≡ written_over b old)
start_same a b old e w = rw e at w

-- Room for a text is room for one that is no longer.
pub room_less : {a b : List ℕ} {p : ℕ} {l : List ℕ} → length b ≤ length a → Room a p l → Room b p l
room_less h r = record { room = omega arith }

-- Room for two texts is room for the first.
pub room_first : {a : List ℕ} (b : List ℕ) {p : ℕ} {l : List ℕ} → Room (a ++ b) p l → Room a p l
room_first {a} b h = record { room = omega (arith, length-append a b) }

-- Room for two texts is room for the second once the first is written.
pub room_rest : {a b : List ℕ} {p q : ℕ} {old new : List ℕ} → Room (a ++ b) p old → Written a p old new q → Room b q new
room_rest {a} {b} h w = record { room = omega (arith, length-append a b) }

-- The first n rows are no shorter than the first j, where j is at most n.
rows_rise : (f : ℕ → List ℕ) (j n : ℕ) → j ≤ n → length (rows j f) ≤ length (rows n f)
unfolding rows
rows_rise f j n h =
    rises_to (λ k. length (rows k f)) n (λ k l. rw (add-one k) (omega (arith, length-append (rows k f) (f k)))) j n h (le_refl n)

-- Rows of at most b bytes each, n of them, have at most n * b bytes.
pub rows_at_most : (b n : ℕ) (f : ℕ → List ℕ) → ((k : ℕ) → k < n → length (f k) ≤ b) → length (rows n f) ≤ n * b
unfolding rows
rows_at_most b zero f h = omega arith
rows_at_most b (suc n) f h =
    omega (arith, length-append (rows n f) (f n), rows_at_most b n f (λ k l. h k (omega arith)), h n (omega arith))

-- The text of one byte, element k of a list.
abbrev pub element_text : List ℕ → ℕ → List ℕ
element_text l k = get_or l k 0 ∷ []

-- The elements of a list, one after the other as texts, are the list.
rows_of_elements : (l : List ℕ) → rows (length l) (element_text l) ≡ l
unfolding rows
rows_of_elements l = first (length l) (le_refl (length l)) ∙ take-length l
  where
    first : (n : ℕ) → n ≤ length l → rows n (element_text l) ≡ take n l
    first zero h = refl
    first (suc n) h = rw (first n (omega arith)) (sym (take-suc l n 0 h))

-- A loop that writes f 0, f 1, .. from place p on: k of n are written.
pub record RowsWritten (f : ℕ → List ℕ) (n p : ℕ) (old : List ℕ) (k : ℕ) (new : List ℕ) (next : ℕ) : Type 0 where
  pub within : k ≤ n
  pub so_far : Written (rows k f) p old new next

-- Before the first turn nothing is written.
pub rows_none : (f : ℕ → List ℕ) (n : ℕ) {p : ℕ} {l : List ℕ} → Room (rows n f) p l → RowsWritten f n p l 0 l p
unfolding rows
rows_none f n {p} {l} h = record { within = omega arith; so_far = written_none p l (omega arith) }

-- Where there was room for all rows, there is room for the next one.
pub rows_room :
    {f : ℕ → List ℕ} {n p k next : ℕ} {old new : List ℕ} → Room (rows n f) p old → RowsWritten f n p old k new next → k < n →
    Room (f k) next new
unfolding rows
rows_room {f} {n} {k = k} h w below =
    record { room = omega (arith, rows_rise f (suc k) n below, length-append (rows k f) (f k)) }

-- Each turn writes the next row.
pub rows_more :
    {f : ℕ → List ℕ} {n p k next after : ℕ} {old new newer : List ℕ} → RowsWritten f n p old k new next → k < n →
    Written (f k) next new newer after → RowsWritten f n p old (k + 1) newer after
unfolding rows
rows_more {f} {k = k} w below v = record { within = omega arith; so_far = rw (add-one k) (written_more w.so_far v) }

-- After the last turn all rows are written.
pub rows_all :
    {f : ℕ → List ℕ} {n p k next : ℕ} {old new : List ℕ} → RowsWritten f n p old k new next → n ≤ k → Written (rows n f) p old new next
rows_all {n = n} {k = k} w past = let same : n ≡ k = omega arith in rw same w.so_far

-- Room for a list is room for its elements, written one by one.
pub whole_room : (l : List ℕ) {p : ℕ} {old : List ℕ} → Room l p old → Room (rows (length l) (element_text l)) p old
whole_room l h = rw (rows_of_elements l) h

-- A list is written once all its elements are.
pub whole_written :
    (l : List ℕ) {p next : ℕ} {old new : List ℕ} → Written (rows (length l) (element_text l)) p old new next → Written l p old new next
whole_written l w = rw (rows_of_elements l) at w
