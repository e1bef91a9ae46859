-- How long the texts are at most.
use Rattle.std.proofs.Common.{Fits, w8}
use Rattle.std.specs.Prelude.{ℕ, ◌+◌, ◌*◌, ◌^◌, ◌≤◌, ◌<◌, Bool, true, false, cond, List, length, get_or, take, drop}
use Rattle.basics.specs.Core.{arith, length-append, length-take}
use Rattle.basics.specs.Core.{get_or-take, get_or-drop}
use Rattle.basics.specs.Parts.{get_or_within}
use Rattle.basics.specs.Text.{text}
use Rattle.basics.specs.Writing.{Room, rows_at_most}
use Rattle.model.specs.Sheets.{off, is_off}
use Rattle.model.specs.Listing.{decimal, cost_line, plan_line, step_text, slot_line, listing, refused_line}
use Rattle.listing.specs.Texts.{numbered_line, count_text, module_text, sheet_line, sheet_lines, Printable, LineRoom}
use Rattle.listing.proofs.Digits.{decimal_most}

-- A line of a word and a number has at most 20 digits and the line's end after the word.
line_length : (word : List ℕ) (n : ℕ) → n < 2 ^ 64 → length (numbered_line word n) ≤ length word + 21
line_length word n h = simp length-append (omega (arith, decimal_most 19 n (omega arith)))

-- The line of the cost has at most 26 bytes.
cost_length : (n : ℕ) → n < 2 ^ 64 → length (cost_line n) ≤ 26
unfolding cost_line
cost_length = line_length (text "cost ")

-- The line of the plan has at most 4 bytes for each count.
plan_length : (p : List ℕ) → ((t : ℕ) → get_or p t 0 < 256) → length (plan_line p) ≤ 5 + length p * 4
unfolding plan_line
plan_length p byte =
    let counts = rows_at_most 4 (length p) (λ t. count_text (get_or p t 0)) (λ t h. count t) in
    simp length-append (omega arith)
  where
    count : (t : ℕ) → length (count_text (get_or p t 0)) ≤ 4
    count t = omega (arith, decimal_most 2 (get_or p t 0) (omega (arith, byte t)))

-- The text of a step, or of off, has at most 3 bytes.
step_length : (b : ℕ) → b < 256 → length (step_text b) ≤ 3
unfolding step_text
step_length b h = go (is_off b)
  where
    go : (t : Bool) → length (cond t (text "-") (decimal b)) ≤ 3
    go true = omega arith
    go false = decimal_most 2 b (omega arith)

-- The line of a slot has at most 4 bytes for each module, and 11 besides.
slot_length :
    (t : ℕ) (row : List ℕ) → t < 1024 → ((k : ℕ) → k < length row → get_or row k 0 < 256) → length (slot_line t row) ≤ 11 + length row * 4
unfolding slot_line
slot_length t row h byte =
    let steps = rows_at_most 4 (length row) (λ k. module_text (get_or row k off)) step in
    simp length-append (omega (arith, decimal_most 3 (t + 1) (omega arith)))
  where
    step : (k : ℕ) → k < length row → length (module_text (get_or row k off)) ≤ 4
    step k l = rw (get_or_within row k off 0 l) (omega (arith, step_length (get_or row k 0) (byte k l)))

-- The lines of n slots have at most 11 + 4 m bytes each.
lines_length :
    (m n : ℕ) (s : List ℕ) → n ≤ 1024 → ((k : ℕ) → get_or s k 0 < 256) → length (sheet_lines m n s) ≤ n * (11 + m * 4)
lines_length m n s few byte = rows_at_most (11 + m * 4) n (sheet_line m s) line
  where
    size : (t : ℕ) → length (take m (drop (t * m) s)) ≤ m
    size t = omega (arith, length-take m (drop (t * m) s))

    inside : (t k : ℕ) → k < length (take m (drop (t * m) s)) → get_or (take m (drop (t * m) s)) k 0 < 256
    inside t k h =
        let below : k < m = omega (arith, size t) in
        rw (get_or-take, get_or-drop) (byte (t * m + k))

    line : (t : ℕ) → t < n → length (sheet_line m s t) ≤ 11 + m * 4
    line t h = omega (arith, slot_length t (take m (drop (t * m) s)) (omega arith) (inside t), size t)

-- The area that `write_listing` asks for has room for the listing.
pub listing_room :
    {m cost : ℕ} {p s out : List ℕ} → Printable m p s out → cost < 2 ^ 64 → ((k : ℕ) → Fits w8 (get_or p k 0)) →
    ((k : ℕ) → Fits w8 (get_or s k 0)) → Room (listing m cost p s) 0 out
unfolding listing
listing_room {m} {cost} {p} {s} a top counts steps =
    let first = cost_length cost top in
    let second = plan_length p (λ k. (counts k).fits) in
    let rest = lines_length m (length p) s a.rack.slots (λ k. (steps k).fits) in
    record { room = simp length-append (omega arith) }

-- The area that `write_refusal` asks for has room for the line of every refusal.
pub refusal_room : {n : ℕ} {out : List ℕ} → LineRoom out → n < 2 ^ 64 → Room (refused_line n) 0 out
unfolding refused_line
refusal_room {n} a top = record { room = omega (arith, line_length (text "refused ") n top) }
