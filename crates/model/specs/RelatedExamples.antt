-- Examples for the definitions of RelatedShows: shows that stand in these relations, that no others do, and what the planners give a card and
-- what they do not.
use Rattle.std.specs.Prelude.{ℕ, zero, suc, ◌≤◌, ◌≡◌, refl, List, [], ◌∷◌, ◌++◌, reverse, length, get_or, take}
use Rattle.basics.specs.Core.{sym, ap, ap₂, ◌∙◌, arith}
use Rattle.basics.specs.Lists.{tabulate, rows, equal_tabulate}
use Rattle.basics.specs.Bytes.{little_endian, bytes_of}
use Rattle.model.specs.Instance.{Instance, instance_of, card_bytes}
use Rattle.model.specs.Planners.{Planner, exact, work_bytes}
use Rattle.model.specs.Specs.{card_tests, first_of}
use Rattle.model.specs.Calls.{Gives, plan_show, spec_of, answer, plan_at_exit}
use Rattle.model.specs.RelatedShows.{Agree, loads_of, Reversed, LargerRack, Concatenated, PlannedAt, PlannedAs}
use Rattle.model.specs.Examples.{show_of, card_of}

-- The table and the loads of example A, its loads in reverse, and its loads followed by 3 1.
abbrev pub table_a : List ℕ
table_a = 1 ∷ 2 ∷ 4 ∷ []

abbrev pub loads_a : List ℕ
loads_a = 6 ∷ 0 ∷ 2 ∷ []

abbrev loads_back : List ℕ
loads_back = 2 ∷ 0 ∷ 6 ∷ []

abbrev loads_then : List ℕ
loads_then = 6 ∷ 0 ∷ 2 ∷ 3 ∷ 1 ∷ []

-- A show with the table and the prices of example A.
abbrev like_a : (m : ℕ) → (loads : List ℕ) → Instance
like_a m l = show_of m 2 3 2 table_a l

-- Shows with the same table and prices agree, whatever their racks and loads are.
agreeing : (m n q up down : ℕ) (f l r : List ℕ) → Agree (show_of m q up down f l) (show_of n q up down f r)
agreeing m n q up down f l r = record { top_step = refl; power_up = refl; power_down = refl; table = λ k h. refl }

-- A show that agrees with example A has its top step, its prices and its F(0) to F(Q).
agreeing_only :
    (m n q up down x y z : ℕ) (l r : List ℕ) → Agree (like_a m l) (show_of n q up down (x ∷ y ∷ z ∷ []) r) →
    (q ≡ 2) × (up ≡ 3) × (down ≡ 2) × (x ≡ 1) × (y ≡ 2) × (z ≡ 4)
agreeing_only m n q up down x y z l r a =
    (a.top_step, a.power_up, a.power_down, a.table 0 (omega arith), a.table 1 (omega arith), a.table 2 (omega arith))

-- What a table has beyond F(Q) does not count.
agreeing_to_top : (n x : ℕ) → Agree (like_a 3 loads_a) (show_of n 2 3 2 (1 ∷ 2 ∷ 4 ∷ x ∷ []) [])
agreeing_to_top n x = record { top_step = refl; power_up = refl; power_down = refl; table = entry }
  where
    entry : (k : ℕ) → k ≤ 2 → get_or (1 ∷ 2 ∷ 4 ∷ x ∷ []) k 0 ≡ get_or table_a k 0
    entry zero h = refl
    entry (suc zero) h = refl
    entry (suc (suc zero)) h = refl
    entry (suc (suc (suc k))) h = absurd (omega arith)

-- The loads of a show that is given by a list are that list.
loads_are : (m : ℕ) (l : List ℕ) → loads_of (like_a m l) ≡ l
unfolding loads_of
loads_are m l = sym (equal_tabulate refl (λ k h. refl))

-- Example A backwards is the show with its loads in reverse on the same rack, and no other show. A show of one slot is its own reverse.
reversed_holds : (m : ℕ) → Reversed (like_a m loads_a) (like_a m loads_back)
unfolding tabulate loads_of
reversed_holds m = record { agree = agreeing m m 2 3 2 table_a loads_a loads_back; rack = refl; loads = refl }

reversed_only : (m n : ℕ) (l : List ℕ) → Reversed (like_a m loads_a) (like_a n l) → Agree (like_a m loads_a) (like_a n l) × (n ≡ m) × (l ≡ loads_back)
reversed_only m n l back = (back.agree, back.rack, sym (loads_are n l) ∙ back.loads ∙ ap reverse (loads_are m loads_a))

reversed_one : (m : ℕ) → Reversed (like_a m (5 ∷ [])) (like_a m (5 ∷ []))
unfolding tabulate loads_of
reversed_one m = record { agree = agreeing m m 2 3 2 table_a (5 ∷ []) (5 ∷ []); rack = refl; loads = refl }

-- A show on a larger rack is the show with the same loads on a rack with at least as many modules, and no other show.
larger_holds : (n m : ℕ) (l : List ℕ) → n ≤ m → LargerRack (like_a n l) (like_a m l)
larger_holds n m l h = record { agree = agreeing n m 2 3 2 table_a l l; rack = h; loads = loads_are m l ∙ sym (loads_are n l) }

larger_only : (m n : ℕ) (l : List ℕ) → LargerRack (like_a m loads_a) (like_a n l) → Agree (like_a m loads_a) (like_a n l) × (m ≤ n) × (l ≡ loads_a)
larger_only m n l larger = (larger.agree, larger.rack, sym (loads_are n l) ∙ larger.loads ∙ loads_are m loads_a)

-- Example A and then a show with the loads 3 1 is the show with these five loads on the one rack of all three, and no other show. The first
-- show may have no slot.
concatenated_holds : (m : ℕ) → Concatenated (like_a m loads_a) (like_a m (3 ∷ 1 ∷ [])) (like_a m loads_then)
unfolding tabulate loads_of
concatenated_holds m =
    record {
      agree_first = agreeing m m 2 3 2 table_a loads_a loads_then;
      agree_second = agreeing m m 2 3 2 table_a (3 ∷ 1 ∷ []) loads_then;
      rack_first = refl;
      rack_second = refl;
      loads = refl;
    }

concatenated_none : (m : ℕ) (l : List ℕ) → Concatenated (like_a m []) (like_a m l) (like_a m l)
unfolding tabulate loads_of
concatenated_none m l =
    record {
      agree_first = agreeing m m 2 3 2 table_a [] l;
      agree_second = agreeing m m 2 3 2 table_a l l;
      rack_first = refl;
      rack_second = refl;
      loads = refl;
    }

concatenated_only :
    (m n o : ℕ) (l : List ℕ) → Concatenated (like_a m loads_a) (like_a n (3 ∷ 1 ∷ [])) (like_a o l) →
    Agree (like_a m loads_a) (like_a o l) × Agree (like_a n (3 ∷ 1 ∷ [])) (like_a o l) × (o ≡ m) × (o ≡ n) × (l ≡ loads_then)
concatenated_only m n o l both = (
  both.agree_first,
  both.agree_second,
  both.rack_first,
  both.rack_second,
  sym (loads_are o l) ∙ both.loads ∙ ap₂ (λ a b. a ++ b) (loads_are m loads_a) (loads_are n (3 ∷ 1 ∷ [])),
)

-- What is no card is given no cost and no plan.
no_card : (x : ℕ) (r : List ℕ) → (PlannedAt exact [] x → ⊥) × (PlannedAs exact [] r → ⊥)
unfolding little_endian instance_of work_bytes card_tests spec_of first_of answer
no_card x r = (
  λ given. let wrong : ◌≡◌ {A = ℕ} 0 1 = (given [] [] (omega arith) (omega arith)).number_is in omega arith,
  λ given. let wrong : ◌≡◌ {A = ℕ} 1 0 = (given [] [] (omega arith) (omega arith)).0 in omega arith,
)

-- A cost and a plan are given with all buffers of at least so many bytes.
abbrev pub GivenFrom : Planner → (card : List ℕ) → (slots work cost : ℕ) → (counts : List ℕ) → Type 0
GivenFrom k card t n cost counts =
    (p w : List ℕ) → t ≤ length p → n ≤ length w →
    Gives (plan_show k card p w) 0 cost × (take t (plan_at_exit (plan_show k card p w)) ≡ counts)

-- The card of example A; and a card on which the coarse planner's cost and plan are not the exact one's, nor its work bytes.
abbrev pub card_like_a : List ℕ
card_like_a = card_of 3 2 3 2 table_a loads_a

abbrev pub card_three : List ℕ
card_three = card_of 4 1 1 0 (0 ∷ 0 ∷ []) (3 ∷ [])

-- What is given a card is given with all buffers that are long enough, also with longer ones.
planned_only :
    (x : ℕ) (r : List ℕ) → PlannedAt exact card_like_a x → PlannedAs exact card_like_a r →
    ((p w : List ℕ) → 3 ≤ length p → 12 ≤ length w →
    Gives (plan_show exact card_like_a p w) 0 x × (take 3 (plan_at_exit (plan_show exact card_like_a p w)) ≡ r))
unfolding little_endian bytes_of rows instance_of card_bytes work_bytes
planned_only x r cost plan p w room work = (cost p w room work, (plan p w room work).1)
