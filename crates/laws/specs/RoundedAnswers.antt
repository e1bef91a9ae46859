-- The answer of the rounded count's call, by its tests, and that it is what the course book's list of cases gives (document 02, §6):
-- `answered_by_cases`.
use Rattle.std.specs.Prelude.{ℕ, ◌≤◌, ◌<◌, ◌≡◌, true, false, cond, leb}
use Rattle.basics.specs.Core.{sym, ap, ⊎_elim, le-leb, lt-leb}
use Rattle.basics.specs.Numbers.{le_or_lt, true_or_false}
use Rattle.model.specs.declared.Refusal.TheVariants.{RackSize, EntryRange}
use Rattle.std.specs.Prelude.{Ok, Err}
use Rattle.model.specs.Instance.{rack_number}
use Rattle.model.specs.Counts.{rounded_count, rounded_by_cases}
use Rattle.model.specs.Specs.{first_of}
use Rattle.model.specs.Calls.{round_count, spec_of, answer}
use Rattle.laws.specs.Acceptance.{rack_range}
use Rattle.laws.specs.RoundedCounts.{rounded_by_cases_lem}

module _ (n m : ℕ) where
  pub round_rack : rack_number m ≡ false → Err RackSize ≡ answer (round_count n m)
  unfolding answer spec_of first_of
  round_rack wrong = rw wrong

  module _ (right : rack_number m ≡ true) where
    pub round_entry : m < n → Err EntryRange ≡ answer (round_count n m)
    unfolding answer spec_of first_of
    round_entry many = rw (right, lt-leb n m many)

    pub round_cost : n ≤ m → {x : ℕ} → x ≡ rounded_count m n → Ok x ≡ answer (round_count n m)
    unfolding answer spec_of first_of
    round_cost few e = rw (right, le-leb n m few) (ap Ok e)

-- 'Answers are the same for all n and m': 3 for a rack outside 1 to 200, then 12 for a count above the rack, then what the list gives.
pub answered_by_cases :
    (n m : ℕ) →
    answer (round_count n m) ≡ cond (rack_number m) (cond (leb n m) (Ok (rounded_by_cases m n)) (Err EntryRange)) (Err RackSize)
answered_by_cases n m =
    ⊎_elim
    (λ (right : rack_number m ≡ true).
    ⊎_elim
    (λ (few : n ≤ m). rw (right, le-leb n m few) (sym (round_cost n m right few (rounded_by_cases_lem m n (rack_range m right).1 few))))
    (λ (many : m < n). rw (right, lt-leb n m many) (sym (round_entry n m right many)))
    (le_or_lt n m))
    (λ (wrong : rack_number m ≡ false). rw wrong (sym (round_rack n m wrong)))
    (true_or_false (rack_number m))
