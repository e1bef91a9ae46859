-- The switching cost of a sheet is that of its counts and the switching price for each module that goes on beyond their rises.
use Rattle.std.specs.Prelude.{ℕ, zero, suc, ◌+◌, ◌-◌, ◌*◌, ◌≤◌, ◌<◌, ◌≡◌, refl, List}
use Rattle.basics.specs.Core.{ap, sym, sub-zero, one-add, arith}
use Rattle.basics.specs.Sums.{sum, sum_ext, sum_add, sum_join}
use Rattle.model.specs.Instance.{Instance}
use Rattle.model.specs.Sheets.{state_at, active_at, counts_of, sheet_switching_cost}
use Rattle.model.specs.Thesis.{switching_price, count_at}
use Rattle.model.specs.Explanation.{counts_switching_cost}
use Rattle.theory.specs.Hypotheses.{active_in}
use Rattle.theory.specs.Switching.{started_in}
use Rattle.theory.specs.CountCosts.{rises_cost}
use Rattle.theory.specs.SheetLaws.{switching_cost, counts_at_lem, counts_length}
use Rattle.explanation.specs.Exchanges.{starts_after, exchanged_after, exchanged}
use Rattle.explanation.proofs.SheetRows.{rise_below}

module _ (i : Instance) (s : List ℕ) where
  -- The rise of the count into slot t.
  abbrev rise : ℕ → ℕ
  rise t = count_at 0 (counts_of i s) (suc t) - count_at 0 (counts_of i s) t

  count_at_lem : (t : ℕ) → t ≤ i.slots → count_at 0 (counts_of i s) t ≡ active_at i s t
  unfolding active_at active_in
  count_at_lem t h = counts_at_lem i s t h

  -- Into the first slot go on as many as the count rises by.
  first_rise : 0 < i.slots → starts_after i s 0 ≡ rise 0
  unfolding starts_after active_at state_at count_at
  first_rise some = rw (sub-zero (count_at 0 (counts_of i s) 1)) (sym (count_at_lem 1 some))

  -- Into a later slot go on those by which the count rises and those beyond.
  later_rise : (t : ℕ) → suc t < i.slots → starts_after i s (suc t) ≡ rise (suc t) + exchanged_after i s t
  unfolding exchanged_after
  later_rise t h = rw (count_at_lem (suc t) (omega arith), count_at_lem (suc (suc t)) h) (omega (arith, rise_below i s (suc t)))

  all_rises : (n : ℕ) → i.slots ≡ n → sum n (starts_after i s) ≡ sum n rise + sum (n - 1) (exchanged_after i s)
  unfolding sum
  all_rises zero e = refl
  all_rises (suc n) e =
      let starts = rw (one-add n) at (sum_join 1 n (starts_after i s)) in
      let rises = rw (one-add n) at (sum_join 1 n rise) in
      let later : sum n (λ t. starts_after i s (1 + t)) ≡ sum n (λ t. rise (1 + t) + exchanged_after i s t) =
      sum_ext n (λ t h. rw one-add (later_rise t (omega arith))) in
      let apart = sum_add n (λ t. rise (1 + t)) (exchanged_after i s) in
      let less : suc n - 1 ≡ n = omega arith in
      rw less (omega (arith, first_rise (omega arith)))

  pub exchanged_cost : sheet_switching_cost i s ≡ counts_switching_cost i (counts_of i s) + switching_price i * exchanged i s
  unfolding exchanged starts_after started_in
  exchanged_cost =
      omega (
        arith,
        switching_cost i s,
        rises_cost i (counts_of i s) (counts_length i s),
        ap (λ (x : ℕ). switching_price i * x) (all_rises i.slots refl),
      )
