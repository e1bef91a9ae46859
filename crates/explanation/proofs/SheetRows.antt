-- The rows of a sheet, as they are lent: their active modules are the sheet's counts, and those that go on are the sheet's.
use Rattle.std.specs.Prelude.{ℕ, suc, ◌+◌, ◌-◌, ◌*◌, ◌≤◌, ◌<◌, ◌≡◌, List, length, get_or}
use Rattle.basics.specs.Core.{ap, ap₂, arith}
use borrow.Rule.Slice.PartMut.{mid_of}
use Rattle.basics.specs.Sums.{sum_ext}
use Rattle.basics.specs.Lists.{get_or_tabulate}
use Rattle.model.specs.Instance.{Instance}
use Rattle.model.specs.Sheets.{state_at, active_of, active_at, counts_of}
use Rattle.theory.specs.Hypotheses.{active_in}
use Rattle.theory.specs.RowCosts.{active_le}
use Rattle.theory.specs.Switching.{started_in, started_at_least, started_at_most}
use Rattle.sheets.proofs.States.{row_length, row_at}
use Rattle.explanation.specs.Exchanges.{start_of, row_active, row_starts, starts_after, exchanged_after}

module _ (i : Instance) (s : List ℕ) (size : length s ≡ i.modules * i.slots) where
  -- A row's active modules are the count of its slot.
  pub row_active_is :
      {a m t : ℕ} → m ≡ i.modules → a ≡ t * i.modules → t < i.slots → row_active (mid_of a (a + m - a) s) ≡ active_at i s (suc t)
  unfolding row_active active_at
  row_active_is m-is a-is h =
      rw (row_length i s size m-is a-is h) (sum_ext i.modules (λ k g. ap active_of (row_at i s size m-is a-is h k g)))

  -- The modules that go on from a row to the next are those of the sheet.
  pub row_starts_is :
      {a b m t : ℕ} → m ≡ i.modules → a ≡ t * i.modules → b ≡ suc t * i.modules → suc t < i.slots →
      row_starts (mid_of a (a + m - a) s) (mid_of b (b + m - b) s) ≡ starts_after i s (suc t)
  unfolding row_starts starts_after
  row_starts_is m-is a-is b-is h =
      rw (row_length i s size m-is b-is h)
      (sum_ext i.modules
      (λ k g. ap₂ start_of (row_at i s size m-is a-is (omega arith) k g) (row_at i s size m-is b-is h k g)))

-- The modules of a sheet that go on.
module _ (i : Instance) (s : List ℕ) where
  -- At least as many go on as the count rises by.
  pub rise_below : (time : ℕ) → active_at i s (suc time) - active_at i s time ≤ starts_after i s time
  unfolding starts_after active_at active_in started_in
  rise_below time = started_at_least i.modules (state_at i s time) (state_at i s (suc time))

  -- No more than the rack go on beyond the rise.
  pub exchanged_most : (t : ℕ) → exchanged_after i s t ≤ i.modules
  unfolding exchanged_after starts_after started_in
  exchanged_most t =
      omega (
        arith,
        started_at_most i.modules (state_at i s (suc t)) (state_at i s (suc (suc t))),
        active_le i.modules (state_at i s (suc (suc t))),
      )

  -- The count of a slot as it stands in the list of counts.
  pub count_is : {counts : List ℕ} (t : ℕ) → counts ≡ counts_of i s → t < i.slots → get_or counts t 0 ≡ active_at i s (suc t)
  unfolding counts_of
  count_is t is h = rw is (get_or_tabulate i.slots _ t 0 h)
