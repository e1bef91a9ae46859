-- Values that are found from the end: 0 after the last of n places, and at each place what a step makes of the value at the next.
use Rattle.std.specs.Prelude.{ℕ, zero, suc, ◌-◌, ◌≤◌, ◌<◌, ◌≡◌}
use Rattle.basics.specs.Core.{ap, ◌∙◌, sub_self, arith}

module _ (n : ℕ) (step : ℕ → ℕ → ℕ) where
  -- The value at the place that is d before the end.
  unfoldable pub from_end : ℕ → ℕ
  from_end zero = 0
  from_end (suc d) = step (n - suc d) (from_end d)

  -- The value at place t.
  unfoldable pub back_to : ℕ → ℕ
  back_to t = from_end (n - t)

  -- After the last place it is 0.
  pub back_end : back_to n ≡ 0
  unfolding back_to from_end
  back_end = ap from_end (sub_self n)

  -- At each place it is what the step makes of the next one.
  pub back_step : (t : ℕ) → t < n → back_to t ≡ step t (back_to (suc t))
  unfolding back_to from_end
  back_step t h =
      let before : n - t ≡ suc (n - suc t) = omega arith in
      let same : n - suc (n - suc t) ≡ t = omega arith in
      ap from_end before ∙ ap (λ u. step u (from_end (n - suc t))) same

  -- What holds of 0, and of what a step makes of each value of which it holds, holds of the values at all places.
  pub back_all : (P : ℕ → Type 0) → P 0 → ((t next : ℕ) → t < n → P next → P (step t next)) → (t : ℕ) → t ≤ n → P (back_to t)
  unfolding back_to from_end
  back_all P none more t h = from (n - t) (omega arith)
    where
      from : (d : ℕ) → d ≤ n → P (from_end d)
      from zero g = none
      from (suc d) g = more (n - suc d) (from_end d) (omega arith) (from d (omega arith))
