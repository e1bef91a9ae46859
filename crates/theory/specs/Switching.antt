-- Switching between two rows of bytes: how many modules go on, at least as many as the count rises by, `started_at_least`, and between rows of
-- plans just as many, `plan_started`; and what the changes cost, `change_cost_lem`.
use Rattle.std.specs.Prelude.{ℕ, zero, suc, ◌+◌, ◌-◌, ◌*◌, ◌≤◌, ◌<◌, ◌≡◌, refl, Bool, true, false, cond}
use Rattle.basics.specs.Core.{ap, ◌∙◌, ⊎_elim, le_refl, le_of_lt, mul-zero}
use Rattle.basics.specs.Core.{arith}
use Rattle.basics.specs.Numbers.{le_or_lt}
use Rattle.basics.specs.Sums.{sum, sum_mono, sum_add, sum_scale, sum_const, sum_balance}
use Rattle.model.specs.Instance.{Instance}
use Rattle.model.specs.Sheets.{off, is_off, change_cost}
use Rattle.model.specs.Plans.{module_byte}
use Rattle.laws.specs.Operating.{byte_off}
use Rattle.theory.specs.Hypotheses.{active_in}
use Rattle.theory.specs.RowCosts.{byte_active, plan_row_active}

-- A module that was off and is not counts 1, any other 0.
abbrev pub started : (was_off now_off : Bool) → ℕ
started a b = cond a (cond b 0 1) 0

-- The number of modules that go on from row a to row b.
unfoldable pub started_in : ℕ → (ℕ → ℕ) → (ℕ → ℕ) → ℕ
started_in m a b = sum m (λ k. started (is_off (a k)) (is_off (b k)))

-- The number of modules that go off from row a to row b.
unfoldable pub stopped_in : ℕ → (ℕ → ℕ) → (ℕ → ℕ) → ℕ
stopped_in m a b = sum m (λ k. started (is_off (b k)) (is_off (a k)))

-- Those active before and those that go on are as many as those active now and those that go off.
switch_balance : (m : ℕ) (a b : ℕ → ℕ) → active_in m a + started_in m a b ≡ active_in m b + stopped_in m a b
unfolding sum active_in started_in stopped_in
switch_balance zero a b = refl
switch_balance (suc m) a b = omega (arith, switch_balance m a b, byte (is_off (a m)) (is_off (b m)))
  where
    byte : (x y : Bool) → cond x 0 1 + started x y ≡ cond y 0 1 + started y x
    byte true true = refl
    byte true false = refl
    byte false true = refl
    byte false false = refl

-- Over n changes of rows those active first and those that go on are as many as those active last and those that go off.
pub switches_balance : (m : ℕ) (r : ℕ → ℕ → ℕ) (n : ℕ) →
    active_in m (r 0) + sum n (λ t. started_in m (r t) (r (suc t))) ≡ active_in m (r n) + sum n (λ t. stopped_in m (r t) (r (suc t)))
switches_balance m r n = sum_balance n (λ t. active_in m (r t)) _ _ (λ t. switch_balance m (r t) (r (suc t)))

-- The changes cost a price for each module that goes on and one for each that goes off.
pub change_cost_lem : (i : Instance) (m : ℕ) (a b : ℕ → ℕ) →
    sum m (λ k. change_cost i (a k) (b k)) ≡ i.power_up * started_in m a b + i.power_down * stopped_in m a b
unfolding sum started_in stopped_in change_cost
change_cost_lem i zero a b = omega arith
change_cost_lem i (suc m) a b = omega (arith, change_cost_lem i m a b, byte (is_off (a m)) (is_off (b m)))
  where
    byte : (x y : Bool) →
        cond x (cond y 0 i.power_up) (cond y i.power_down 0) ≡ i.power_up * started x y + i.power_down * started y x
    byte true true = omega arith
    byte true false = omega arith
    byte false true = omega arith
    byte false false = omega arith

-- Two prices that are charged equally often are one price, their sum, charged as often as the first.
pub both_prices : (n a b : ℕ) (u d : ℕ → ℕ) → sum n d ≡ sum n u → sum n (λ t. a * u t + b * d t) ≡ (a + b) * sum n u
both_prices n a b u d even =
    let apart = sum_add n (λ t. a * u t) (λ t. b * d t) in
    omega (arith, sum_scale n a u, sum_scale n b d, ap (λ (x : ℕ). b * x) even)

-- At least the difference of the active modules goes on (thesis 3.1).
pub started_at_least : (m : ℕ) (a b : ℕ → ℕ) → active_in m b - active_in m a ≤ started_in m a b
started_at_least m a b = omega (arith, switch_balance m a b)

-- At most the modules active now go on.
pub started_at_most : (m : ℕ) (a b : ℕ → ℕ) → started_in m a b ≤ active_in m b
unfolding started_in active_in
started_at_most m a b = sum_mono m (λ k h. byte (is_off (a k)) (is_off (b k)))
  where
    byte : (x y : Bool) → started x y ≤ cond y 0 1
    byte true y = le_refl (cond y 0 1)
    byte false y = omega arith

-- Between two rows of plans none goes on where the second has no more active modules.
plan_none_started : (i : Instance) (m n l n' l' : ℕ) → i.top_step < off → l ≤ n * i.top_step → n' ≤ n →
    started_in m (module_byte i n l) (module_byte i n' l') ≡ 0
unfolding started_in
plan_none_started i m n l n' l' steps fits h = sum_const m (λ k _. byte k) ∙ mul-zero m
  where
    byte : (k : ℕ) → started (is_off (module_byte i n l k)) (is_off (module_byte i n' l' k)) ≡ 0
    byte k =
        ⊎_elim
        (λ (g : n ≤ k). rw (byte_off i n l k g, byte_off i n' l' k (omega arith)))
        (λ (g : k < n). rw (byte_active i n l fits steps k g))
        (le_or_lt n k)

-- Between two rows of plans just the difference of their counts goes on.
pub plan_started : (i : Instance) (m n l n' l' : ℕ) →
    i.top_step < off → n ≤ m → n' ≤ m → l ≤ n * i.top_step → l' ≤ n' * i.top_step →
    started_in m (module_byte i n l) (module_byte i n' l') ≡ n' - n
unfolding started_in stopped_in
plan_started i m n l n' l' steps rack rack' fits fits' = ⊎_elim fewer more (le_or_lt n' n)
  where
    fewer : n' ≤ n → started_in m (module_byte i n l) (module_byte i n' l') ≡ n' - n
    fewer h = omega (arith, plan_none_started i m n l n' l' steps fits h)

    more : n < n' → started_in m (module_byte i n l) (module_byte i n' l') ≡ n' - n
    more h =
        let none-stopped = plan_none_started i m n' l' n l steps fits' (le_of_lt h) in
        let balance = switch_balance m (module_byte i n l) (module_byte i n' l') in
        omega (arith, plan_row_active i m n l steps rack fits, plan_row_active i m n' l' steps rack' fits')
