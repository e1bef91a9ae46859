-- The lowest step of a convex table, found by going up as long as the table falls.
use Rattle.std.specs.Prelude.{ℕ, ◌+◌, ◌≤◌, ◌<◌, max, ◌≡◌, true}
use Rattle.basics.specs.Core.{sym, ⊎_elim, le_of_lt, arith}
use Rattle.basics.specs.Numbers.{le_or_lt}
use Rattle.basics.specs.Ranges.{LeastAt}
use Rattle.model.specs.Instance.{Instance, convex}
use Rattle.model.specs.MoreLight.{active_step}
use Rattle.laws.specs.Acceptance.{accepted_bounds}
use Rattle.laws.specs.Tables.{Convex, convex_test, rises_past}
use Rattle.laws.specs.LeastSteps.{lowest_step, active_is, active_least, active_greater}
use Rattle.card.specs.declared.Card.{Card}
use Rattle.card.specs.Shows.{show_of}

-- All steps before k cost more than step k.
pub record Fallen (f : ℕ → ℕ) (top k : ℕ) : Type 0 where
  pub within : k ≤ top
  pub dearer : (x : ℕ) → x < k → f k < f x

pub fallen_none : (f : ℕ → ℕ) (top : ℕ) → Fallen f top 0
fallen_none f top = record { within = omega arith; dearer = λ x h. absurd (omega arith) }

-- The next step costs less.
pub fallen_more : {f : ℕ → ℕ} {top k : ℕ} → Fallen f top k → k < top → f (k + 1) < f k → Fallen f top (k + 1)
fallen_more {f} {top} {k} given h less =
    record {
      within = omega arith;
      dearer =
          λ x below.
          ⊎_elim
          (λ (g : k ≤ x). let same : x ≡ k = omega arith in rw same less)
          (λ (g : x < k). omega (arith, given.dearer x g))
          (le_or_lt k x);
    }

-- The next step does not cost less, or there is none.
pub fallen_found :
    (i : Instance) {top k : ℕ} → top ≡ i.top_step → convex top i.table ≡ true → Fallen i.table top k →
    (k < top → i.table k ≤ i.table (k + 1)) → k ≡ lowest_step i
fallen_found i {top} {k} same table given level =
    let rises = rises_past top i.table ((convex_test _ _).0 table) k level k in
    let found : LeastAt i.table 0 top k =
    record {
      from = omega arith;
      to = given.within;
      least =
          λ x _ most.
          ⊎_elim (λ (g : k ≤ x). rises x (omega arith) g most) (λ (g : x < k). le_of_lt (given.dearer x g)) (le_or_lt k x);
      before = λ x _. given.dearer x;
    } in
    sym (active_is i (rw same at found))

module _ (card : Card) where
  -- The lowest step is a step of the table.
  pub lowest_in_table : card.lowest_step ≤ (show_of card).top_step
  lowest_in_table = omega (arith, card.lowest_is, (active_least (show_of card) 0 (omega arith)).to)

  -- The table of an accepted card is convex.
  pub convex_table : Convex (show_of card).top_step (show_of card).table
  convex_table = (convex_test _ _).0 (accepted_bounds card.bytes.now card.accepted).convexity

  -- The step at which a module is active on an accepted card.
  module _ (k : ℕ) where
    pub raised : max k card.lowest_step ≡ active_step (show_of card) k
    raised = rw (card.lowest_is) (sym (active_greater (show_of card) convex_table k))

    -- It is no higher than the step or the top step.
    pub active_most : active_step (show_of card) k ≤ max k (show_of card).top_step
    active_most = omega (arith, raised, lowest_in_table)
