-- What the search over a list of allowed counts leaves in the buffers is the least plan over the list, and zeros.
use Rattle.std.specs.Prelude.{ℕ, ◌≤◌, ◌≡◌, List, ◌++◌, length, take, drop, replicate}
use Rattle.basics.specs.Core.{sym, ◌∙◌, ap, arith, length-replicate, length-take-le}
use Rattle.basics.specs.Lists.{written_over}
use Rattle.model.specs.Instance.{Instance}
use Rattle.model.specs.Thesis.{counts_cost}
use Rattle.model.specs.Plans.{least_plan, least_cost}
use Rattle.laws.specs.Acceptance.{accepted_bounds}
use Rattle.thresholds.specs.Places.{last_place, length_fits}
use Rattle.thresholds.specs.Thresholds.{threshold_plan}
use Rattle.theory.specs.Hypotheses.{Plannable, PlanFits}
use Rattle.theory.specs.Condition3.{accepted_plannable, threshold_plan_lem, least_plan_fits, least_cost_counts}
use Rattle.card.specs.declared.Card.{Card}
use Rattle.card.specs.Shows.{show_of}
use Rattle.counts.specs.AllowedCounts.{powers_up_to}
use Rattle.counts.proofs.Powers.{digits_known}
use Rattle.plans.specs.PlanRequires.{PlanReady}
use Rattle.planners.specs.PlannerRequires.{CountsReady}
use Rattle.planners.proofs.Fronts.{front_is}

-- A cost and two buffers at exit are those of the least plan over counts, where p and w are the buffers at entry.
abbrev pub LeastWritten : Instance → (counts : List ℕ) (asked : ℕ) (p w : List ℕ) (cost : ℕ) (plan work : List ℕ) → Type 0
LeastWritten i counts asked p w cost plan work =
    (cost ≡ least_cost i counts) × ((plan ≡ written_over (least_plan i counts) p) × (work ≡ written_over (replicate asked 0) w))

module _ {card : Card} {counts : List ℕ} {asked : ℕ} {p w : List ℕ} (given : CountsReady card counts asked p w) where
  pub plan_long : card.header.slots ≤ length p
  plan_long = omega (arith, given.buffers.plan_room, card.header_is.slots_is)

  pub work_long : asked ≤ length w
  work_long = given.buffers.work_room

  -- No list has more counts than the largest rack.
  pub few_counts : length counts ≤ 201
  few_counts = omega (arith, length_fits given.allowed, (accepted_bounds _ card.accepted).modules)

  plannable : Plannable (show_of card)
  plannable = accepted_plannable _ card.accepted

  fits : PlanFits (show_of card) (least_plan (show_of card) counts)
  fits = least_plan_fits plannable counts given.allowed

  size : card.header.slots ≡ length (least_plan (show_of card) counts)
  size = card.header_is.slots_is ∙ sym fits.slotwise

  module _ {made : List ℕ} (made-is : made ≡ threshold_plan (show_of card) counts 0 (powers_up_to (last_place counts))) where
    filled : made ++ drop card.header.slots p ≡ written_over (least_plan (show_of card) counts) p
    filled =
        let digits = digits_known (last_place counts) (omega (arith, few_counts)) in
        let least : made ≡ least_plan (show_of card) counts = made-is ∙ threshold_plan_lem plannable counts given.allowed _ digits.0 in
        ap (λ (l : List ℕ). l ++ drop card.header.slots p) least ∙ ap (λ (n : ℕ). least_plan (show_of card) counts ++ drop n p) size

    pub made_ready : PlanReady card (take card.header.slots (made ++ drop card.header.slots p))
    made_ready =
        rw (front_is (least_plan (show_of card) counts) p size filled)
        (record {
          sized = record { slotwise = fits.slotwise };
          in_rack = fits.in_rack;
          served = fits.served;
        })

    pub least_written :
        {cost : ℕ} {cleared : List ℕ} → cost ≡ counts_cost (show_of card) 0 (take card.header.slots (made ++ drop card.header.slots p)) →
        cleared ≡ replicate (length (take asked w)) 0 →
        LeastWritten (show_of card) counts asked p w cost (made ++ drop card.header.slots p) (cleared ++ drop asked w)
    least_written cost_is zeros = (
      cost_is ∙ rw (front_is (least_plan (show_of card) counts) p size filled) (sym (least_cost_counts plannable counts given.allowed)),
      (filled, rw (zeros, length-take-le asked w work_long, length-replicate {A = ℕ} asked 0)),
    )
