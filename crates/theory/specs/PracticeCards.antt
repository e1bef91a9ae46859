-- The cards of practice shows (document 02, §1): every one that is written is accepted, and planned by every planner that keeps the rules for its
-- rack, `practice_writes`, `practice_planned`; and an area as long as the longest one is enough for every start from 1 on, `practice_enough`.
use Rattle.std.specs.Prelude.{ℕ, ◌≤◌, ◌≡◌, List, length}
use Rattle.basics.specs.Core.{ap, arith}
use Rattle.model.specs.Answers.{number_of}
use Rattle.model.specs.Instance.{instance_of, card_bytes}
use Rattle.model.specs.Planners.{Planner}
use Rattle.model.specs.Practice.{practice_show, longest_practice}
use Rattle.model.specs.Calls.{practice_card, spec_of, answer, Accepted, buffers_at_exit, card_at_exit}
use Rattle.model.specs.Specs.{at_exit}
use Rattle.model.specs.Promises.{front_card, KeepsRules, AlwaysPlanned}
use Rattle.laws.specs.Encoding.{card_bytes_length, front_card_lem}
use Rattle.laws.specs.PracticeAccepted.{practice_in_order, practice_accepted, practice_given, practice_length}
use Rattle.theory.specs.Refusals.{succeeded}
use Rattle.theory.specs.Outcomes.{always_planned}

module _ (start : ℕ) where
  -- The card of the practice show.
  abbrev practised : List ℕ
  practised = card_bytes (practice_show start)

  -- 'Every card it writes is accepted, also by the coarse planner': with buffers long enough every planner that keeps the rules plans
  -- it.
  pub practice_planned : (k : Planner) → KeepsRules k (instance_of practised) → AlwaysPlanned k practised
  practice_planned k keeps p w = always_planned k practised p w (practice_accepted start) keeps

  module _ (area : List ℕ) where
    -- After number 0 the card is what stands at the front of the area.
    pub practice_front : number_of (answer (practice_card start area)) ≡ 0 → front_card (card_at_exit (practice_card start area)) ≡ practised
    unfolding card_at_exit buffers_at_exit spec_of at_exit
    practice_front e =
        rw (succeeded (practice_card start area) e) (front_card_lem (practice_show start) (practice_in_order start) _)

    -- That card is accepted, planned by every planner that keeps the rules, and at most as long as the longest one.
    pub practice_writes :
        number_of (answer (practice_card start area)) ≡ 0 →
        Accepted (front_card (card_at_exit (practice_card start area))) ×
        ((k : Planner) → KeepsRules k (instance_of (front_card (card_at_exit (practice_card start area)))) →
        AlwaysPlanned k (front_card (card_at_exit (practice_card start area)))) ×
        (length (front_card (card_at_exit (practice_card start area))) ≤ longest_practice)
    practice_writes e =
        rw (practice_front e) (
          practice_accepted start,
          practice_planned,
          omega (arith, card_bytes_length (practice_show start), practice_length start),
        )

    -- With an area as long as the longest card no start from 1 on is refused.
    pub practice_enough : 1 ≤ start → longest_practice ≤ length area → number_of (answer (practice_card start area)) ≡ 0
    practice_enough some long =
        ap number_of (practice_given start area (λ e. absurd (omega arith)) (omega (arith, practice_length start)))
