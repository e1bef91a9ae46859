-- The card's answer from its three groups of refusals.
use Rattle.std.specs.Prelude.{ℕ, ◌≡◌, refl, true, List}
use Rattle.basics.specs.Core.{sym, ◌∙◌}
use Rattle.model.specs.declared.Refusal.{Refusal}
use Rattle.model.specs.Answers.{Answer}
use Rattle.std.specs.Prelude.{Ok, Err}
use Rattle.model.specs.Instance.{instance_of, convex}
use Rattle.model.specs.Specs.{front_tests, size_tests, body_tests, card_tests, first_of}
use Rattle.model.specs.Calls.{check_card, spec_of, answer, Accepted}
use Rattle.card.specs.declared.Header.{Header}
use Rattle.card.specs.Fields.{HeaderOf}
use Rattle.card.specs.Checking.{first_among}
use Rattle.laws.specs.FirstRefusal.{first_refused, first_through}
use Rattle.laws.specs.Acceptance.{accepted_bounds}

module _ (s : List ℕ) where
  -- The card's answer tests refusals 1 and 2, then 3 to 5, then 6 to 8.
  by_groups : answer (check_card s) ≡ first_of (front_tests s) (first_of (size_tests s) (first_of (body_tests (instance_of s)) (Ok 0)))
  unfolding answer spec_of card_tests first_of
  by_groups = refl

  -- The answers of the code's three checks, one after the other.
  module _ {front : Answer} (front_is : front ≡ first_among (front_tests s)) where
    pub front_refused : {x : Refusal} → front ≡ Err x → answer (check_card s) ≡ Err x
    unfolding first_among
    front_refused e = by_groups ∙ first_refused _ _ refl (sym front_is ∙ e)

    module _ {k : ℕ} (front_passed : front ≡ Ok k) {size : Answer} (size_is : size ≡ first_among (size_tests s)) where
      after_front : answer (check_card s) ≡ first_of (size_tests s) (first_of (body_tests (instance_of s)) (Ok 0))
      unfolding first_among
      after_front = by_groups ∙ first_through _ _ _ (sym front_is ∙ front_passed)

      pub size_refused : {x : Refusal} → size ≡ Err x → answer (check_card s) ≡ Err x
      unfolding first_among
      size_refused e = after_front ∙ first_refused _ _ refl (sym size_is ∙ e)

      module _ {l : ℕ} (size_passed : size ≡ Ok l) {body : Answer} (body_is : body ≡ first_among (body_tests (instance_of s))) where
        after_size : answer (check_card s) ≡ body
        unfolding first_among
        after_size = after_front ∙ first_through _ _ _ (sym size_is ∙ size_passed) ∙ sym body_is

        pub body_refused : {x : Refusal} → body ≡ Err x → answer (check_card s) ≡ Err x
        body_refused e = after_size ∙ e

        -- Where all three passed, the card is accepted.
        pub passed_accepted : {n : ℕ} → body ≡ Ok n → Accepted s
        unfolding answer spec_of
        passed_accepted e = first_through _ _ _ (after_size ∙ e)

        -- So its table is convex.
        pub passed_convex : {n : ℕ} {h : Header} → HeaderOf s h → body ≡ Ok n → convex h.top_step (instance_of s).table ≡ true
        passed_convex given e = rw given.top_is (accepted_bounds s (passed_accepted e)).convexity
