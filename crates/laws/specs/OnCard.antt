-- Calls on a card: the card's own tests come first.
use Rattle.std.specs.Prelude.{ℕ, ◌≡◌, refl, List, ◌++◌}
use Rattle.basics.specs.Core.{sym, ◌∙◌}
use Rattle.model.specs.declared.Refusal.{Refusal}
use Rattle.model.specs.Answers.{Answer}
use Rattle.std.specs.Prelude.{Ok, Err}
use Rattle.model.specs.Specs.{Test, card_tests, first_of}
use Rattle.model.specs.Calls.{check_card, spec_of, answer, Accepted}
use Rattle.laws.specs.FirstRefusal.{first_append, first_refused, first_through}

module _ (c : List ℕ) (more : List Test) (a : Answer) where
  -- Where the card is refused, so is the call, with the same number.
  pub on_card_refused : {x : Refusal} → answer (check_card c) ≡ Err x → first_of (card_tests c ++ more) a ≡ Err x
  unfolding answer spec_of
  on_card_refused e = first_append (card_tests c) more a ∙ first_refused (card_tests c) _ refl e

  -- Where the card is accepted, the further tests decide.
  pub on_card_passed : Accepted c → first_of (card_tests c ++ more) a ≡ first_of more a
  unfolding answer spec_of
  on_card_passed e = first_append (card_tests c) more a ∙ first_through (card_tests c) _ _ e

  -- Where the call answers a cost, the card is accepted.
  pub on_card_accepted : {n : ℕ} → first_of (card_tests c ++ more) a ≡ Ok n → Accepted c
  unfolding answer spec_of
  on_card_accepted e = first_through (card_tests c) _ _ (sym (first_append (card_tests c) more a) ∙ e)

  -- And the further tests give that cost.
  pub on_card_cost : {n : ℕ} → first_of (card_tests c ++ more) a ≡ Ok n → Accepted c × (first_of more a ≡ Ok n)
  on_card_cost e = let given = on_card_accepted e in (given, sym (on_card_passed given) ∙ e)
