-- The answer of the call for the running cost, by its tests.
use Rattle.std.specs.Prelude.{ℕ, ◌*◌, ◌≤◌, ◌<◌, ◌≡◌, List}
use Rattle.basics.specs.Core.{sym, ap, ◌∙◌, mul-le-mul, arith, le-leb, lt-leb}
use mir.Syntax.{w64}
use mir.Val.{Fits}
use Rattle.model.specs.declared.Refusal.{Refusal}
use Rattle.model.specs.declared.Refusal.TheVariants.{EntryRange, LoadNotServed}
use Rattle.std.specs.Prelude.{Ok, Err}
use Rattle.card.specs.Shows.{show_of}
use Rattle.model.specs.Counts.{can_serve, operating_cost}
use Rattle.model.specs.Specs.{first_of}
use Rattle.model.specs.Calls.{running_cost, check_card, spec_of, answer}
use Rattle.laws.specs.OnCard.{on_card_refused, on_card_passed}
use Rattle.card.specs.declared.Card.{Card}
use Rattle.counts.specs.Serving.{Served}

pub pair_refused : (s : List ℕ) (n l : ℕ) {x : Refusal} → answer (check_card s) ≡ Err x → Err x ≡ answer (running_cost s n l)
unfolding answer spec_of
pair_refused s n l e = sym (on_card_refused s _ _ e)

module _ (card : Card) (n l : ℕ) where
  pub pair_entry : card.header.modules < n → Err EntryRange ≡ answer (running_cost card.bytes.now n l)
  unfolding answer spec_of first_of
  pair_entry many = sym (on_card_passed _ _ _ card.accepted ∙ rw (lt-leb n (show_of card).modules (omega (arith, card.header_is.modules_is))))

  module _ (few : n ≤ card.header.modules) where
    -- The most light of n modules is a small number.
    pub light_fits : Fits w64 (n * card.header.top_step)
    light_fits =
        record {
          fits =
              omega (
                arith,
                mul-le-mul {n₁ = n} {m₁ = card.header.top_step} {n₂ = 256} {m₂ = 256} (omega (arith, card.header_is.modules_bound))
                    (omega (arith, card.header_is.top_bound)),
              );
        }

    in_rack : n ≤ (show_of card).modules
    in_rack = omega (arith, card.header_is.modules_is)

    pub served : l ≤ n * card.header.top_step → Served card n l
    served enough = record { in_rack = in_rack; serves = rw (← card.header_is.top_is) enough }

    pub pair_load : n * card.header.top_step < l → Err LoadNotServed ≡ answer (running_cost card.bytes.now n l)
    unfolding answer spec_of first_of can_serve
    pair_load less =
        sym (on_card_passed _ _ _ card.accepted ∙ rw (le-leb _ _ in_rack, lt-leb l (n * (show_of card).top_step) (rw (← card.header_is.top_is) less)))

    pub pair_cost : l ≤ n * card.header.top_step → {x : ℕ} → x ≡ operating_cost (show_of card) n l → Ok x ≡ answer (running_cost card.bytes.now n l)
    unfolding answer spec_of first_of can_serve
    pair_cost enough e =
        ap Ok e ∙ sym (on_card_passed _ _ _ card.accepted ∙ rw (le-leb _ _ in_rack, le-leb l (n * (show_of card).top_step) (served enough).serves))
