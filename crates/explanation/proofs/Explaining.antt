-- The explanation of a sheet, by its tests: the points that it returns, and its work buffer at exit.
use Rattle.std.specs.Prelude.{ℕ, ◌≤◌, ◌<◌, ◌≡◌, refl, List, length, replicate, Result, Ok, Err}
use Rattle.basics.specs.Core.{sym, ap, ◌∙◌, arith}
use Rattle.basics.specs.Lists.{written_over}
use Rattle.model.specs.declared.Refusal.{Refusal}
use Rattle.model.specs.declared.Refusal.TheVariants.{BufferTooShort}
use Rattle.model.specs.declared.Points.{Points}
use Rattle.model.specs.Answers.{Answer, number_of, cost_of}
use Rattle.model.specs.Planners.{exact, work_bytes}
use Rattle.model.specs.Specs.{at_exit}
use Rattle.model.specs.Calls.{mark_sheet, explain_sheet, check_card, answer}
use Rattle.model.specs.ExplainedPoints.{explained_work, points_with, points_of}
use Rattle.theory.specs.Outcomes.{mark_number, mark_accepts}
use Rattle.theory.specs.ExplainedSheets.{work_left, explain_refused, explain_short, explain_unmarked, explain_marked}
use Rattle.card.specs.declared.Card.{Card}
use Rattle.card.specs.Shows.{show_of}
use Rattle.explanation.specs.ExplainedAs.{points_from}
use Rattle.explanation.specs.ExplanationRequires.{Marked}

-- A result and a buffer are those of an explanation at exit.
abbrev pub Explained : (c s w : List ℕ) → Result Points Refusal → (work : List ℕ) → Type 0
Explained c s w r work = (points_from r ≡ points_of c s w) × (work ≡ explained_work (explain_sheet c s w))

module _ (c s w : List ℕ) where
  -- A refusal leaves the buffer as it was.
  kept : {x : Refusal} → answer (explain_sheet c s w) ≡ Err x → Explained c s w (Err x) w
  unfolding points_of points_with at_exit
  kept e = (rw e refl, rw (work_left c s w, e))

  pub refused_card : {x : Refusal} → answer (check_card c) ≡ Err x → Explained c s w (Err x) w
  refused_card e = kept (explain_refused c s w e)

module _ (card : Card) (s w : List ℕ) where
  abbrev c : List ℕ
  c = card.bytes.now

  module _ {n : ℕ} (n-is : n ≡ work_bytes exact (show_of card)) where
    pub refused_short : length w < n → Explained c s w (Err BufferTooShort) w
    refused_short less = kept c s w (explain_short c s w card.accepted (omega arith))

    module _ (room : n ≤ length w) {a : Answer} (is : a ≡ answer (mark_sheet c s)) where
      enough : work_bytes exact (show_of card) ≤ length w
      enough = omega arith

      pub refused_sheet : {x : Refusal} → a ≡ Err x → Explained c s w (Err x) w
      refused_sheet e = kept c s w (explain_unmarked c s w card.accepted enough (sym is ∙ e))

      pub explained :
          {cost : ℕ} {p : Points} {work : List ℕ} → a ≡ Ok cost → p ≡ points_with (Ok 0) (show_of card) s →
          work ≡ written_over (replicate (work_bytes exact (show_of card)) 0) w → Explained c s w (Ok p) work
      unfolding points_of at_exit
      explained e found cleared =
          let given = explain_marked c s w card.accepted enough (sym is ∙ e) in (rw given found, cleared ∙ rw (work_left c s w, given))

-- Where marking gives a cost, it is that of a sheet that serves.
pub sheet_marked :
    (card : Card) (s : List ℕ) {a : Answer} {cost : ℕ} → a ≡ answer (mark_sheet card.bytes.now s) → a ≡ Ok cost → Marked card s cost
sheet_marked card s {a} {cost} is e =
    let given : answer (mark_sheet card.bytes.now s) ≡ Ok cost = sym is ∙ e in
    let served = ((mark_number card.bytes.now s).0 (ap number_of given)).1 in
    let full = (mark_accepts card.bytes.now s card.accepted).1 served in
    record { served = served; cost_is = ap cost_of (sym given ∙ full) }
