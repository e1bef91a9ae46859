-- What is printed for a card, by its answer and the planner's: the line of a refusal, or the listing of the plan and sheet in the areas.
use Rattle.std.specs.Prelude.{ℕ, ◌*◌, ◌≤◌, ◌≡◌, refl, List, length, take}
use Rattle.basics.specs.Core.{sym, ◌∙◌, ap, arith, length-take, length-replicate}
use Rattle.model.specs.declared.Refusal.{Refusal}
use Rattle.model.specs.Answers.{Answer}
use Rattle.std.specs.Prelude.{Ok, Err}
use Rattle.model.specs.Answers.{refusal_number}
use Rattle.model.specs.Instance.{Instance}
use Rattle.model.specs.Plans.{sheet_of}
use Rattle.model.specs.Planners.{exact, work_bytes, planned_by}
use Rattle.model.specs.Listing.{listing, refused_line, exact_listing, printed, printed_for}
use Rattle.model.specs.Specs.{first_of, sheet_bytes, sheet_buffer, plan_buffer, any_short}
use Rattle.model.specs.Calls.{check_card, plan_show, make_sheet, spec_of, answer, plan_at_exit, sheet_at_exit}
use Rattle.laws.specs.Acceptance.{accepted_bounds}
use Rattle.theory.specs.SheetLaws.{sheet_length_lem}
use Rattle.theory.specs.Outcomes.{written_taken, best_fits, sheet_accepted, sheet_at_exit_lem, plan_at_exit_lem, planner_refused, planner_room}
use Rattle.card.specs.declared.Card.{Card}
use Rattle.card.specs.Shows.{show_of}
use Rattle.listing.specs.Texts.{Printable}
use Rattle.plan_program.specs.Program.{TextArea, PlannedText}

-- A card that is refused is printed as its refusal.
pub printed_invalid : (s : List ℕ) {x : Refusal} → answer (check_card s) ≡ Err x → refused_line (refusal_number x) ≡ printed s
unfolding printed printed_for
printed_invalid s e = rw (planner_refused exact s _ _ e)

-- The planner's answer depends on the lengths of its buffers alone.
same_lengths :
    (s p w q v : List ℕ) → length p ≡ length q → length w ≡ length v → answer (plan_show exact s p w) ≡ answer (plan_show exact s q v)
unfolding answer spec_of first_of any_short
same_lengths s p w q v e d = rw (e, d)

-- The program's areas, and the planner's answer.
module _
    (s p w : List ℕ) (plan_size : length p ≡ 1024) (work-size : length w ≡ 65536) {a : Answer}
    (is : a ≡ answer (plan_show exact s p w)) where
  as_printed : printed_for s a ≡ printed s
  unfolding printed
  as_printed =
      let plan = length-replicate {A = ℕ} 1024 0 in
      let work = length-replicate {A = ℕ} 65536 0 in
      ap (printed_for s) (is ∙ sym (same_lengths s _ _ p w (plan ∙ sym plan_size) (work ∙ sym work-size)))

  pub printed_refusal : {x : Refusal} → a ≡ Err x → refused_line (refusal_number x) ≡ printed s
  unfolding printed_for
  printed_refusal e = rw e at as_printed

  module _ {cost : ℕ} (success : a ≡ Ok cost) where
    pub printed_listing : exact_listing s cost ≡ printed s
    unfolding printed_for
    printed_listing = rw success at as_printed

-- The plan area after the planner, on an accepted card.
pub planned_text :
    (card : Card) (p w : List ℕ) → length w ≡ 65536 → {a : Answer} {cost : ℕ} {new out : List ℕ} → a ≡ answer (plan_show exact card.bytes.now p w) → a ≡ Ok cost →
    new ≡ plan_at_exit (plan_show exact card.bytes.now p w) → TextArea out → PlannedText card new out
planned_text card p w work-size {new = new} is success e text =
    let s = card.bytes.now in
    let i = show_of card in
    let answered = sym is ∙ success in
    let size = (best_fits exact s card.accepted refl).slotwise in
    let taken : take i.slots new ≡ planned_by exact i =
    rw (e, plan_at_exit_lem exact s p w) (written_taken (plan_buffer exact i p) i.slots answered size) in
    record {
      work = omega (arith, (planner_room exact s p w answered).1);
      slots = omega (arith, ap length taken, length-take i.slots new);
      is = taken;
      text = text;
    }

-- A planned card: the sheet call on its plan, and the listing.
module _ {card : Card} {plan out : List ℕ} (p : PlannedText card plan out) where
  abbrev i : Instance
  i = show_of card

  m : card.header.modules ≡ i.modules
  m = card.header_is.modules_is

  t : card.header.slots ≡ i.slots
  t = card.header_is.slots_is

  entries_few : card.header.modules * card.header.slots ≤ 65536
  unfolding work_bytes
  entries_few = rw (m, t) (omega (arith, p.work))

  pub entries_within : (x made : List ℕ) → length x ≡ 65536 → length made ≡ length x → card.header.modules * card.header.slots ≤ length made
  entries_within x made size same = omega (arith, entries_few)

  -- The sheet area before and after the sheet call.
  module _ (x made : List ℕ) (size : length x ≡ 65536) (e : made ≡ sheet_at_exit (make_sheet card.bytes.now (take card.header.slots plan) x)) where
    plan_is : take card.header.slots plan ≡ planned_by exact i
    plan_is = rw t p.is

    sheet_is : take (card.header.modules * card.header.slots) made ≡ sheet_of i (planned_by exact i)
    sheet_is =
        let few : sheet_bytes i ≤ length x = omega (arith, rw (m, t) at entries_few) in
        let success = (sheet_accepted exact _ card.accepted refl x few).0 in
        rw (e, plan_is, m, t, sheet_at_exit_lem _ (planned_by exact i) x)
        (written_taken (sheet_buffer i (planned_by exact i) x) (sheet_bytes i) success (sheet_length_lem i (planned_by exact i)))

    pub print_ready : Printable card.header.modules (take card.header.slots plan) (take (card.header.modules * card.header.slots) made) out
    print_ready =
        let slots = (best_fits exact _ card.accepted refl).slotwise in
        let entries = sheet_length_lem i (planned_by exact i) in
        let few = (accepted_bounds _ card.accepted).slots in
        let most = rw (m, t) at entries_few in
        rw (plan_is, sheet_is, m)
        (record { rack = record { entries = rw slots entries; slots = omega arith }; area = omega (arith, p.text.area) })

    pub print_done : (cost : ℕ) → listing card.header.modules cost (take card.header.slots plan) (take (card.header.modules * card.header.slots) made) ≡ exact_listing card.bytes.now cost
    print_done cost = rw (plan_is, sheet_is, m)
