use Rattle.std.specs.Prelude.{◌≤◌}
use Rattle.basics.specs.Core.{sym, ◌∙◌, arith, length-take-le}
use Rattle.laws.specs.Acceptance.{accepted_bounds}
use Rattle.card.specs.declared.Card.{Card}
use Rattle.explanation.proofs.points_of.Goals as goal

-- The longest show has 1,024 slots.
slots-most : (card : Card) → card.header.slots ≤ 1024
slots-most card = omega (arith, card.header_is.slots_is, (accepted_bounds _ card.accepted).slots)

pub slice_bounds-counts-end : goal.slice_bounds-counts-end
slice_bounds-counts-end c = slots-most c.args.card.now

pub slice_bounds-points_over-end : goal.slice_bounds-points_over-end
slice_bounds-points_over-end c = sym (length-take-le _ _ (slots-most c.args.card.now))

pub points_over-requires-clause-points_room : goal.points_over-requires-clause-points_room
points_over-requires-clause-points_room c =
    let card = c.args.card.now in
    record {
      slotwise = length-take-le _ _ (slots-most card) ∙ card.header_is.slots_is;
      work_room = c.requires.work_room;
    }
