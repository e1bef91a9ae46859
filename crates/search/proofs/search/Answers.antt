use Rattle.basics.specs.Core.{arith, length-take-le}
use Rattle.search.proofs.PlanFound.{rounds_ready, places_found, plan_found, cleared_whole}
use Rattle.search.proofs.search.Goals as goal

pub rounds-requires : goal.rounds-requires
rounds-requires c =
    rounds_ready c.requires c.powers_up_to-digits.ensures c.fill.ensures
    (length-take-le _ _ (omega arith))

pub to_counts-requires : goal.to_counts-requires
to_counts-requires c =
    places_found c.requires c.powers_up_to-digits.ensures c.fill.ensures c.rounds.ensures
    c.rounds.auto.plan

pub returns : goal.returns
returns c =
    record {
      plan = plan_found c.requires c.powers_up_to-digits.ensures c.fill.ensures c.rounds.ensures c.rounds.auto.plan c.to_counts.ensures;
      work =
          cleared_whole c.rounds.new.sides c.args.work.now (omega arith)
          c.rounds.auto.sides c.fill-2.ensures;
    }
