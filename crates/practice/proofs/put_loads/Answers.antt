use Rattle.practice.proofs.LoadsLoop.{loads_start, load_room, loads_turn}
use Rattle.practice.proofs.put_loads.Goals as goal

pub loop-init : goal.loop-init
loop-init c = search loads_start

pub put_load-requires : goal.put_load-requires
put_load-requires c = search load_room

pub loop-preserved : goal.loop-preserved
loop-preserved c = search loads_turn
