use Rattle.basics.specs.Core.{arith}
use Rattle.practice.proofs.TableLoop.{entry_room, difference_small, next_small, table_starts, table_turns, table_ends}
use Rattle.practice.proofs.put_table.Goals as goal

pub loop-k-init : goal.loop-k-init
loop-k-init c = search table_starts

pub put_entry-requires : goal.put_entry-requires
put_entry-requires c = search entry_room

pub next_difference-difference-requires : goal.next_difference-difference-requires
next_difference-difference-requires c = search difference_small

pub overflow_add-entry : goal.overflow_add-entry
overflow_add-entry c = search (next_small, arith)

pub loop-k-preserved : goal.loop-k-preserved
loop-k-preserved c = search table_turns

pub put_entry-requires-2 : goal.put_entry-requires-2
put_entry-requires-2 c = search entry_room

pub returns-clause-written : goal.returns-clause-written
returns-clause-written c = search table_ends
