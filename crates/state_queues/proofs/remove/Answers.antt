-- `state_queues::remove` meets its contract: what stays is laid over the rows. Assumes nothing.
use Rattle.state_queues.specs.Queue.{goes_of}
use Rattle.state_queues.proofs.TakeLaws.{remove_room, remove_held}
use Rattle.state_queues.proofs.remove.Goals as goal

pub clear-requires-clause-w_le_n : goal.clear-requires-clause-w_le_n
clear-requires-clause-w_le_n c = (remove_room (goes_of c.args.which) c.args.rows.now c.args.n c.compact-r.result.count c.compact-r.ensures.count_value, c.requires.n_le_room_for_events)

pub returns-clause-held : goal.returns-clause-held
returns-clause-held c =
    remove_held (goes_of c.args.which) c.args.rows.now c.args.n c.compact-r.result.count c.compact-r.new.rows c.clear.new.rows c.requires.n_le_room_for_events
    c.compact-r.ensures.count_value c.compact-r.ensures.held c.clear.ensures
