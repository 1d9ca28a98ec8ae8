-- `call_pop_ready::take_out` meets its contract: what stays is laid over the rows. Assumes nothing.
use Rattle.state_queues.specs.Queue.{goes_of}
use Rattle.state_queues.proofs.TakeLaws.{remove_room, remove_held}
use Rattle.call_pop_ready.proofs.take_out.Goals as goal

pub clear-requires-clause-w_le_n : goal.clear-requires-clause-w_le_n
clear-requires-clause-w_le_n c =
    (remove_room (goes_of c.args.which) c.args.rows.now c.args.n c.sift-r.result.count c.sift-r.ensures.sifted.left, c.requires.whole.1)

pub returns-clause-held : goal.returns-clause-held
returns-clause-held c =
    remove_held (goes_of c.args.which) c.args.rows.now c.args.n c.sift-r.result.count c.sift-r.new.rows c.clear.new.rows c.requires.whole.1
    c.sift-r.ensures.sifted.left c.sift-r.ensures.held c.clear.ensures
