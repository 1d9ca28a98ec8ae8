-- `call_pop_ready::sift` meets its contract: one event a turn is gathered or stays. Assumes nothing.
use Rattle.state_queues.specs.Queue.{goes_of}
use Rattle.call_pop_ready.proofs.SiftLaws.{Sifting}
use Rattle.call_pop_ready.proofs.sift.Given as goal

abbrev pub invariant-loop-i : goal.invariant-loop-i
invariant-loop-i l = Sifting l.queue (goes_of l.which) l.initial.rows l.n l.initial.out l.initial.keys l.i l.w l.ordinary l.lowest l.rows l.out l.keys
