-- `call_push::keys_of` meets its contract. Assumes nothing.
use Rattle.call_push.proofs.PushLaws.{Keying}
use Rattle.call_push.proofs.keys_of.Given as goal

abbrev pub invariant-loop-k : goal.invariant-loop-k
invariant-loop-k l = Keying l.n l.keys l.k-index l.set.words
