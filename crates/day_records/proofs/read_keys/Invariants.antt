-- `day_records::read_keys` meets its contract: one key more a turn, over the front of the array. Assumes nothing.
use mathlib.Core.Path.{◌≡◌}
use Rattle.lists.specs.Lists.{over}
use Rattle.lists.specs.Rows.{tab}
use Rattle.day_records.specs.Records.{key_at}
use Rattle.day_records.proofs.read_keys.Given as goal

abbrev pub invariant-loop-k : goal.invariant-loop-k
invariant-loop-k l = l.keys ≡ over (tab (key_at l.body l.at) 0 l.k) l.initial.keys
