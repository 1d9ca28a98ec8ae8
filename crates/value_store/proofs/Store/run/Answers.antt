-- `value_store::Store::run` meets its contract: refused, or the call on rows laid over the arrays. Assumes nothing.
use native.Mathlib.Omega.{arith}
use Rattle.store_words.specs.Words.{zero_values, zero_buckets}
use Rattle.value_store.proofs.Laws.{run_lent, run_eleven, run_called}
use Rattle.value_store.proofs.Store.run.Goals as goal

pub lay-requires : goal.lay-requires
lay-requires c = (omega arith, zero_values)

pub lay-requires-2 : goal.lay-requires-2
lay-requires-2 c = (omega arith, zero_buckets)

pub returns-then-not-is_sound : goal.returns-then-not-is_sound
returns-then-not-is_sound c = search run_eleven

pub call_rows-called-requires : goal.call_rows-called-requires
call_rows-called-requires c = search run_lent

pub returns : goal.returns
returns c = search run_called
