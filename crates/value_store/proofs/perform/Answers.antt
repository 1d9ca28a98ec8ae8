-- `value_store::perform` meets its contract: a law for each call. Assumes nothing.
use Rattle.value_store.proofs.Laws.{widened, call_push, call_next, call_take, call_clear_before, call_clear, call_move}
use Rattle.value_store.proofs.perform.Goals as goal

pub returns-in-Push : goal.returns-in-Push
returns-in-Push c = search call_push

pub returns-in-NextMicrostep : goal.returns-in-NextMicrostep
returns-in-NextMicrostep c = let e = widened c.next_microstep-next.result c.map.result c.map.ensures.cases in let h = rw e at c.said.ensures in search call_next

pub returns-in-Take : goal.returns-in-Take
returns-in-Take c = search call_take

pub returns-in-ClearOlderThan : goal.returns-in-ClearOlderThan
returns-in-ClearOlderThan c = search call_clear_before

pub returns-in-Clear : goal.returns-in-Clear
returns-in-Clear c = search call_clear

pub returns-in-MoveValue : goal.returns-in-MoveValue
returns-in-MoveValue c = search call_move
