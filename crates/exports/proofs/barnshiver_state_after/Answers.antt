use Rattle.std.proofs.Common.{sym}
use Rattle.day_run.proofs.WholeLaws.{open_fits, open_table}
use Rattle.state_room.specs.Holds.{rows_of}
use Rattle.exports.proofs.AnswerLaws.{short_state, image_refused, all_told}
use Rattle.exports.proofs.barnshiver_state_after.Goals as goal

pub returns-then-state-lt-STATE_BYTES : goal.returns-then-state-lt-STATE_BYTES
returns-then-state-lt-STATE_BYTES c = short_state c.args.day.now c.args.state.now c.if-state-lt-STATE_BYTES.true

pub split_at-requires : goal.split_at-requires
split_at-requires c = rw c.image_end.ensures (open_fits c.args.day.now (sym c.in-Ok.ensures))

pub run_all-requires : goal.run_all-requires
run_all-requires c = rw (c.split_at.ensures.front, c.image_end.ensures) (open_table c.args.day.now (sym c.in-Ok.ensures))

pub returns-in-Ok : goal.returns-in-Ok
returns-in-Ok c =
    all_told c.args.day.now c.if-state-lt-STATE_BYTES.false c.open.ensures c.in-Ok.is c.image_end.ensures c.split_at.ensures.back (rows_of c.run_all.result)
    (rw c.split_at.ensures.front at c.run_all.ensures.result_value) (rw c.split_at.ensures.front at c.put_state.ensures)

pub returns-in-Err : goal.returns-in-Err
returns-in-Err c = image_refused c.args.day.now c.if-state-lt-STATE_BYTES.false c.open.ensures c.in-Err.is c.from.ensures
