use Rattle.std.proofs.Common.{refl}
use Rattle.exports.proofs.AnswerLaws.{short_place, check_told_lem}
use Rattle.exports.proofs.barnshiver_check_table.Goals as goal

pub returns-then-place-lt-PLACE_BYTES : goal.returns-then-place-lt-PLACE_BYTES
returns-then-place-lt-PLACE_BYTES c = short_place c.args.place.now _ c.if-place-lt-PLACE_BYTES.true

pub returns-in-Ok : goal.returns-in-Ok
returns-in-Ok c = check_told_lem c.if-place-lt-PLACE_BYTES.false c.in-Ok.ensures refl refl c.put_number.ensures

pub returns-in-Err : goal.returns-in-Err
returns-in-Err c = check_told_lem c.if-place-lt-PLACE_BYTES.false c.in-Err.ensures c.place.ensures c.from.ensures c.put_number-in-Err.ensures
