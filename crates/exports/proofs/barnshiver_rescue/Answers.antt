use Rattle.std.proofs.Common.{◌∙◌, ap, arith}
use Rattle.std.specs.Prelude.{Err}
use Rattle.exports.proofs.RescueLaws.{place_small, told_saved, told_refused, told_none}
use Rattle.exports.proofs.barnshiver_rescue.Goals as goal

pub overflow_add-result : goal.overflow_add-result
overflow_add-result c =
    let p = place_small c.args.day.now c.args.output.now c.args.report.now c.min-head.ensures c.rescue.ensures (c.in-Err-Image.is ∙ ap Err c.in-Err-Image.field-0-is) in
    omega (arith, c.place.ensures, p)

pub returns-in-Ok : goal.returns-in-Ok
returns-in-Ok c = told_saved c.args.day.now c.args.output.now c.args.report.now c.min-head.ensures c.rescue.ensures c.in-Ok.is c.put_words.ensures

pub returns-in-Err-Image : goal.returns-in-Err-Image
returns-in-Err-Image c =
    told_refused c.args.day.now c.args.output.now c.args.report.now c.min-head.ensures c.rescue.ensures (c.in-Err-Image.is ∙ ap Err c.in-Err-Image.field-0-is) (c.from-in-Err-Image.ensures ∙ c.from.ensures) c.place.ensures

pub returns-in-Err-NoRoom : goal.returns-in-Err-NoRoom
returns-in-Err-NoRoom c =
    rw c.from-in-Err-NoRoom.ensures (told_none c.args.day.now c.args.output.now c.args.report.now c.min-head.ensures c.rescue.ensures (c.in-Err-NoRoom.is ∙ ap Err c.in-Err-NoRoom.field-0-is))
