use Rattle.std.proofs.Common.{◌∙◌, arith}
use Rattle.exports.proofs.AnswerLaws.{write_small, write_told_lem}
use Rattle.exports.proofs.barnshiver_write_table.Goals as goal

pub overflow_add-result : goal.overflow_add-result
overflow_add-result c =
    let p = write_small _ _ _ c.write-answer.ensures in
    omega (arith, c.from.ensures, c.place_of.ensures, p)

pub returns : goal.returns
returns c = write_told_lem _ _ _ c.write-answer.ensures (c.from.ensures ∙ c.number_of.ensures) c.place_of.ensures
