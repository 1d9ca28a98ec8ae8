-- `day_records::formed_op` meets its contract. Assumes nothing.
use Rattle.std.proofs.Common.{◌∙◌}
use Rattle.std.proofs.lemmas.Result.{err_from_is_err_and}
use Rattle.day_records.proofs.Laws.{short_not, body_not, no_op, form_short, form_bit, form_many, form_long, form_fills}
use Rattle.day_records.proofs.formed_op.Goals as goal
use Rattle.day_records.proofs.formed_op.Goals.{then-body-lt-VERSION_AND_OP-via-then-body-lt-VERSION_AND_OP, then-body-lt-VERSION_AND_OP-via-else-body-lt-VERSION_AND_OP+then-body-ne-VERSION}
use Rattle.day_records.proofs.formed_op.Goals.{then-body-form-via-then-body-form, then-body-form-via-else-body-form+then-body-form-gt1}
use Rattle.day_records.proofs.formed_op.Goals.{then-more-via-then-more, then-more-via-else-more+then-body-form-2}

pub returns-then-body-lt-VERSION_AND_OP : goal.returns-then-body-lt-VERSION_AND_OP
returns-then-body-lt-VERSION_AND_OP c =
    elim c.then-body-lt-VERSION_AND_OP.branch [
      | then-body-lt-VERSION_AND_OP-via-then-body-lt-VERSION_AND_OP w ↦ short_not _ w.if-body-lt-VERSION_AND_OP.true
      | then-body-lt-VERSION_AND_OP-via-else-body-lt-VERSION_AND_OP+then-body-ne-VERSION w ↦ body_not _ w.if-body-ne-VERSION.true
    ]

pub returns-in_err-op : goal.returns-in_err-op
returns-in_err-op c =
    let p = err_from_is_err_and c.from_residual.result c.from_residual.ensures.1 in
    rw p.1 (no_op _ c.if-body-ne-VERSION.false c.in_err-op.ensures)

pub returns-then-body-form : goal.returns-then-body-form
returns-then-body-form c =
    elim c.then-body-form.branch [
      | then-body-form-via-then-body-form w ↦ form_short _ _ c.if-body-ne-VERSION.false c.in_ok-op.ensures c.form-form.ensures w.if-body-form.true
      | then-body-form-via-else-body-form+then-body-form-gt1 w ↦ form_bit _ _ c.if-body-ne-VERSION.false c.in_ok-op.ensures c.form-form.ensures w.if-body-form-gt1.true
    ]

pub returns-then-more : goal.returns-then-more
returns-then-more c =
    let n = c.from.ensures ∙ c.two_there.ensures in
    elim c.then-more.branch [
      | then-more-via-then-more w ↦ form_many _ _ c.if-body-ne-VERSION.false c.in_ok-op.ensures c.form-form.ensures n w.if-more.true
      | then-more-via-else-more+then-body-form-2 w ↦ form_long _ _ c.if-body-ne-VERSION.false c.in_ok-op.ensures c.form-form.ensures n w.if-body-form-2.true
    ]

pub returns : goal.returns
returns c =
    let n = c.from.ensures ∙ c.two_there.ensures in
    form_fills _ _ c.if-body-ne-VERSION.false c.in_ok-op.ensures c.form-form.ensures c.if-body-form-gt1.false n c.if-more.false c.if-body-form-2.false
