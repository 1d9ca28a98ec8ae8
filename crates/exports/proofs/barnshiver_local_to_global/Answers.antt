use Rattle.std.proofs.Common.{ap, ◌∙◌}
use Rattle.tags.specs.Views.{mapped_global}
use Rattle.exports.proofs.ToldLaws.{mapped_written}
use Rattle.exports.proofs.MapLaws.{short_tag, tag_told, refusal_told}
use Rattle.exports.proofs.WordLaws.{bit_is}
use Rattle.exports.specs.Told.{mapped_bytes}
use Rattle.exports.proofs.barnshiver_local_to_global.Goals as goal

pub returns-then-tag-lt-MAPPED_BYTES : goal.returns-then-tag-lt-MAPPED_BYTES
returns-then-tag-lt-MAPPED_BYTES c = short_tag mapped_bytes 13 c.args.tag.now _ c.if-tag-lt-MAPPED_BYTES.true

pub returns-in-Ok : goal.returns-in-Ok
returns-in-Ok c =
    tag_told mapped_bytes 13 _ c.if-tag-lt-MAPPED_BYTES.false c.mapped_global.ensures (ap mapped_global c.in-Ok.is)
    (mapped_written _ _ c.put_tag-end.ensures (c.from.ensures ∙ bit_is _) c.put_number.ensures)

pub returns-in-Err : goal.returns-in-Err
returns-in-Err c =
    refusal_told mapped_bytes 13 _ c.if-tag-lt-MAPPED_BYTES.false c.mapped_global.ensures (ap mapped_global c.in-Err.is) c.from-in-Err.ensures
