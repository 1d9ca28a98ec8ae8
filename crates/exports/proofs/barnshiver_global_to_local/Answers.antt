use mathlib.Core.Path.{ap}
use Rattle.tags.specs.Views.{mapped_local}
use Rattle.exports.specs.Told.{tag_bytes}
use Rattle.exports.proofs.MapLaws.{short_tag, tag_told, refusal_told}
use Rattle.exports.proofs.barnshiver_global_to_local.Goals as goal

pub returns-then-tag-lt-TAG_BYTES : goal.returns-then-tag-lt-TAG_BYTES
returns-then-tag-lt-TAG_BYTES c = short_tag tag_bytes 12 c.args.tag.now _ c.if-tag-lt-TAG_BYTES.true

pub returns-in-Ok : goal.returns-in-Ok
returns-in-Ok c =
    tag_told tag_bytes 12 _ c.if-tag-lt-TAG_BYTES.false c.mapped_local.ensures (ap mapped_local c.in-Ok.is) c.put_tag.ensures

pub returns-in-Err : goal.returns-in-Err
returns-in-Err c =
    refusal_told tag_bytes 12 _ c.if-tag-lt-TAG_BYTES.false c.mapped_local.ensures (ap mapped_local c.in-Err.is) c.from.ensures
