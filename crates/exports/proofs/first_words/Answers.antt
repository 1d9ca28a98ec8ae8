use Rattle.std.proofs.Common.{◌∙◌}
use Rattle.exports.proofs.WordLaws.{first_are, three_are, bit_is}
use Rattle.exports.proofs.first_words.Goals as goal

pub returns : goal.returns
returns c =
    first_are c.requires c.peek_tag-peeked.result c.heads-heads.ensures c.peek_tag-peeked.ensures (three_are _ c.peek_words.ensures)
    c.peek_is_control_only-only.ensures (c.from.ensures ∙ bit_is _)
