use Rattle.exports.proofs.ToldLaws.{tag_written}
use Rattle.exports.proofs.put_tag.Goals as goal

pub returns : goal.returns
returns c = tag_written c.args.offset c.args.microstep c.put_number-next.ensures (rw c.from.ensures at c.put_number.ensures)
