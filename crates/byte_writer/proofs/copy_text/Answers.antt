-- `byte_writer::copy_text` meets its contract: one byte more a turn. Assumes nothing.
use Rattle.byte_writer.proofs.WrittenLaws.{copied_next}
use Rattle.byte_writer.proofs.copy_text.Goals as goal

pub loop-i-preserved : goal.loop-i-preserved
loop-i-preserved c = copied_next _ _ c.requires c.loop-i-test.true c.loop-i.invariant
