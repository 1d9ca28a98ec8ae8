-- `byte_writer::write_text` meets its contract. Assumes nothing.
use Rattle.byte_writer.proofs.WrittenLaws.{written_part}
use Rattle.byte_writer.proofs.write_text.Goals as goal

pub returns : goal.returns
returns c = written_part _ _ c.min-n.ensures c.requires c.copy_text.ensures.written
