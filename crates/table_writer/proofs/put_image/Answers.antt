-- `table_writer::put_image` meets its contract: one piece behind the other. Assumes nothing.
use Rattle.table_writer.proofs.WriterLaws.{image_written}
use Rattle.table_writer.proofs.put_image.Goals as goal

pub returns : goal.returns
returns c =
    image_written _ _ c.put_number-version_at.ensures c.put-counts_at.ensures c.write_text-rows_at.ensures c.write_text.ensures
