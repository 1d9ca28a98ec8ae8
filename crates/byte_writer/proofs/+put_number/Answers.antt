-- `byte_writer::put_number` meets its contract: the higher bytes first, then the lowest. Assumes nothing.
use Rattle.byte_writer.proofs.WrittenLaws.{written_none, written_room, written_long, written_then, written_as}
use Rattle.byte_writer.proofs.NumberLaws.{number_none, number_more}
use Rattle.byte_writer.proofs.+put_number.Goals as goal

pub returns-then-width-eq0 : goal.returns-then-width-eq0
returns-then-width-eq0 t c = written_as (written_none _ _ c.requires) (number_none _ _ c.if-width-eq0.true)

pub put-requires : goal.put-requires
put-requires t c = written_room c.put_number-next.ensures

pub shape_of-bytes : goal.shape_of-bytes
shape_of-bytes t c = written_long (written_then c.put_number-next.ensures c.put.ensures)

pub returns : goal.returns
returns t c = written_as (written_then c.put_number-next.ensures c.put.ensures) (number_more _ _ c.if-width-eq0.false)
