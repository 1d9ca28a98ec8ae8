-- `byte_writer::put_number` meets its contract: the higher bytes first, one fewer of them. Assumes nothing.
use Rattle.byte_writer.proofs.+put_number.Given as goal

abbrev pub decreases-put_number : goal.decreases-put_number
decreases-put_number l = l.width
