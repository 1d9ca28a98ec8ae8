-- `byte_writer::copy_text` meets its contract: one byte more a turn. Assumes nothing.
use Prim.Native.Nat.{◌+◌}
use lib.ListN.{take}
use Rattle.byte_writer.specs.Written.{Written}
use Rattle.byte_writer.proofs.copy_text.Given as goal

abbrev pub invariant-loop-i : goal.invariant-loop-i
invariant-loop-i l = Written l.initial.buffer l.at (take l.i l.text) l.buffer (l.at + l.i)
