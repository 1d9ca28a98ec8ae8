-- `byte_writer::shift` meets its contract. Assumes nothing.
use Prim.Native.Nat.{◌-◌}
use native.Mathlib.Omega.{arith}
use lib.ListN.{drop, length-drop}
use Rattle.byte_writer.proofs.WrittenLaws.{written_paste}
use Rattle.byte_writer.proofs.shift.Goals as goal

pub returns : goal.returns
returns c =
    let a = c.args in
    rw c.copy_within.ensures.after
    (written_paste a.buffer.now 0 (drop a.from a.buffer.now) (a.end - a.from) (omega arith) (rw length-drop (omega (arith, c.requires.1))) (omega (arith, c.requires.1)))
