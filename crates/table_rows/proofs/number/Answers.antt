-- `table_rows::number` meets its contract: with each byte the number is one byte wider. Assumes nothing.
use mathlib.Core.Path.{refl}
use native.Mathlib.Omega.{arith}
use lib.Dec.{lit<}
use borrow.Author.Rules.{rules}
use Rattle.table_rows.specs.Bytes.{be, be_next, be_room}
use Rattle.table_rows.proofs.Laws.{be_fits}
use Rattle.table_rows.proofs.number.Goals as goal

pub loop-k-init : goal.loop-k-init
unfolding be
loop-k-init c = (refl, search rules)

pub overflow_mul-n : goal.overflow_mul-n
overflow_mul-n c = omega (arith, be_fits _ _ _ 0 c.loop-k.invariant.1 (lit< tt) c.loop-k-test.true c.requires)

pub overflow_add-n : goal.overflow_add-n
overflow_add-n c = record { fits = be_fits _ _ _ _ c.loop-k.invariant.1 c.byte.ensures.1 c.loop-k-test.true c.requires }

pub loop-k-preserved : goal.loop-k-preserved
loop-k-preserved c =
    let l = c.loop-k.invariant in
    let b = c.byte.ensures in
    (be_next _ _ _ _ _ l.0 b.0, be_room _ _ _ l.1 b.1)
