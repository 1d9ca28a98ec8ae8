-- `tags::settle` meets its contract. Assumes nothing.
use native.Mathlib.Omega.{arith}
use Rattle.tags.proofs.Laws.{settled_tag_lem, settled_offset, settled_microstep}
use Rattle.tags.proofs.settle.Goals as goal
use Rattle.tags.proofs.settle.Goals.{else-offset-le-MAX_OFFSET-via-then-offset-le-MAX_OFFSET+else-microstep-from, else-offset-le-MAX_OFFSET-via-else-offset-le-MAX_OFFSET}

pub returns-then-microstep-from : goal.returns-then-microstep-from
returns-then-microstep-from g c = settled_tag_lem _ c.in-At.is (omega arith) (omega arith) c.new.ensures

pub returns-else-offset-le-MAX_OFFSET : goal.returns-else-offset-le-MAX_OFFSET
returns-else-offset-le-MAX_OFFSET g c =
    elim c.else-offset-le-MAX_OFFSET.branch [
      | else-offset-le-MAX_OFFSET-via-then-offset-le-MAX_OFFSET+else-microstep-from w ↦ settled_microstep _ c.in-At.is (omega arith) (omega arith)
      | else-offset-le-MAX_OFFSET-via-else-offset-le-MAX_OFFSET w ↦ settled_offset _ c.in-At.is (omega arith)
    ]
