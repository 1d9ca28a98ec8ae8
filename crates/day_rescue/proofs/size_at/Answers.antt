-- `day_rescue::size_at` meets its contract. Assumes nothing.
use Rattle.day_rescue.proofs.PlaceLaws.{at_length, body_yes, body_no, size_short, size_few, size_broken, size_over}
use Rattle.day_rescue.proofs.size_at.Goals as goal
use Rattle.day_rescue.proofs.size_at.Goals.{else-n-left-via-then-n-left+else-is_formed, else-n-left-via-else-n-left}

pub returns-then-left-lt-LENGTH : goal.returns-then-left-lt-LENGTH
returns-then-left-lt-LENGTH c = size_few _ _ c.if-left-lt-LENGTH.true

pub returns-then-is_formed : goal.returns-then-is_formed
returns-then-is_formed c =
    body_yes _ _ (at_length _ _ (rw c.in-Ok-Some.field-0-is at c.in-Ok-Some.ensures)) c.if-n-left.true c.is_formed.ensures c.if-is_formed.true

pub returns-else-n-left : goal.returns-else-n-left
returns-else-n-left c =
    let l = at_length _ _ (rw c.in-Ok-Some.field-0-is at c.in-Ok-Some.ensures) in
    elim c.else-n-left.branch [
      | else-n-left-via-then-n-left+else-is_formed w ↦ body_no _ _ l w.if-n-left.true w.is_formed.ensures w.if-is_formed.false
      | else-n-left-via-else-n-left w ↦ size_short _ _ l w.if-n-left.false
    ]

pub returns-in-Ok-None : goal.returns-in-Ok-None
returns-in-Ok-None c = size_over _ _ (at_length _ _ (rw c.in-Ok-None.field-0-is at c.in-Ok-None.ensures))

pub returns-in-Err : goal.returns-in-Err
returns-in-Err c = size_broken _ _ (at_length _ _ c.in-Err.ensures)
