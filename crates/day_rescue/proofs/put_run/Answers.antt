-- `day_rescue::put_run` meets its contract. Assumes nothing.
use Rattle.byte_writer.proofs.WrittenLaws.{written_none, written_then, written_as}
use Rattle.day_rescue.proofs.ListLaws.{run_none, run_some}
use Rattle.day_rescue.proofs.put_run.Goals as goal

pub returns-then-run-eq0 : goal.returns-then-run-eq0
returns-then-run-eq0 c = written_as (written_none _ _ c.requires) (run_none _ _ c.if-run-eq0.true)

pub returns : goal.returns
returns c =
    written_as (written_then c.put_number-next.ensures c.put_number.ensures) (run_some _ _ c.if-run-eq0.false)
