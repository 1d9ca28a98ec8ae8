use Rattle.day_run.proofs.WholeLaws.{run_ended, run_over, run_full, run_cut}
use Rattle.state_room.specs.Holds.{rows_of}
use Rattle.day_run.proofs.run_whole.Goals as goal
use Rattle.day_run.proofs.run_whole.Goals.{then-piece-via-then-piece, then-piece-via-else-piece+then-piece-records, then-piece-via-else-piece+else-piece-records+then-out-piece-lt-LONGEST}

pub returns-then-piece : goal.returns-then-piece
returns-then-piece c =
    let a = c.args in
    let p = c.run_records-piece.ensures.pieced in
    let s = c.start.ensures.result_value in
    let d = rows_of c.start.result in
    elim c.then-piece.branch [
      | then-piece-via-then-piece w ↦ run_ended a.image.now a.records.now a.out.now d s p w.if-piece.true
      | then-piece-via-else-piece+then-piece-records w ↦ run_over a.image.now a.records.now a.out.now d s p w.if-piece.false w.if-piece-records.true
      | then-piece-via-else-piece+else-piece-records+then-out-piece-lt-LONGEST w ↦ run_full a.image.now a.records.now a.out.now d s p w.if-piece.false w.if-out-piece-lt-LONGEST.true
    ]

pub returns : goal.returns
returns c =
    run_cut c.args.image.now c.args.records.now c.args.out.now (rows_of c.start.result) c.start.ensures.result_value c.run_records-piece.ensures.pieced c.if-piece.false c.if-piece-records.false
    c.if-out-piece-lt-LONGEST.false c.write_refused.ensures
