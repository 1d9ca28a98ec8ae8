-- `day_run::run_records` meets its contract: the lines so far are written, and the arrays hold the state after the records so far. Assumes nothing.
use mathlib.Core.Path.{refl, ◌∙◌}
use native.Mathlib.Omega.{arith}
use Rattle.byte_writer.proofs.WrittenLaws.{written_long}
use Rattle.state_room.proofs.Holds.{kept_waits}
use Rattle.day_run.proofs.RunLaws.{running_begins, room_left, fits, keeps_on, runs_on, stops_room, stops_pending, stops_broken, ends_here, ends_broken}
use borrow.Author.Rules.{rules}
use Rattle.day_run.proofs.run_records.Goals as goal

pub heads-heads-requires : goal.heads-heads-requires
heads-heads-requires c = (kept_waits c.requires).few

pub loop-out-init : goal.loop-out-init
loop-out-init c =
    (running_begins c.args.bytes.now c.args.out.now c.requires, search rules, search rules, refl, c.heads-heads.ensures, search rules)

pub overflow_sub-out : goal.overflow_sub-out
overflow_sub-out c = room_left c.loop-out.invariant.0

pub next_at-requires : goal.next_at-requires
next_at-requires c = c.loop-out.invariant.0.inside

pub write_refused-written-requires : goal.write_refused-written-requires
write_refused-written-requires c = room_left c.loop-out.invariant.0

pub read-parsed-requires : goal.read-parsed-requires
read-parsed-requires c =
    let i = c.loop-out.invariant in
    (fits i.0 c.loop-out-test.true (rw c.in-Ok-Some.field-0-is at c.in-Ok-Some.ensures), i.1)

pub take_record-taken-requires : goal.take_record-taken-requires
take_record-taken-requires c =
    let i = c.loop-out.invariant in
    record { kept = keeps_on i.0; headed = i.4; actions_len = (i.2, rw (c.read-parsed.ensures.long ∙ i.1) c.read-parsed.ensures.few, omega (arith, i.5)) }

pub say-written-requires : goal.say-written-requires
say-written-requires c =
    record { at_in_bounds = room_left c.loop-out.invariant.0; actions_len = c.take_record-taken.ensures.actions_len_2 }

pub overflow_add-used : goal.overflow_add-used
overflow_add-used c =
    let h = fits c.loop-out.invariant.0 c.loop-out-test.true (rw c.in-Ok-Some.field-0-is at c.in-Ok-Some.ensures) in search rules

pub overflow_add-used-in-Ok-Some : goal.overflow_add-used-in-Ok-Some
overflow_add-used-in-Ok-Some c =
    let h = fits c.loop-out.invariant.0 c.loop-out-test.true (rw c.in-Ok-Some.field-0-is at c.in-Ok-Some.ensures) in search rules

pub loop-out-smaller : goal.loop-out-smaller
loop-out-smaller c =
    let h = fits c.loop-out.invariant.0 c.loop-out-test.true (rw c.in-Ok-Some.field-0-is at c.in-Ok-Some.ensures) in
    omega (arith, h)

pub loop-out-preserved : goal.loop-out-preserved
loop-out-preserved c =
    let i = c.loop-out.invariant in
    let w = rw c.in-Ok-Some.field-0-is at c.in-Ok-Some.ensures in (
      runs_on i.0 c.loop-out-test.true w c.read-parsed.ensures c.take_record-taken.ensures.taking c.say-written.ensures (omega arith),
      c.read-parsed.ensures.long ∙ i.1,
      c.take_record-taken.ensures.actions_len_2.0,
      i.3,
      c.take_record-taken.ensures.headed_2,
      search rules,
    )

pub returns-after-loop-out : goal.returns-after-loop-out
returns-after-loop-out c =
    let i = c.loop-out.invariant in
    let whole = ends_here i.0 (stops_room i.0 c.loop-out-test.false) i.3 in record { kept = whole.0; pieced = whole.1 }

pub shape_of-out-after-loop-out : goal.shape_of-out-after-loop-out
shape_of-out-after-loop-out c = written_long (returns-after-loop-out c).pieced.lines

pub returns-in-Ok-None : goal.returns-in-Ok-None
returns-in-Ok-None c =
    let i = c.loop-out.invariant in
    let whole = ends_here i.0 (stops_pending i.0 c.loop-out-test.true (rw c.in-Ok-None.field-0-is at c.in-Ok-None.ensures)) i.3 in record { kept = whole.0; pieced = whole.1 }

pub shape_of-out-in-Ok-None : goal.shape_of-out-in-Ok-None
shape_of-out-in-Ok-None c = written_long (returns-in-Ok-None c).pieced.lines

pub returns-in-Err : goal.returns-in-Err
returns-in-Err c =
    let g = c.loop-out.invariant.0 in
    let whole = ends_broken g (stops_broken g c.loop-out-test.true c.in-Err.ensures) c.write_refused-written.ensures in record { kept = whole.0; pieced = whole.1 }

pub shape_of-out-in-Err : goal.shape_of-out-in-Err
shape_of-out-in-Err c = written_long (returns-in-Err c).pieced.lines
