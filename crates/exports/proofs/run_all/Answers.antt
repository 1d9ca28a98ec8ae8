-- Piece by piece, until a length is bad or nothing more is taken.
use Rattle.std.proofs.Common.{◌≡◌, ◌+◌, ◌-◌, ◌<◌, length, drop, sym, ap, ◌∙◌, arith, rules}
use Rattle.byte_writer.proofs.WrittenLaws.{written_long}
use Rattle.state_room.specs.Holds.{rows_of, state_in}
use Rattle.exports.proofs.AfterLaws.{after_in, after_begins, all_ends, all_rests, all_on, all_inside, all_over}
use Rattle.exports.proofs.run_all.Goals as goal
use Rattle.exports.proofs.run_all.Goals.{then-piece-via-then-piece, then-piece-via-else-piece+then-piece-eq0}

pub loop-init : goal.loop-init
loop-init c =
    let all : length c.args.records.now ≡ length c.args.records.now - 0 = omega arith in
    record {
      kept = c.start-day.ensures.kept;
      inside = omega arith;
      room = search rules;
      after =
          after_begins c.args.image.now c.args.records.now (rows_of c.start-day.result) c.start-day.ensures.result_value ∙
          ap (λ n. after_in n c.args.image.now c.args.records.now (state_in c.args.image.now (rows_of c.start-day.result))) all;
    }

pub returns-then-piece-clause-result_value : goal.returns-then-piece-clause-result_value
returns-then-piece-clause-result_value c =
    let i = c.loop.invariant in
    let w = c.run_records-piece.ensures.pieced in
    let left : 0 < length c.args.records.now - c.loop.counter = omega (arith, c.loop-test.true) in
    elim c.then-piece.branch [
      | then-piece-via-then-piece b ↦ all_ends _ _ c.loop.at _ (rows_of c.loop.day) c.run_records-piece.result _ _ i.kept i.room i.after left w b.if-piece.true
      | then-piece-via-else-piece+then-piece-eq0 b ↦
          all_rests _ _ c.loop.at _ (rows_of c.loop.day) c.run_records-piece.result _ _ i.kept i.room i.after left w b.if-piece.false b.if-piece-eq0.true
    ]

pub loop-preserved : goal.loop-preserved
loop-preserved c =
    let i = c.loop.invariant in
    let w = c.run_records-piece.ensures.pieced in
    let left : 0 < length c.args.records.now - c.loop.counter = omega (arith, c.loop-test.true) in
    let one_less : length c.args.records.now - c.loop.counter - 1 ≡ length c.args.records.now - (c.loop.counter + 1) = omega arith in
    record {
      kept = c.run_records-piece.ensures.kept;
      inside = all_inside _ _ c.loop.at _ (rows_of c.loop.day) c.run_records-piece.result _ _ i.kept i.room i.after left w i.inside;
      room = i.room ∙ sym (written_long w.lines);
      after =
          all_on _ _ c.loop.at _ (rows_of c.loop.day) c.run_records-piece.result _ _ i.kept i.room i.after left w c.if-piece.false c.if-piece-eq0.false ∙
          ap (λ n. after_in n c.args.image.now (drop (c.loop.at + c.run_records-piece.result.used) c.args.records.now) (state_in c.args.image.now (rows_of c.run_records-piece.result.day))) one_less;
    }

pub returns-clause-result_value : goal.returns-clause-result_value
returns-clause-result_value c = all_over _ _ c.loop.at _ (rows_of c.loop.day) (omega (arith, c.loop-test.false)) c.loop.invariant.after
