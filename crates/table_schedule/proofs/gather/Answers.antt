-- `table_schedule::gather` meets its contract. Assumes nothing.
use Rattle.std.proofs.Common.{◌≡◌, ℕ, ◌+◌, List, sym, ap, ◌∙◌, arith, Bor}
use Rattle.lists.specs.Steps.{fold_end}
use Rattle.key_set.specs.Sets.{insert_key}
use Rattle.table_rows.specs.Bytes.{be}
use Rattle.table_schedule.proofs.Laws.{two_moves, row_first, row_next, gather_first, gather_next}
use Rattle.table_schedule.proofs.gather.Goals as goal

pub loop-init : goal.loop-init
loop-init g c =
    record {
      image = ap (λ (y : Bor (List ℕ)). y.now) c.new-reader.ensures.0;
      low = omega (arith, c.new-reader.ensures.1, c.place.ensures.1);
      place = row_first _ _ _ (c.new-reader.ensures.1 ∙ c.place.ensures.0);
      done = λ test e. gather_first _ _ test _ _ c.count-end.ensures c.empty-set.ensures;
    }

pub loop-preserved : goal.loop-preserved
loop-preserved g c =
    let v = c.loop.invariant in
    let j = c.loop.counter in
    let s = c.args.image.now in
    let on = two_moves j c.args.gap v.low (omega (arith, c.count-end.type_inv)) c.requires.fits.1 c.moved-reader.ensures.1 c.moved-reader-in-loop.ensures.1 in
    let i : c.moved-reader.result.image.now ≡ s = ap (λ (y : Bor (List ℕ)). y.now) c.moved-reader.ensures.0 ∙ v.image in
    let x : c.word-x.result ≡ be 2 s c.loop.reader.place = c.word-x.ensures ∙ ap (λ (y : List ℕ). be 2 y c.loop.reader.place) v.image in
    let y : c.word-reaction.result ≡ be 2 s (c.loop.reader.place + c.args.gap) =
    c.word-reaction.ensures ∙ (ap (λ (y : List ℕ). be 2 y c.moved-reader.result.place) i ∙ ap (be 2 s) on.0) in
    record {
      image = ap (λ (y : Bor (List ℕ)). y.now) c.moved-reader-in-loop.ensures.0 ∙ i;
      low = on.1.1;
      place = on.1.0 ∙ row_next s c.args.k _ _ _ v.place c.requires.fits.0;
      done = λ test e.
          gather_next s c.args.k test c.args.gap c.count-end.result j c.loop.set.words c.loop-test.true v.place x y
          (e c.word-x.result c.passes.result c.word-x.type_inv c.passes.ensures) c.insert_if-set.ensures ∙ v.done test e;
    }

pub returns : goal.returns
returns g c = λ test e. sym (fold_end insert_key _ _ _ _ _ c.loop-test.false) ∙ c.loop.invariant.done test e
