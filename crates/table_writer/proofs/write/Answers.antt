-- `table_writer::write` meets its contract: step by step. Assumes nothing.
use Rattle.table_rows.specs.Kinds.{largest}
use Rattle.table_writer.proofs.WriterLaws.{not_nine, refused_count, refused_unfilled, refused_row, no_room_lem, all_written, in_room, taken_long}
use Rattle.std.proofs.lemmas.Result.{err_from_is_err_and}
use mathlib.Core.Path.{◌≡◌}
use Prim.Native.Nat.{ℕ}
use lib.ListN.{length, replicate, length-replicate}
use Rattle.table_writer.proofs.write.Goals as goal

-- the room
long : length {A = ℕ} (replicate largest 0) ≡ largest
long = length-replicate {A = ℕ} largest 0

pub returns-then-counts-ne-COUNT_BYTES : goal.returns-then-counts-ne-COUNT_BYTES
returns-then-counts-ne-COUNT_BYTES c = not_nine _ _ _ c.if-counts-ne-COUNT_BYTES.true

pub returns-then-k-lt-KINDS : goal.returns-then-k-lt-KINDS
returns-then-k-lt-KINDS c =
    refused_count _ _ c.if-counts-ne-COUNT_BYTES.false long c.put_image.ensures c.bad_count-k.ensures c.if-k-lt-KINDS.true c.count_place.ensures _

pub returns-then-end-rows : goal.returns-then-end-rows
returns-then-end-rows c =
    refused_unfilled _ _ c.if-counts-ne-COUNT_BYTES.false long c.put_image.ensures c.bad_count-k.ensures c.if-k-lt-KINDS.false c.place-end.ensures.0 c.if-end-rows.true _

pub slice_bounds-image-end : goal.slice_bounds-image-end
slice_bounds-image-end c =
    in_room _ _ c.if-counts-ne-COUNT_BYTES.false long c.put_image.ensures c.bad_count-k.ensures c.if-k-lt-KINDS.false c.place-end.ensures.0

pub slice_bounds-check_rows-end : goal.slice_bounds-check_rows-end
slice_bounds-check_rows-end c =
    taken_long _ _ c.if-counts-ne-COUNT_BYTES.false long c.put_image.ensures c.bad_count-k.ensures c.if-k-lt-KINDS.false c.place-end.ensures.0

pub returns-then-buffer-end : goal.returns-then-buffer-end
returns-then-buffer-end c =
    no_room_lem _ _ c.if-counts-ne-COUNT_BYTES.false long c.put_image.ensures c.bad_count-k.ensures c.if-k-lt-KINDS.false c.place-end.ensures.0
    c.if-end-rows.false c.check_rows.ensures c.in_ok-check_rows.was _ c.if-buffer-end.true

pub slice_bounds-image-end-2 : goal.slice_bounds-image-end-2
slice_bounds-image-end-2 c =
    in_room _ _ c.if-counts-ne-COUNT_BYTES.false long c.put_image.ensures c.bad_count-k.ensures c.if-k-lt-KINDS.false c.place-end.ensures.0

pub slice_bounds-write_text-end : goal.slice_bounds-write_text-end
slice_bounds-write_text-end c =
    taken_long _ _ c.if-counts-ne-COUNT_BYTES.false long c.put_image.ensures c.bad_count-k.ensures c.if-k-lt-KINDS.false c.place-end.ensures.0

pub returns-in_err-check_rows : goal.returns-in_err-check_rows
returns-in_err-check_rows c =
    let p = err_from_is_err_and c.from_residual.result c.from_residual.ensures.1 in
    rw (p.1, p.2)
    (refused_row _ _ c.if-counts-ne-COUNT_BYTES.false long c.put_image.ensures c.bad_count-k.ensures c.if-k-lt-KINDS.false c.place-end.ensures.0
    c.if-end-rows.false c.check_rows.ensures c.in_err-check_rows.was _)

pub returns : goal.returns
returns c =
    all_written _ _ c.if-counts-ne-COUNT_BYTES.false long c.put_image.ensures c.bad_count-k.ensures c.if-k-lt-KINDS.false c.place-end.ensures.0
    c.if-end-rows.false c.check_rows.ensures c.in_ok-check_rows.was c.if-buffer-end.false c.write_text.ensures
