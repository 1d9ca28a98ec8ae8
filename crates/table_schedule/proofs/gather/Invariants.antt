-- `table_schedule::gather` meets its contract: the reader stands at the next row, and the set with the reactions of the rows left is that of all rows.
-- Assumes nothing.
use mathlib.Core.Path.{◌≡◌}
use mathlib.Core.Bool.{Bool}
use Prim.Native.Nat.{ℕ, ◌+◌, ◌*◌, ◌^◌, ◌≤◌, ◌<◌}
use Rattle.lists.specs.Lists.{foldl}
use Rattle.key_set.specs.Sets.{insert_key}
use Rattle.table_rows.specs.Rows.{row_place}
use Rattle.table_schedule.specs.Schedule.{reactions_of}
use Rattle.table_schedule.proofs.Laws.{left}
use Rattle.table_schedule.proofs.gather.Given as goal

abbrev pub invariant-loop : goal.invariant-loop
invariant-loop g l =
    record {
      image : l.reader.image.now ≡ l.image;
      low : l.reader.place ≤ 2 ^ 28 + l.counter * 6;
      place : l.reader.place ≡ row_place l.image l.k l.counter;
      done :
          (test : ℕ → Bool) → ((x : ℕ) (r : Bool) → x < 2 ^ 16 → goal.F-post g l.passes x r → r ≡ test x) →
          foldl insert_key l.set.words (left l.image l.k test l.gap l.end l.counter) ≡ reactions_of l.image l.k test l.gap;
    }
