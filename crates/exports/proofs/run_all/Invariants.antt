use Rattle.std.proofs.Common.{◌≡◌, ◌-◌, ◌≤◌, length, drop}
use Rattle.state_room.specs.Holds.{rows_of, state_in}
use Rattle.day_run.specs.Views.{Kept}
use Rattle.exports.specs.State.{after_all}
use Rattle.exports.proofs.AfterLaws.{scratch, after_in}
use Rattle.exports.proofs.run_all.Given as goal

-- the pieces behind a place are those of the turns that are left
abbrev pub invariant-loop : goal.invariant-loop
invariant-loop l = record {
  kept : Kept l.image (rows_of l.day);
  inside : l.at ≤ length l.records;
  room : scratch ≡ length l.lines;
  after : after_all l.image l.records ≡ after_in (length l.records - l.counter) l.image (drop l.at l.records) (state_in l.image (rows_of l.day));
}
