-- What a day that keeps the rules gives the functions that read it. Assumes nothing.
use Prim.Native.Nat.{ℕ, ◌≤◌}
use mathlib.Core.Bool.{Bool}
use mathlib.Core.Path.{◌≡◌}
use mathlib.Core.List.{List}
use native.Mathlib.Omega.{arith}
use lib.ListN.{length, take, length-take}
use lib.Seq.{length-take-le}
use Rattle.lists.specs.Lists.{lose, lose_shorter}
use Rattle.table_rows.specs.Bytes.{Image}
use Rattle.machine.specs.State.{Event}
use Rattle.state_events.specs.Slots.{room_for_events}
use Rattle.state_events.specs.Slots.{Whole}
use Rattle.state_room.specs.Holds.{Rows}
use Rattle.state_room.proofs.Holds.{waits}
use Rattle.day_run.specs.Views.{Kept}

module _ {img : Image} {r : Rows} (k : Kept img r) where
  pub few_wait : r.ledger.counts.waiting ≤ room_for_events
  few_wait = (waits img _ r k.holds).few

  pub whole_events : Whole r.events
  whole_events = k.holds.queued.held.whole

-- no more are left than there were
pub left_few : (p : Event → Bool) (n : ℕ) (l : List Event) {k : ℕ} → n ≤ room_for_events → k ≡ length (lose p (take n l)) → k ≤ room_for_events
left_few p n l h e = omega (arith, lose_shorter p (take n l), length-take n l)

pub part_long : (l : List ℕ) (n k : ℕ) → n ≤ length l → k ≤ n → k ≤ length (take n l)
part_long l n k h g = omega (arith, length-take-le n l h)
