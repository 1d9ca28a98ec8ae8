-- Demand 3 for the code: what the public calls answer and leave, made one after the other from a fresh manager, is what the history tells. Every `Call`
-- has a method of `Manager` whose contract is `step_on` of it (listed at the head of crate manager), those on values too, so these are statements about
-- the code, for every call of 01. Assumes nothing but the accepted table.
use Rattle.std.specs.Prelude.{◌≡◌, List, ℕ, take}
use Rattle.table_rows.specs.Bytes.{Image}
use Rattle.machine.specs.Machine.{Call}
use Rattle.manager.specs.Arrays.{Arrays, view_of, step_on, run_on, fresh_over}
use Rattle.machine_history.specs.History.{moment, call_at, outcome}

-- the manager's arrays before the call at place n
abbrev pub manager_at : Image → List Call → ℕ → Arrays
manager_at img cs n = run_on img (fresh_over img) (take n cs)

-- the states and the answers of the public calls are the plain machine's
pub record Managed (img : Image) (cs : List Call) : Type 0 where
  pub states : (n : ℕ) → view_of img (manager_at img cs n) ≡ moment img cs n
  pub answers : (n : ℕ) → (step_on img (manager_at img cs n) (call_at cs n)).reply ≡ (outcome img cs n).reply
