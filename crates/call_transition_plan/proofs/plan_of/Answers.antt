-- `call_transition_plan::plan_of` meets its contract. Assumes nothing.
use Rattle.state_room.specs.Holds.{most_reactors_lem}
use mathlib.Core.Path.{refl}
use Prim.Native.Nat.{◌≤◌}
use native.Mathlib.Omega.{arith}
use lib.ListN.{length, length-take}
use Rattle.call_transition_plan.proofs.PlanLaws.{filled_long, filled_take, filled_new}
use borrow.Author.Rules.{rules}
use Rattle.call_transition_plan.proofs.plan_of.Goals as goal

pub new_modes-after-requires : goal.new_modes-after-requires
new_modes-after-requires c = let a = c.args in (search rules, rw c.count-n.ensures (most_reactors_lem a.image.now c.requires.image_value))

pub slice_bounds-after-end : goal.slice_bounds-after-end
slice_bounds-after-end c =
    let a = c.args in filled_long a.image.now a.modes.now a.request c.requires.image_value c.requires.modes_len c.requires.reactor_bound _ _ c.count-n.ensures c.new_modes-after.ensures

pub slice_bounds-active_scopes-end : goal.slice_bounds-active_scopes-end
slice_bounds-active_scopes-end c =
    let a = c.args in
    let n : c.count-n.result ≤ length c.new_modes-after.result = filled_long a.image.now a.modes.now a.request c.requires.image_value c.requires.modes_len c.requires.reactor_bound _ _ c.count-n.ensures
    c.new_modes-after.ensures in
    rw length-take (omega arith)

pub returns : goal.returns
returns c =
    let a = c.args in
    record {
      c = refl;
      target = c.mode_scope-target.ensures;
      inside = rw (← c.mode_scope-target.ensures) c.subtree_if-inside.ensures;
      now = rw (← (filled_take a.image.now a.modes.now a.request c.requires.image_value c.requires.modes_len c.requires.reactor_bound _ _ c.count-n.ensures c.new_modes-after.ensures)) c.active_scopes-now.ensures;
      modes = filled_new a.image.now a.modes.now a.request c.requires.image_value c.requires.modes_len c.requires.reactor_bound _ _ c.count-n.ensures c.new_modes-after.ensures;
    }
