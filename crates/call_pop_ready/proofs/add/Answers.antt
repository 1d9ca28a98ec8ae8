-- `call_pop_ready::add` meets its contract. Assumes nothing.
use Prim.Native.Nat.{◌<◌}
use mathlib.Core.Bool.{◌||◌}
use mathlib.Core.Path.{◌≡◌, refl}
use lib.ListN.{length}
use native.Mathlib.Omega.{arith}
use Rattle.std.proofs.lemmas.Bool.Decides.{nat_tests}
use Rattle.machine.specs.State.{ordinary}
use Rattle.state_events.specs.Slots.{event_of}
use Rattle.call_pop_ready.specs.Gathering.{gathering_of}
use Rattle.call_pop_ready.proofs.GatherLaws.{added}
use Rattle.call_pop_ready.proofs.add.Goals as goal
use Rattle.call_pop_ready.proofs.add.Goals.{then-g, else-g, then-g-2, else-g-2, then-g-3, else-g-3}

pub returns : goal.returns
returns c =
    let g = c.args.g in let e = event_of c.args.s in
    let l : g.actions < length c.args.keys.now = omega (arith, c.requires.0) in
    let t : c.if-g.result ≡ (g.terminal || e.terminal) = elim c.if-g.branch [ then-g w ↦ grind (arith, nat_tests) | else-g w ↦ grind (arith, nat_tests) ] in
    let w : c.if-g-2.result ≡ (g.work || ordinary e) = elim c.if-g-2.branch [ then-g-2 w ↦ grind (arith, nat_tests) | else-g-2 w ↦ grind (arith, nat_tests) ] in
    let n : c.if-g-3.result ≡ (g.network || e.network) = elim c.if-g-3.branch [ then-g-3 w ↦ grind (arith, nat_tests) | else-g-3 w ↦ grind (arith, nat_tests) ] in
    let whole = added c.args.keys.now c.add_key-actions.new.keys (gathering_of g c.args.keys.now) g.actions c.add_key-actions.result e l c.add_key-actions.ensures.value c.add_key-actions.ensures.keys_after refl
    t w n c.union.ensures in record { keys_after = whole.0; actions_bound = whole.1 }
