-- `call_transition_resets::zero_clocks` meets its contract: the scopes before i are done. Assumes nothing.
use Rattle.std.proofs.Common.{arith}
use Rattle.state_room.specs.Holds.{most_scopes_lem}
use Rattle.call_transition_resets.proofs.ResetLaws.{taken_long, sofar_start, sofar_more, sofar_end}
use Rattle.call_transition_resets.proofs.zero_clocks.Goals as goal

pub loop-i-init : goal.loop-i-init
loop-i-init c = let t = c.requires.image_value in sofar_start _ _ _ (taken_long _ _ t) (most_scopes_lem _ t) _ c.requires.scoped

pub loop-i-preserved : goal.loop-i-preserved
loop-i-preserved c =
    let t = c.requires.image_value in
    sofar_more _ _ _ (taken_long _ _ t) (most_scopes_lem _ t) c.loop-i.i _ _ (omega (arith, c.count-i-end.ensures)) c.loop-i.invariant c.zero_if.ensures

pub returns : goal.returns
returns c =
    let t = c.requires.image_value in
    sofar_end _ _ _ (taken_long _ _ t) (most_scopes_lem _ t) c.loop-i.i _ (omega (arith, c.count-i-end.ensures)) (omega (arith, c.count-i-end.ensures)) c.loop-i.invariant
