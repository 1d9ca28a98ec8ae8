-- `call_pop::peek_is_control_only` meets its contract. Assumes nothing.
use Rattle.std.specs.Prelude.{◌≡◌}
use Rattle.lists.specs.Lists.{every}
use Rattle.tags.specs.Views.{of_global}
use Rattle.machine.specs.Heads.{controlled}
use Rattle.std.proofs.Common.{arith, ◌∙◌}
use Rattle.std.proofs.lemmas.Bool.Decides.{nat_tests}
use Rattle.machine.specs.State.{State}
use Rattle.state_room.specs.PartRows.{Queued, Shows}
use Rattle.call_pop.proofs.PopLaws.{queue_is, Seen, seen_in, control_nothing, control_some_lem}
use Rattle.call_pop.proofs.peek_is_control_only.Goals as goal
use Rattle.call_pop.proofs.peek_is_control_only.Goals.{After-peek_of, then-is_at, else-is_at}

-- the heads that were found are the machine's
seen_here :
    (c : After-peek_of) (s : State) → Queued s.waiting s.work c.args.events.now c.args.counts → Shows s c.args.scopes.now →
    Seen c.args.image.now s c.root_head-root.result c.scope_head-local.result
seen_here c s q h =
    seen_in c.args.image.now s c.args.events.now c.args.scopes.now c.args.counts c.requires.waiting_le_room_for_events q h
    c.root_head-root.result c.scope_head-local.result c.count-n.ensures c.requires.headed c.root_head-root.ensures c.scope_head-local.ensures

pub returns-then-not-is_at : goal.returns-then-not-is_at
returns-then-not-is_at c = λ s q h.
    let z : c.all_controlled.result ≡ every (controlled (of_global c.in-Some.t)) s.waiting = c.all_controlled.ensures ∙ rw (queue_is s c.args.events.now c.args.counts c.requires.waiting_le_room_for_events q) in
    control_some_lem (seen_here (goal.at.returns-then-not-is_at c).After-peek_of s q h) c.peek_of.result c.peek_of.ensures c.in-Some.is
    (elim c.if-is_at.branch [ then-is_at w ↦ grind (arith, nat_tests) | else-is_at w ↦ grind (arith, nat_tests) ])

pub returns-else-not-is_at : goal.returns-else-not-is_at
returns-else-not-is_at c = λ s q h.
    control_some_lem (seen_here (goal.at.returns-else-not-is_at c).After-peek_of s q h) c.peek_of.result c.peek_of.ensures c.in-Some.is
    (elim c.if-is_at.branch [ then-is_at w ↦ grind (arith, nat_tests) | else-is_at w ↦ grind (arith, nat_tests) ])

pub returns-in-None : goal.returns-in-None
returns-in-None c = λ s q h. control_nothing (seen_here (goal.at.returns-in-None c).After-peek_of s q h) c.peek_of.result c.peek_of.ensures c.in-None.is
