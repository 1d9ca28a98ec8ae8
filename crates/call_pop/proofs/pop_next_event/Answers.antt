-- `call_pop::pop_next_event` meets its contract. Assumes nothing.
use Rattle.std.specs.Prelude.{take}
use Rattle.tags.specs.Views.{of_global}
use Rattle.state_events.specs.Slots.{events_of}
use Rattle.call_pop.proofs.PopLaws.{root_head_lem, scope_head_lem, seen_in, local_still, takes_then, pops_nothing, pops_found}
use Rattle.call_pop.proofs.pop_next_event.Goals as goal

pub take_scopes-all-requires-clause-local_value : goal.take_scopes-all-requires-clause-local_value
take_scopes-all-requires-clause-local_value c =
    let es = take c.args.counts.waiting (events_of c.args.events.now) in
    local_still c.args.image.now c.args.events.now c.args.scopes.now c.args.counts _ (root_head_lem es c.requires.headed c.root_head-root.ensures) c.take_head-first.ensures.takes
    (scope_head_lem c.args.image.now c.args.scopes.now es c.count-n.ensures c.requires.headed c.scope_head-local.ensures)

pub returns-in_default-clause-pops : goal.returns-in_default-clause-pops
returns-in_default-clause-pops c = λ s q h.
    let w =
    seen_in c.args.image.now s c.args.events.now c.args.scopes.now c.args.counts c.requires.waits.few q h c.root_head-root.result c.scope_head-local.result
    c.count-n.ensures c.requires.headed c.root_head-root.ensures c.scope_head-local.ensures in
    pops_nothing c.args.events.now c.args.counts c.nothing_yet.result c.nothing_yet.ensures c.requires.waits w c.peek_of.result c.peek_of.ensures q
    c.in_default.is c.args.keys.now

pub returns-clause-pops : goal.returns-clause-pops
returns-clause-pops c = λ s q h.
    let w =
    seen_in c.args.image.now s c.args.events.now c.args.scopes.now c.args.counts c.requires.waits.few q h c.root_head-root.result c.scope_head-local.result
    c.count-n.ensures c.requires.headed c.root_head-root.ensures c.scope_head-local.ensures in
    pops_found c.args.events.now c.args.counts c.nothing_yet.result c.nothing_yet.ensures c.requires.waits w c.peek_of.result c.peek_of.ensures q
    c.in-Some.is c.args.scopes.now h c.take_scopes-all.result
    (takes_then c.take_head-first.ensures.takes c.args.image.now (of_global _) c.args.counts.waiting c.take_scopes-all.ensures.takes)
