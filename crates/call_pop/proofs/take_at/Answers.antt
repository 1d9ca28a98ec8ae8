-- `call_pop::take_at` meets its contract. Assumes nothing.
use Rattle.std.specs.Prelude.{◌≡◌, ◌&&◌, ltb, refl, take}
use Rattle.std.proofs.Common.{arith}
use Rattle.std.proofs.lemmas.Bool.Decides.{nat_tests}
use Rattle.machine.specs.Heads.{taken, held_at}
use Rattle.tags.specs.Views.{of_queue}
use Rattle.state_events.specs.Slots.{events_of}
use Rattle.state_scopes.specs.Scopes.{scopes_of}
use Rattle.state_queues.specs.Queue.{goes_of}
use Rattle.call_pop.proofs.PopLaws.{went_few, takes_some, heads_left}
use Rattle.call_pop.proofs.take_at.Goals as goal
use Rattle.call_pop.proofs.take_at.Goals.{then-gone-counts, else-gone-counts}

pub overflow_sub-result : goal.overflow_sub-result
unfolding goes_of
overflow_sub-result c =
    let r = c.take_out-gone.ensures.sifted in
    went_few (scopes_of c.args.scopes.now) c.args.events.now c.args.given c.requires.waits c.args.h.queue (of_queue c.args.h.stamp) _ _ r.left r.went

pub returns : goal.returns
unfolding goes_of taken
returns c =
    let r = c.take_out-gone.ensures.sifted in
    let h : c.if-gone-counts.held ≡ (ltb c.take_out-gone.result.count c.args.given.counts.waiting && held_at (scopes_of c.args.scopes.now) c.args.h.queue (of_queue c.args.h.stamp)) =
    elim c.if-gone-counts.branch [ then-gone-counts w ↦ grind (arith, nat_tests) | else-gone-counts w ↦ grind (arith, nat_tests) ] in
    let k =
    takes_some (scopes_of c.args.scopes.now) c.args.events.now c.args.given c.requires.waits c.args.h.queue (of_queue c.args.h.stamp) c.take_out-gone.result.count
    c.take_out-gone.result.ordinary r.left r.went c.take_out-gone.result.gathered c.hold.result c.args.keys.now c.take_out-gone.new.keys c.take_out-gone.new.rows h
    c.hold.ensures c.take_out-gone.ensures.held r.folds r.near r.grown c.requires.keys_len.1 in record {
      takes = k;
      headed_2 = heads_left k c.args.h.queue (of_queue c.args.h.stamp) (take c.args.given.counts.waiting (events_of c.args.events.now)) c.take_out-gone.result.lowest
          refl c.requires.headed r.least c.renew.ensures;
    }
