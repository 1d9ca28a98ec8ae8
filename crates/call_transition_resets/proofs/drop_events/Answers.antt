-- `call_transition_resets::drop_events` meets its contract. Assumes nothing.
use Rattle.key_set.specs.Sets.{has}
use Rattle.state_queues.specs.Queue.{goes_of}
use Rattle.call_transition_resets.proofs.ResetLaws.{gone_fits, gone_waits, gone_step}
use Rattle.call_transition_resets.proofs.drop_events.Goals as goal

pub overflow_sub-result : goal.overflow_sub-result
unfolding goes_of
overflow_sub-result c =
    gone_fits (λ e. has c.args.inside.words e.queue) c.args.events.now c.args.counts c.requires c.remove-gone.ensures.ordinary_value

pub returns : goal.returns
unfolding goes_of
returns c =
    record { waits = gone_waits (λ e. has c.args.inside.words e.queue) c.args.events.now c.args.counts c.requires _ c.remove-gone.ensures.count_value c.remove-gone.ensures.ordinary_value c.remove-gone.ensures.held; counts_value = gone_step (λ e. has c.args.inside.words e.queue) c.args.events.now c.args.counts c.requires _ c.remove-gone.ensures.count_value c.remove-gone.ensures.ordinary_value c.remove-gone.ensures.held }
