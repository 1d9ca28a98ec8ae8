-- `call_push::give` meets its contract. Assumes nothing.
use Rattle.std.proofs.Common.{◌∙◌, ap, arith}
use Rattle.std.proofs.lemmas.Result.{err_from_is_err_and}
use Rattle.std.specs.Prelude.{◌+◌, cond}
use Rattle.state_events.specs.Slots.{event_of}
use Rattle.call_push.proofs.PushLaws.{work_small, give_full, give_done, one_more, byte_small}
use Rattle.call_push.proofs.give.Goals as goal

pub overflow_add-work : goal.overflow_add-work
overflow_add-work c = omega (arith, work_small c.args.events.now c.args.counts c.requires, c.from.ensures, byte_small c.is_ordinary.result)

pub returns-in_err-waiting : goal.returns-in_err-waiting
returns-in_err-waiting c =
    let p = err_from_is_err_and c.from_residual.result c.from_residual.ensures.1 in
    rw (p.1, p.2)
    (give_full c.args.events.now c.args.counts c.requires c.args.image.now (event_of c.args.slot) c.most_waiting-limit.result c.most_waiting-limit.ensures c.accept.result c.accept.ensures.value
    c.accept.new.rows c.accept.ensures.held (c.in_err-waiting.was))

pub returns : goal.returns
returns c =
    give_done c.args.events.now c.args.counts c.requires c.args.image.now (event_of c.args.slot) c.most_waiting-limit.result c.most_waiting-limit.ensures c.accept.result c.accept.ensures.value
    c.accept.new.rows c.accept.ensures.held _ (c.in_ok-waiting.was)
    (ap (λ n. c.args.counts.work + n) c.from.ensures ∙ (one_more _ _ ∙ ap (λ b. cond b (c.args.counts.work + 1) c.args.counts.work) c.is_ordinary.ensures))
