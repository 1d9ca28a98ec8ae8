-- `state_rules::ordinary_work` meets its contract: those before i are counted. Assumes nothing.
use Rattle.std.specs.Prelude.{◌<◌, length, refl}
use Rattle.std.proofs.Common.{◌∙◌, ap, arith}
use Rattle.lists.specs.Lists.{count}
use Rattle.machine.specs.State.{ordinary}
use Rattle.state_events.specs.Slots.{blank, events_of}
use Rattle.state_events.proofs.SlotLaws.{events_long}
use Rattle.state_rules.proofs.Ranges.{count_more, byte_small}
use Rattle.state_rules.proofs.ordinary_work.Goals as goal

pub loop-i-init : goal.loop-i-init
unfolding count
loop-i-init c = record { few = omega arith; counted = refl }

pub loop-i-preserved : goal.loop-i-preserved
loop-i-preserved c =
    let l = events_of c.args.events.now in
    let w = c.loop-i.invariant in
    let i : c.loop-i.i < length l = rw events_long (omega (arith, c.requires)) in
    record {
      few = omega (arith, w.few, c.from-work.ensures, byte_small c.is_ordinary.result);
      counted = rw (w.counted, c.from-work.ensures) (count_more ordinary l blank c.loop-i.i i (c.is_ordinary.ensures ∙ ap ordinary c.slot_at.ensures));
    }
