-- `call_transition_events::timer_slot` meets its contract. Assumes nothing.
use mathlib.Core.Path.{◌∙◌}
use Rattle.call_transition_events.proofs.StartLaws.{timer_event_lem}
use Rattle.call_transition_events.proofs.timer_slot.Goals as goal

pub returns : goal.returns
returns c =
    let tag = c.of_local.ensures ∙ c.timer_tag.ensures in
    timer_event_lem _ _ _ c.timer_action-action.ensures c.timer_scope.ensures tag c.triggers.ensures
