-- `call_transition_events::timer_image` meets its contract. Assumes nothing.
use mathlib.Core.Path.{ap}
use Rattle.call_transition_events.proofs.StartLaws.{image_mapped}
use Rattle.call_transition_events.proofs.timer_image.Goals as goal

pub returns : goal.returns
returns c =
    image_mapped _ _ _ c.timer_scope.ensures c.timer_tag.ensures (ap (λ x. x.clock) c.scope_at-s.ensures) c.to_global.ensures
