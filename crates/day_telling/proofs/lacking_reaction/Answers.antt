-- `day_telling::lacking_reaction` meets its contract: what is left of the keys decides. Assumes nothing.
use mathlib.Core.Path.{refl, ◌∙◌}
use Rattle.day_telling.proofs.Laws.{lacking_pass, lacking_here, lacking_none, lacking_by}
use Rattle.day_telling.proofs.lacking_reaction.Goals as goal

pub loop-key-init : goal.loop-key-init
loop-key-init c = refl

pub loop-key-preserved : goal.loop-key-preserved
loop-key-preserved c = c.loop-key.invariant ∙ lacking_pass _ _ _ c.loop-key-test.true c.if-total-key.false

pub returns-then-total-key : goal.returns-then-total-key
returns-then-total-key c = lacking_by _ c.count-total.ensures (c.loop-key.invariant ∙ lacking_here _ _ _ c.loop-key-test.true c.if-total-key.true)

pub returns : goal.returns
returns c = lacking_by _ c.count-total.ensures (c.loop-key.invariant ∙ lacking_none _ _ _ c.loop-key-test.false)
