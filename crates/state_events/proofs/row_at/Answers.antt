-- `state_events::row_at` meets its contract: so many words are read. Assumes nothing.
use mathlib.Core.Path.{refl}
use borrow.Author.Rules.{rules}
use Rattle.state_events.proofs.SlotLaws.{put_none, fill_more, fill_all}
use Rattle.state_events.proofs.row_at.Goals as goal

pub loop-j-init : goal.loop-j-init
loop-j-init c = put_none _ _ _ _

pub loop-j-preserved : goal.loop-j-preserved
loop-j-preserved c = search fill_more

pub returns : goal.returns
returns c = fill_all _ _ _ c.loop-j.invariant (search rules) refl
