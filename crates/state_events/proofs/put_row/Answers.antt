-- `state_events::put_row` meets its contract: so many words are put. Assumes nothing.
use Rattle.state_events.proofs.SlotLaws.{put_none, put_more, put_list}
use borrow.Author.Rules.{rules}
use Rattle.state_events.proofs.put_row.Goals as goal

pub loop-j-init : goal.loop-j-init
loop-j-init c = put_none _ _ _ _

pub loop-j-preserved : goal.loop-j-preserved
loop-j-preserved c = search put_more

pub returns : goal.returns
returns c = put_list _ _ _ c.args.row c.loop-j.invariant (search rules) (search rules)
