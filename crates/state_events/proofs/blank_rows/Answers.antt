-- `state_events::blank_rows` meets its contract: zeros are the words of blank slots. Assumes nothing.
use Rattle.state_events.proofs.SlotLaws.{blank_held}
use Rattle.state_events.proofs.blank_rows.Goals as goal

pub returns : goal.returns
returns c = blank_held
