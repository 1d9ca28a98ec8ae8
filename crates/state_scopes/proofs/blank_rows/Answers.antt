-- `state_scopes::blank_rows` meets its contract: zeros are the words of blank scopes. Assumes nothing.
use Rattle.state_scopes.proofs.ScopeLaws.{blank_held}
use Rattle.state_scopes.proofs.blank_rows.Goals as goal

pub returns : goal.returns
returns c = blank_held
