-- `state_fresh::bare` meets its contract: zeros are the words of blanks. Assumes nothing.
use mathlib.Core.Path.{refl}
use Rattle.state_fresh.proofs.FreshLaws.{no_values, no_buckets}
use Rattle.state_fresh.proofs.bare.Goals as goal

pub returns : goal.returns
returns c = record { scopes_are = refl; events = c.blank_rows.ensures; values = no_values; buckets = no_buckets; ledger_is = c.bare_ledger.ensures }
