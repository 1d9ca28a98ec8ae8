-- `table::key_field` meets its contract: the code and the definition have the same list. Assumes nothing.
use mathlib.Core.Path.{refl, sym}
use lib.ListN.{get_or-eq_default}
use Rattle.table.specs.Rules.{key, key_fields}
use Rattle.table.proofs.key_field.Goals as goal

pub returns-then-j-lt-KEYS : goal.returns-then-j-lt-KEYS
unfolding key_fields
returns-then-j-lt-KEYS c = refl

pub returns-else-j-lt-KEYS : goal.returns-else-j-lt-KEYS
unfolding key_fields
returns-else-j-lt-KEYS c = sym (get_or-eq_default key_fields (key 0 0 0) c.if-j-lt-KEYS.false)
