-- Chains of tests that choose a rule, in the form that the code meets them: `search` applies a law and finds the facts by itself. Assumes nothing.
use Prim.Native.Nat.{ℕ}
use mathlib.Core.Path.{◌≡◌}
use mathlib.Core.List.{[], ◌∷◌}
use Rattle.table_rows.specs.Bytes.{Image}
use Rattle.table.specs.declared.KeyField.{KeyField}
use Rattle.table_broken_rules.specs.declared.Rule.{Rule}
use Rattle.std.specs.Prelude.{Option}
use Rattle.table_broken_rules.specs.BrokenRules.{broken_rule, rule_number, field_of, field_at, fault_words}

-- ---- words

pub fault_words_are :
    (s : Image) (k i : ℕ) {rule : Option Rule} {n j : ℕ} {f : KeyField} → rule ≡ broken_rule s k i → n ≡ rule_number rule → j ≡ field_of rule → f ≡ field_at j →
    (k ∷ i ∷ n ∷ f.offset ∷ f.names ∷ []) ≡ fault_words s k i
unfolding fault_words
fault_words_are s k i e f g h = rw (h, g, f, e)
