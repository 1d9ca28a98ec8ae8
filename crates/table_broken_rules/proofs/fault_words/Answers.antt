-- `table_broken_rules::fault_words` meets its contract. Assumes nothing.
use Rattle.table_broken_rules.proofs.Laws.{fault_words_are}
use Rattle.table_broken_rules.proofs.fault_words.Goals as goal

pub returns : goal.returns
returns c = fault_words_are _ _ _ c.broken_rule-rule.ensures c.rule_number.ensures c.field_of.ensures c.key_field-f.ensures
