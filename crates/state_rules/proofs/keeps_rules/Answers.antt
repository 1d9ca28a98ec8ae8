-- `state_rules::keeps_rules` meets its contract: the queue's rules and the store's. Assumes nothing.
use Rattle.state_rules.proofs.Rules.{sound_cases, few_held}
use Rattle.state_rules.proofs.keeps_rules.Goals as goal

pub keeps_rules-requires : goal.keeps_rules-requires
keeps_rules-requires c = search few_held

pub returns-then-queue_rules : goal.returns-then-queue_rules
returns-then-queue_rules c = search sound_cases

pub returns-else-queue_rules : goal.returns-else-queue_rules
returns-else-queue_rules c = search sound_cases
