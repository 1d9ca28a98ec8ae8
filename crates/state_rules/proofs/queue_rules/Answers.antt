-- `state_rules::queue_rules` meets its contract: a law for each part that may fail. Assumes nothing.
use Rattle.std.specs.Prelude.{◌≡◌, refl, length}
use Rattle.std.proofs.Common.{◌∙◌, rules}
use Rattle.state_room.specs.PartRows.{most_reactors}
use Rattle.machine.specs.Table.{reactors}
use Rattle.state_rules.proofs.Rules.{queue_cases, rules_scopes, rules_queue, few_scopes, few_reactors, few_waiting, own_is}
use Rattle.state_rules.proofs.queue_rules.Goals as goal
use Rattle.state_rules.proofs.queue_rules.Goals.{then-most_waiting-counts-via-then-most_waiting-counts, then-most_waiting-counts-via-else-most_waiting-counts+then-not-accepted, After-from-reactors}

pub returns-then-most_waiting-counts : goal.returns-then-most_waiting-counts
returns-then-most_waiting-counts c =
    elim c.then-most_waiting-counts.branch [
      | then-most_waiting-counts-via-then-most_waiting-counts w ↦ search queue_cases
      | then-most_waiting-counts-via-else-most_waiting-counts+then-not-accepted w ↦ search queue_cases
    ]

-- as many reactors as the table has
reactors_is : (c : After-from-reactors) → c.from-reactors.result ≡ reactors c.args.image.now
reactors_is c = c.from-reactors.ensures ∙ c.count.ensures

pub shared_ref_as_front-scopes_sound : goal.shared_ref_as_front-scopes_sound
shared_ref_as_front-scopes_sound c =
    let long : length c.args.ledger.modes ≡ most_reactors = search rules in
    rw long at (few_reactors c.args.image.now c.accepted.ensures c.if-not-accepted.false c.args.ledger.modes long (c.from-reactors.ensures ∙ c.count.ensures))

pub scopes_sound-requires : goal.scopes_sound-requires
scopes_sound-requires c = search few_scopes

pub returns-then-scopes_sound : goal.returns-then-scopes_sound
returns-then-scopes_sound c =
    let long : length c.args.ledger.modes ≡ most_reactors = search rules in
    rules_queue _ _ _ _ _ _ long c.most_waiting.ensures c.if-most_waiting-counts.false _ c.accepted.ensures c.if-not-accepted.false _ c.count-n.ensures _
    (own_is _ c.args.ledger.modes (reactors_is (goal.at.returns-then-scopes_sound c).After-from-reactors) refl) _ c.scopes_sound.ensures c.if-scopes_sound.true c.queue_sound.ensures

pub queue_sound-requires : goal.queue_sound-requires
queue_sound-requires c = search few_waiting

pub returns-else-scopes_sound : goal.returns-else-scopes_sound
returns-else-scopes_sound c =
    let long : length c.args.ledger.modes ≡ most_reactors = search rules in
    rules_scopes _ _ _ _ _ _ long c.most_waiting.ensures c.if-most_waiting-counts.false _ c.accepted.ensures c.if-not-accepted.false _ c.count-n.ensures _
    (own_is _ c.args.ledger.modes (reactors_is (goal.at.returns-else-scopes_sound c).After-from-reactors) refl) _ c.scopes_sound.ensures c.if-scopes_sound.false
