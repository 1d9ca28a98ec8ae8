use Rattle.exports.proofs.WordLaws.{state_are}
use Rattle.exports.proofs.put_state.Goals as goal

pub returns : goal.returns
returns c =
    state_are c.requires c.first_words.ensures c.put_words-modes_at.ensures (rw c.mode_words.ensures at c.put_words-scopes_at.ensures) c.put_words-events_at.ensures
    c.put_words-values_at.ensures c.put_words-buckets_at.ensures c.put_words.ensures
