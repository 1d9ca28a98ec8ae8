-- What a peek and a pop hand back: the plain machine's answers and its queue. Document 01, "Pop at peek tag t", peek and control only are the machine's. Assumes nothing.
use Rattle.std.specs.Prelude.{◌≡◌, List, ℕ, ◌+◌, ◌≤◌, take, Some, None}
use Rattle.std.specs.Prelude as std
use Rattle.lists.specs.Lists.{foldl}
use Rattle.tags.specs.Views.{of_global}
use Rattle.tags.specs.declared.GlobalTag.{GlobalTag}
use Rattle.machine.specs.State.{Scope}
use Rattle.machine.specs.Heads.{Taking, untaken}
use Rattle.machine.specs.Machine.{Reply, Outcome, nothing, ready, tag}
use Rattle.state_events.specs.Slots.{events_of, room_for_events}
use Rattle.call_pop_ready.specs.Gathering.{Gathering, none_yet, added_by, ready_at, gathering_of, Grown}
use Rattle.state_room.specs.declared.Counts.{Counts}
use Rattle.state_room.specs.PartRows.{Queued, Waits}
use Rattle.call_pop.specs.declared.Taking as code
use Rattle.call_pop.specs.declared.Popped.{Popped}

-- ---- a peek

abbrev pub reply_of : std.Option GlobalTag → Reply
reply_of None = nothing
reply_of (Some t) = tag (of_global t)

-- ---- taking

-- what rows and counts hold, and nothing is taken yet
abbrev pub lent : List ℕ → Counts → Taking
lent ws c = untaken (take c.waiting (events_of ws)) c.work

-- rows and counts hold what waits, and what was taken is gathered behind what was before, by the scopes' clocks, its keys in the array as it was
pub record Takes (ss : List Scope) (k : Taking) (given r : code.Taking) (was ws keys : List ℕ) : Type 0 where
  pub queued : Queued k.waiting k.work ws r.counts
  pub waits : Waits ws r.counts
  pub gathered : gathering_of r.gathered keys ≡ foldl (added_by ss) (gathering_of given.gathered was) k.events
  pub grown : Grown given.gathered.actions r.gathered.actions was keys
  pub room : r.gathered.actions + r.counts.waiting ≤ room_for_events

-- ---- a pop

-- the ready event at a tag, or what else is answered
abbrev pub found_or : std.Option GlobalTag → Gathering → Reply → Reply
found_or None g r = r
found_or (Some t) g r = ready (ready_at (of_global t) g)

-- the action keys in the array beside it
abbrev pub pop_reply : Popped → List ℕ → Reply
pop_reply r keys = found_or r.tag (gathering_of r.gathered keys) nothing

-- the machine's answer, its queue in rows and counts, and the keys in the array as it was; with no head, nothing is gathered
pub record Pops (o : Outcome) (r : Popped) (was ws keys : List ℕ) : Type 0 where
  pub reply : pop_reply r keys ≡ o.reply
  pub queued : Queued o.state.waiting o.state.work ws r.counts
  pub waits : Waits ws r.counts
  pub grown : Grown 0 r.gathered.actions was keys
  pub room : r.gathered.actions + r.counts.waiting ≤ room_for_events
  pub idle : r.tag ≡ None → r.gathered ≡ none_yet
