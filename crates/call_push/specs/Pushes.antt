-- What a push hands back: the plain machine's answer and its queue. Document 01, "Push (plain, network, control)" and "Push of an action", is the machine's. Assumes nothing.
use Rattle.std.specs.Prelude.{◌≡◌, true, false, List, [], ℕ, get_or, Ok, Err}
use Rattle.std.specs.Prelude as code
use Rattle.lists.specs.Walk.{Result, done, refused, ◌>>=◌}
use Rattle.refusals.specs.declared.Refusal.{Refusal}
use Rattle.machine.specs.State.{Event, State, accepted}
use Rattle.machine.specs.Machine as M
use Rattle.machine.specs.Machine.{settle, keys_ok, root_made, action_made}
use Rattle.machine.specs.Table.{set_of}
use Rattle.table_rows.specs.Bytes.{Image}
use Rattle.table_rows.specs.Rows.{action_scope}
use Rattle.tags.specs.Views.{of_global}
use Rattle.state_events.specs.Slots.{event_of}
use Rattle.state_events.specs.declared.Slot.{Slot}
use Rattle.state_scopes.specs.Scopes.{Scope, scopes_of, blank}
use Rattle.state_room.specs.PartRows.{Queued, Waits}
use Rattle.state_room.specs.declared.Counts.{Counts}
use Rattle.call_push.specs.declared.Push.{Push}
use Rattle.call_push.specs.declared.Push.TheVariants as P

-- the event that is to wait, or the refusal
abbrev pub made_of : code.Result Slot Refusal → Result Refusal Event
made_of (Ok s) = done (event_of s)
made_of (Err n) = refused n

-- the scope of an action, as the rows show it
abbrev pub scope_for : Image → List ℕ → ℕ → Scope
scope_for img ws a = get_or (scopes_of ws) (action_scope img a) blank

-- a push as a call of the machine
abbrev pub call_of : Push → List ℕ → M.Call
call_of (P.Plain t terminal) ks = M.plain (of_global t) terminal ks
call_of (P.Network t) ks = M.network (of_global t) ks
call_of (P.Control t) ks = M.control (of_global t)
call_of (P.Action p) ks = M.action p.action (of_global p.tag) p.terminal ks

-- its event, or its refusal
abbrev pub made : Image → List ℕ → Push → List ℕ → Result Refusal Event
made img ws (P.Plain t terminal) ks = root_made (keys_ok img ks) (of_global t) (set_of ks) terminal false false
made img ws (P.Network t) ks = root_made (keys_ok img ks) (of_global t) (set_of ks) false false true
made img ws (P.Control t) ks = root_made (keys_ok img []) (of_global t) (set_of []) false true false
made img ws (P.Action p) ks =
    action_made img (scope_for img ws p.action) p.action (of_global p.tag) p.terminal (keys_ok img ks) (set_of ks)

-- it comes last, or 8
abbrev pub pushed : Image → State → Result Refusal Event → M.Outcome
pushed img s m = settle s (m >>= accepted img s)

-- what is answered, and what waits then: a refusal leaves it
abbrev pub reply_of : code.Result Counts Refusal → M.Reply
reply_of (Ok c) = M.ok
reply_of (Err n) = M.refusal n

abbrev pub left : Counts → code.Result Counts Refusal → Counts
left c (Ok after) = after
left c (Err n) = c

pub record Pushes (o : M.Outcome) (c : Counts) (r : code.Result Counts Refusal) (ws : List ℕ) : Type 0 where
  pub reply : reply_of r ≡ o.reply
  pub queued : Queued o.state.waiting o.state.work ws (left c r)
  pub waits : Waits ws (left c r)
