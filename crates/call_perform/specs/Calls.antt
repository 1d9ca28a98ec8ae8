-- The code's calls and answers as the plain machine's. Assumes nothing.
use Rattle.std.specs.Prelude.{ℕ, Bool, true, false, ◌≡◌, List, Some, None, Ok, Err}
use Rattle.std.specs.Prelude as code
use Rattle.refusals.specs.declared.Refusal.{Refusal}
use Rattle.tags.specs.Views.{of_global}
use Rattle.machine.specs.Machine as M
use Rattle.machine.specs.Machine.{Reply}
use Rattle.value_store.specs.Calls as C
use Rattle.value_store.specs.Views as stores
use Rattle.call_push.specs.Pushes as pushes
use Rattle.call_pop.specs.Pops.{found_or}
use Rattle.call_pop_ready.specs.Gathering.{gathering_of, none_yet}
use Rattle.call_transition.specs.Transiting as transition
use Rattle.call_perform.specs.declared.Question.{Question}
use Rattle.call_perform.specs.declared.Question.TheVariants as Q
use Rattle.call_perform.specs.declared.Call.{Call}
use Rattle.call_perform.specs.declared.Call.TheVariants as K
use Rattle.call_perform.specs.declared.Answer.{Answer}
use Rattle.call_perform.specs.declared.Answer.TheVariants as A
use Rattle.call_perform.specs.declared.Performed.{Performed}

-- ---- calls

-- whether a scope is active now, or was at some time
abbrev pub marks : Bool → ℕ → M.Call
marks false i = M.active_now i
marks true i = M.ever_active i

abbrev pub question_of : Question → M.Call
question_of Q.PeekTag = M.peek_tag
question_of Q.ControlOnly = M.only_control
question_of Q.OrdinaryWork = M.ordinary_work
question_of (Q.Active i) = M.active_now i
question_of (Q.EverActive i) = M.ever_active i

-- the calls of the value store among the machine's
abbrev pub value_call : C.Call → M.Call
value_call (C.push a t v) = M.push_value a t v
value_call (C.next a o m) = M.next_step a o m
value_call (C.take_out a t) = M.take_value a t
value_call (C.clear_before_lem a t) = M.clear_before a t
value_call (C.clear a) = M.clear_action a
value_call (C.move a t u) = M.move_value a t u

-- the keys are those of a push
abbrev pub call_of : Call → List ℕ → M.Call
call_of (K.Push p) ks = pushes.call_of p ks
call_of (K.Transition q) ks = transition.call_of q
call_of K.Pop ks = M.pop
call_of (K.Ask q) ks = question_of q
call_of (K.Value c) ks = value_call (stores.call_of c)

-- ---- answers

abbrev pub value_reply : C.Answer → Reply
value_reply C.ok = M.ok
value_reply (C.number n) = M.number n
value_reply C.nothing_there = M.nothing
value_reply (C.no r) = M.refusal r

abbrev pub said_reply : Answer → Reply
said_reply A.Done = M.ok
said_reply A.Nothing = M.nothing
said_reply (A.Tag t) = M.tag (of_global t)
said_reply (A.Flag b) = M.flag b
said_reply (A.Number n) = M.number n

abbrev pub answer_reply : code.Result Answer Refusal → Reply
answer_reply (Ok a) = said_reply a
answer_reply (Err n) = M.refusal n

-- a ready event's action keys stand in the array
abbrev pub reply_of : Performed → List ℕ → Reply
reply_of p keys = found_or p.tag (gathering_of p.gathered keys) (answer_reply p.answer)

abbrev pub is_pop : Call → Bool
is_pop (K.Push p) = false
is_pop (K.Transition q) = false
is_pop K.Pop = true
is_pop (K.Ask q) = false
is_pop (K.Value c) = false

-- no ready event, and nothing is gathered
abbrev pub Idle : Performed → Type 0
Idle r = (r.tag ≡ None) × (r.gathered ≡ none_yet)

-- a pop alone answers a ready event, and "nothing" where it finds none
abbrev pub Tells : Call → Performed → Type 0
Tells (K.Push p) r = Idle r
Tells (K.Transition q) r = Idle r
Tells K.Pop r = (r.answer ≡ Ok A.Nothing) × (r.tag ≡ None → Idle r)
Tells (K.Ask q) r = Idle r
Tells (K.Value c) r = Idle r
