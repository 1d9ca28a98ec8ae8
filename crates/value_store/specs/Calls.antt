-- The calls of the value store, what each answers and leaves, and the order of refusals "for the value store 11, 5, 6, 9". Assumes nothing.
use Rattle.std.specs.Prelude.{ℕ, Bool, true, cond, ◌&&◌, List, ltb, length, take, replicate}
use Rattle.lists.specs.Lay.{lay}
use Rattle.lists.specs.Walk.{Result, done, refused, ◌>>=◌}
use Rattle.refusals.specs.declared.Refusal.{Refusal}
use Rattle.refusals.specs.declared.Refusal.TheVariants as R
use Rattle.table.specs.Check.{is_table}
use Rattle.table_rows.specs.Kinds as K
use Rattle.table_rows.specs.Limits.{limits}
use Rattle.tags.specs.Tags.{Tag, at, within}
use Rattle.store_words.specs.Entries.{Value, Bucket, room_for_entries, blank_value, blank_bucket}
use Rattle.store.specs.Store.{Store, Found, nothing, found, pushed, next_microstep, value_in, taken, cleared_before, cleared, moved}
use Rattle.store_rules.specs.Rules.{counted_rules}

-- every call names an action first
pub data Call : Type 0 where
  push : ℕ → Tag → ℕ → Call
  next : ℕ → ℕ → ℕ → Call
  take_out : ℕ → Tag → Call
  clear_before_lem : ℕ → Tag → Call
  clear : ℕ → Call
  move : ℕ → Tag → Tag → Call

-- done, a number that was asked for, "nothing", or the refusal
pub data Answer : Type 0 where
  ok : Answer
  number : ℕ → Answer
  nothing_there : Answer
  no : Refusal → Answer

pub record Outcome : Type 0 where
  pub answer : Answer
  pub store : Store

abbrev pub outcome : Answer → Store → Outcome
outcome a s = record { answer = a; store = s }

abbrev pub said : Found → Answer
said nothing = nothing_there
said (found n) = number n

-- what is answered, and the store after it: the one given where it is refused
abbrev pub said_by : Result Refusal Outcome → Answer
said_by (done o) = o.answer
said_by (refused r) = no r

abbrev pub left_by : Store → Result Refusal Outcome → Store
left_by s (done o) = o.store
left_by s (refused r) = s

-- where no more than `limit` values, and no more buckets, may be held
unfoldable pub perform : ℕ → Store → Call → Result Refusal Outcome
perform limit s (push a t v) = pushed limit s a t v >>= λ u. done (outcome ok u)
perform limit s (next a o m) = done (outcome (said (next_microstep s a o m)) s)
perform limit s (take_out a t) = done (outcome (said (value_in a t s.values)) (taken s a t))
perform limit s (clear_before_lem a t) = done (outcome ok (cleared_before s a t))
perform limit s (clear a) = done (outcome ok (cleared s a))
perform limit s (move a t u) = moved limit s a t u >>= λ w. done (outcome ok w)

-- ---- the store as arrays with counts

pub record Arrays : Type 0 where
  pub values : List Value
  pub held : ℕ
  pub buckets : List Bucket
  pub «open» : ℕ

-- nothing is held
abbrev pub fresh_arrays : Arrays
fresh_arrays = record { values = replicate room_for_entries blank_value; held = 0; buckets = replicate room_for_entries blank_bucket; «open» = 0 }

-- what is counted is held; what stands in the rest is no part of the store
abbrev pub held_in : Arrays → Store
held_in a = record { values = take a.held a.values; buckets = take a.«open» a.buckets }

-- a store over the old arrays: places that are freed are blank, and those that were free are as they were
abbrev pub laid : Arrays → Store → Arrays
laid a s =
    record {
      values = lay blank_value a.values s.values a.held;
      held = length s.values;
      buckets = lay blank_bucket a.buckets s.buckets a.«open»;
      «open» = length s.buckets;
    }

-- ---- a call on what is handed in

abbrev pub action_of : Call → ℕ
action_of (push a t v) = a
action_of (next a o m) = a
action_of (take_out a t) = a
action_of (clear_before_lem a t) = a
action_of (clear a) = a
action_of (move a t u) = a

-- the argument tags are within the limits
abbrev pub arguments_in : Call → Bool
arguments_in (push a t v) = within t
arguments_in (next a o m) = within (at o m)
arguments_in (take_out a t) = within t
arguments_in (clear_before_lem a t) = within t
arguments_in (clear a) = true
arguments_in (move a t u) = within t && within u

-- the state handed in keeps the state rules: 11
unfoldable pub is_sound : List ℕ → Arrays → Bool
is_sound image a = is_table image && counted_rules (limits image).held (K.count image K.action) a.held a.«open» (held_in a)

-- 5, 6: then the call
unfoldable pub called : List ℕ → Store → Call → Result Refusal Outcome
called image s c = cond (ltb (action_of c) (K.count image K.action)) (cond (arguments_in c) (perform (limits image).held s c) (refused R.ArgumentTag)) (refused R.Key)

-- 11 before all else
unfoldable pub step : List ℕ → Arrays → Call → Result Refusal Outcome
step image a c = cond (is_sound image a) (called image (held_in a) c) (refused R.StateRule)

pub record Answered : Type 0 where
  pub answer : Answer
  pub store : Arrays

-- "A refusal returns its number and the state as given"
abbrev pub answered : Arrays → Result Refusal Outcome → Answered
answered a (done o) = record { answer = o.answer; store = laid a o.store }
answered a (refused r) = record { answer = no r; store = a }
