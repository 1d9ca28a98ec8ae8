-- The code's store and answers as the definitions'. Assumes nothing.
use Rattle.std.specs.Prelude.{ℕ, ◌≡◌, List, map, Ok, Err}
use Rattle.std.specs.Prelude as code
use Rattle.lists.specs.Walk.{Result}
use Rattle.refusals.specs.declared.Refusal.{Refusal}
use Rattle.tags.specs.Views.{of_global}
use Rattle.store_words.specs.Entries.{of_value, of_bucket}
use Rattle.store_words.specs.Words.{values_of, buckets_of}
use Rattle.store_calls.specs.declared.Counts.{Counts}
use Rattle.store_calls.specs.Lent.{store_of, Laid}
use Rattle.value_store.specs.Calls as C
use Rattle.value_store.specs.Calls.{Arrays, said_by, left_by}
use Rattle.value_store.specs.declared.Store.{Store}
use Rattle.value_store.specs.declared.Answer.{Answer}
use Rattle.value_store.specs.declared.Answer.TheVariants as A
use Rattle.value_store.specs.declared.Answered.{Answered}
use Rattle.value_store.specs.declared.Call.{Call}
use Rattle.value_store.specs.declared.Call.TheVariants as K
use Rattle.value_store.specs.declared.Called.{Called}

abbrev pub arrays_of : Store → Arrays
arrays_of s = record { values = map of_value s.values; held = s.held; buckets = map of_bucket s.buckets; «open» = s.«open» }

abbrev pub said_of : Answer → C.Answer
said_of A.Done = C.ok
said_of (A.Number n) = C.number n
said_of A.Nothing = C.nothing_there

abbrev pub answer_of : code.Result Answer Refusal → C.Answer
answer_of (Ok a) = said_of a
answer_of (Err r) = C.no r

abbrev pub answered_of : Answered → C.Answered
answered_of a = record { answer = answer_of a.answer; store = arrays_of a.store }

abbrev pub call_of : Call → C.Call
call_of (K.Push a t v) = C.push a (of_global t) v
call_of (K.NextMicrostep a o m) = C.next a o m
call_of (K.Take a t) = C.take_out a (of_global t)
call_of (K.ClearOlderThan a t) = C.clear_before_lem a (of_global t)
call_of (K.Clear a) = C.clear a
call_of (K.MoveValue a t u) = C.move a (of_global t) (of_global u)

-- what the code's steps between mean

abbrev pub answer_for : code.Result Unit Refusal → C.Answer
answer_for (Ok x) = C.ok
answer_for (Err r) = C.no r

-- the arrays that rows hold
abbrev pub arrays_in : List ℕ → List ℕ → Counts → Arrays
arrays_in vs bs n = record { values = values_of vs; held = n.values; buckets = buckets_of bs; «open» = n.buckets }

-- what a call on lent rows answers and leaves
pub record DidCall (vs bs : List ℕ) (n : Counts) (r : Result Refusal C.Outcome) (vs-end bs-end : List ℕ) (c : Called) : Type 0 where
  pub answer : answer_of c.answer ≡ said_by r
  pub laid : Laid vs bs n (left_by (store_of vs bs n) r) vs-end bs-end c.held
