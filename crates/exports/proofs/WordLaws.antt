-- The words of a day's arrays are those of the state that they hold, and so are their bytes. Assumes nothing.
use mathlib.Core.Bool.{Bool, true, false, cond}
use mir.Val.{bool_byte}
use mathlib.Core.Path.{◌≡◌, refl, ap, ◌∙◌}
use mathlib.Core.List.{List, [], ◌∷◌, ◌++◌}
use Prim.Native.Nat.{ℕ, ◌*◌, ◌≤◌}
use lib.ListN.{length, get_or}
use Rattle.lists.specs.Held.{held_words, whole_long}
use Rattle.table_rows.specs.Bytes.{Image}
use Rattle.store_words.specs.Entries.{room_for_entries}
use Rattle.store_words.specs.Words.{decode_value, encode_value, value_words, long_value, decode_bucket, encode_bucket, bucket_words, long_bucket}
use Rattle.machine.specs.State.{State}
use Rattle.state_events.specs.Slots.{room_for_events}
use Rattle.machine.specs.Machine.{Reply, ok, refusal, nothing, ready, tag, flag, number, perform, peek_tag, only_control}
use Rattle.machine.specs.Heads.{control_only}
use Rattle.state_events.specs.Slots as slot
use Rattle.state_queues.specs.Queue.{heads_of, Held as HeldHeads}
use Rattle.state_scopes.specs.Scopes as scope
use Rattle.state_scopes.specs.Scopes.{most_scopes}
use Rattle.state_room.specs.PartRows.{Queued, Shows}
use Rattle.state_room.specs.Holds.{Rows, state_in, shows}
use Rattle.state_room.proofs.Holds.{waits}
use Rattle.call_pop.specs.Pops.{reply_of}
use Rattle.std.specs.Prelude as std
use Rattle.tags.specs.declared.GlobalTag.{GlobalTag}
use Rattle.day_run.specs.Views.{Kept}
use Rattle.byte_writer.specs.Written.{Written}
use Rattle.byte_writer.proofs.WrittenLaws.{written_then, written_as}
use Rattle.exports.specs.Told.{word_bytes}
use Rattle.exports.specs.State.{peek_words, flag_word, first_words, state_bytes}

-- a peek's words are three
pub three_are : (r : Reply) {ws : List ℕ} → ws ≡ peek_words r → (get_or ws 0 0 ∷ get_or ws 1 0 ∷ get_or ws 2 0 ∷ []) ≡ peek_words r
three_are ok e = ap (λ w. get_or w 0 0 ∷ get_or w 1 0 ∷ get_or w 2 0 ∷ []) e
three_are (refusal n) e = ap (λ w. get_or w 0 0 ∷ get_or w 1 0 ∷ get_or w 2 0 ∷ []) e
three_are nothing e = ap (λ w. get_or w 0 0 ∷ get_or w 1 0 ∷ get_or w 2 0 ∷ []) e
three_are (ready q) e = ap (λ w. get_or w 0 0 ∷ get_or w 1 0 ∷ get_or w 2 0 ∷ []) e
three_are (tag t) e = ap (λ w. get_or w 0 0 ∷ get_or w 1 0 ∷ get_or w 2 0 ∷ []) e
three_are (flag b) e = ap (λ w. get_or w 0 0 ∷ get_or w 1 0 ∷ get_or w 2 0 ∷ []) e
three_are (number n) e = ap (λ w. get_or w 0 0 ∷ get_or w 1 0 ∷ get_or w 2 0 ∷ []) e

-- a bool as a number
pub bit_is : (t : Bool) → bool_byte t ≡ cond t 1 0
bit_is true = refl
bit_is false = refl

bytes_of : {v w l m : List ℕ} → v ≡ w → l ≡ m → word_bytes v ++ l ≡ word_bytes w ++ m
bytes_of {v} {w} {l} {m} p q = ap (λ x. word_bytes x ++ l) p ∙ ap (λ x. word_bytes w ++ x) q

module _ {img : Image} {d : Rows} (k : Kept img d) where
  pub few_wait : d.ledger.counts.waiting ≤ room_for_events
  few_wait = (waits img (state_in img d) d k.holds).few

  pub events_long : length d.events ≡ room_for_events * slot.slot_words
  events_long = whole_long slot.decode slot.encode slot.slot_words room_for_events slot.encode_long d.events k.holds.queued.held.whole

  pub values_long : length d.values ≡ room_for_entries * value_words
  values_long = whole_long decode_value encode_value value_words room_for_entries long_value d.values k.holds.stored.values.whole

  pub buckets_long : length d.buckets ≡ room_for_entries * bucket_words
  buckets_long = whole_long decode_bucket encode_bucket bucket_words room_for_entries long_bucket d.buckets k.holds.stored.buckets.whole

  -- what is answered of every state that the arrays hold
  abbrev Answers : Reply → (State → Reply) → Type 0
  Answers r f = (s : State) → Queued s.waiting s.work d.events d.ledger.counts → Shows s d.scopes → r ≡ f s

  pub first_are : (p : std.Option GlobalTag) {hs : List ℕ} {f o m : ℕ} {only : Bool} {c : ℕ} → HeldHeads hs (heads_of (state_in img d).waiting) →
      ((s : State) → HeldHeads hs (heads_of s.waiting) → Shows s d.scopes → reply_of p ≡ (perform img s peek_tag).reply) → (f ∷ o ∷ m ∷ []) ≡ peek_words (reply_of p) →
      Answers (flag only) (λ s. (perform img s only_control).reply) → c ≡ flag_word only →
      (f ∷ o ∷ m ∷ c ∷ d.ledger.counts.work ∷ d.ledger.counts.waiting ∷ d.ledger.held.values ∷ d.ledger.held.buckets ∷ []) ≡ first_words img (state_in img d)
  unfolding first_words perform
  first_are p {hs} {f} {o} {m} {only} {c} w r e t g =
      let s = state_in img d in
      let q = k.holds.queued in
      let h = shows img s d k.holds in
      let a = e ∙ ap peek_words (r s w h) in
      let y : flag only ≡ flag (control_only img s.scopes s.waiting) = t s q h in
      let b : only ≡ control_only img s.scopes s.waiting = cc in
      ap (λ l. l ++ (c ∷ d.ledger.counts.work ∷ d.ledger.counts.waiting ∷ d.ledger.held.values ∷ d.ledger.held.buckets ∷ [])) a ∙
      rw (g, b, ← k.holds.queued.waiting, ← k.holds.stored.some_values, ← k.holds.stored.some_buckets)

  pub state_are : {old : List ℕ} {first a b c e f g : List ℕ} {i j l m n end : ℕ} → first ≡ first_words img (state_in img d) → Written old 0 (word_bytes first) a i →
      Written a i (word_bytes d.ledger.modes) b j → Written b j (word_bytes d.scopes) c l → Written c l (word_bytes d.events) e m →
      Written e m (word_bytes d.values) f n → Written f n (word_bytes d.buckets) g end → Written old 0 (state_bytes img (state_in img d)) g end
  unfolding state_bytes
  state_are i wa wb wc we wf wg =
      let u = k.holds in
      written_as (written_then wa (written_then wb (written_then wc (written_then we (written_then wf wg)))))
      (bytes_of i
      (bytes_of u.moded
      (bytes_of (held_words scope.decode scope.encode scope.scope_words most_scopes scope.encode_long _ _ u.scoped)
      (bytes_of (held_words slot.decode slot.encode slot.slot_words room_for_events slot.encode_long _ _ u.queued.held)
      (bytes_of (held_words decode_value encode_value value_words room_for_entries long_value _ _ u.stored.values)
      (ap word_bytes (held_words decode_bucket encode_bucket bucket_words room_for_entries long_bucket _ _ u.stored.buckets)))))))
