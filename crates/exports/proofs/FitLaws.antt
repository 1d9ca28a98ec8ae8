-- A state has as many bytes as are asked for it, so none of it is left out. Assumes nothing.
use mathlib.Core.Path.{◌≡◌, refl, ap, ◌∙◌}
use mathlib.Core.List.{List, [], ◌∷◌, ◌++◌}
use Prim.Native.Nat.{ℕ, ◌+◌, ◌*◌}
use native.Mathlib.Omega.{arith}
use lib.ListN.{length, length-append}
use Rattle.lists.specs.Rows.{flat, flat_length}
use Rattle.table_rows.specs.Bytes.{Image}
use Rattle.store_words.specs.Entries.{room_for_entries, blank_value, blank_bucket}
use Rattle.store_words.specs.Words.{encode_value, value_words, long_value, encode_bucket, bucket_words, long_bucket}
use Rattle.machine.specs.State.{State}
use Rattle.state_events.specs.Slots.{room_for_events}
use Rattle.machine.specs.Heads.{peek}
use Rattle.machine.specs.Machine.{Reply, ok, refusal, nothing, ready, tag, flag, number, peek_at}
use Rattle.state_events.specs.Slots as slot
use Rattle.state_scopes.specs.Scopes as scope
use Rattle.state_scopes.specs.Scopes.{most_scopes}
use Rattle.state_room.specs.Padded.{padded, padded_length}
use Rattle.state_room.specs.PartRows.{most_reactors}
use Rattle.byte_writer.proofs.NumberLaws.{number_length}
use Rattle.exports.specs.Told.{word_bytes}
use Rattle.exports.specs.State.{peek_words, first_words, modes_in, state_bytes, state_length}

words_length : (ws : List ℕ) → length (word_bytes ws) ≡ 8 * length ws
unfolding word_bytes
words_length [] = refl
words_length (n ∷ ws) = rw (length-append, number_length 8 n, words_length ws) (omega arith)

record Long (l : List ℕ) (n : ℕ) : Type 0 where
  is : length l ≡ n

bytes_long : {ws : List ℕ} {n : ℕ} → Long ws n → Long (word_bytes ws) (8 * n)
bytes_long {ws} h = record { is = words_length ws ∙ ap (λ m. 8 * m) h.is }

then_long : {a b : List ℕ} {m n : ℕ} → Long a m → Long b n → Long (a ++ b) (m + n)
then_long {a} {b} {m} h k = record { is = length-append a b ∙ (ap (λ x. x + length b) h.is ∙ ap (λ x. m + x) k.is) }

peek_long : (r : Reply) → Long (peek_words r) 3
peek_long ok = record { is = refl }
peek_long (refusal n) = record { is = refl }
peek_long nothing = record { is = refl }
peek_long (ready r) = record { is = refl }
peek_long (tag t) = record { is = refl }
peek_long (flag b) = record { is = refl }
peek_long (number n) = record { is = refl }

first_long : (img : Image) (s : State) → Long (first_words img s) 8
unfolding first_words
first_long img s = then_long (peek_long (peek_at (peek img s.scopes s.waiting))) (record { is = refl })

modes_long : (s : State) → Long (modes_in s) most_reactors
modes_long s = record { is = padded_length 0 most_reactors s.modes }

rows_long : {A : Type 0} (encode : A → List ℕ) (w : ℕ) (long : (a : A) → length (encode a) ≡ w) (blank : A) (n : ℕ) (l : List A) → Long (flat encode w long (padded blank n l)) (n * w)
rows_long encode w long blank n l = record { is = flat_length encode w long (padded blank n l) ∙ ap (λ m. m * w) (padded_length blank n l) }

all_long : (img : Image) (s : State) → Long (state_bytes img s) state_length
unfolding state_bytes
all_long img s =
    then_long (bytes_long (first_long img s))
    (then_long (bytes_long (modes_long s))
    (then_long (bytes_long (rows_long scope.encode scope.scope_words scope.encode_long scope.blank most_scopes s.scopes))
    (then_long (bytes_long (rows_long slot.encode slot.slot_words slot.encode_long slot.blank room_for_events s.waiting))
    (then_long (bytes_long (rows_long encode_value value_words long_value blank_value room_for_entries s.store.values))
    (bytes_long (rows_long encode_bucket bucket_words long_bucket blank_bucket room_for_entries s.store.buckets))))))

pub state_fits : (img : Image) (s : State) → length (state_bytes img s) ≡ state_length
state_fits img s = (all_long img s).is
