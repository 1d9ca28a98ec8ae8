-- An event as a row of words, and all events of an array of words: an instance of `Held` of crate lists. Any words are events. Assumes nothing.
use Rattle.std.specs.Prelude.{false, ◌≡◌, refl, List, [], ◌∷◌, ◌++◌, ℕ, ◌+◌, ◌*◌, ◌/◌, ◌%◌, ◌≤◌, length, get_or, eqb}
use Rattle.lists.specs.Lists.{every}
use Rattle.lists.specs.Tests.{bit_of}
use Rattle.lists.specs.Rows.{tab}
use Rattle.lists.specs.Held as H
use Rattle.table_rows.specs.Bytes.{Image}
use Rattle.table_rows.specs.Limits.{versions, limits, limits_fit}
use Rattle.key_set.specs.Sets.{no_keys, word_count}
use Rattle.tags.specs.Tags.{at, zero_tag}
use Rattle.tags.specs.Views.{of_global, of_queue}
use Rattle.machine.specs.State.{Event}
use Rattle.state_events.specs.declared.Slot.{Slot}
use Rattle.state_events.specs.declared.Due.{Due}

-- how many events the array has room for: no fewer than any image lets wait
abbrev pub room_for_events : ℕ
room_for_events = 256

pub waiting_fits : (s : Image) → (limits s).waiting ≤ room_for_events
unfolding versions every
waiting_fits s = limits_fit (λ l. l.waiting) room_for_events tt s

-- the event in a slot
abbrev pub event_of : Slot → Event
event_of s =
    record {
      queue = s.queue;
      tag = of_queue s.tag;
      reactions = s.reactions.words;
      terminal = s.terminal;
      control = s.control;
      network = s.network;
      action = s.action;
      stored = of_global s.stored;
    }

-- an event's queue and tag
pub record IsDue (d : Due) (e : Event) : Type 0 where
  pub queue : d.queue ≡ e.queue
  pub tag : of_queue d.tag ≡ e.tag

-- what stands in a slot that is free
abbrev pub blank : Event
blank =
    record { queue = 0; tag = zero_tag; reactions = no_keys word_count; terminal = false; control = false; network = false; action = 0; stored = zero_tag }

-- ---- the words of an event

-- how many come before those of its reactions
abbrev pub number_words : ℕ
number_words = 4

abbrev pub slot_words : ℕ
slot_words = number_words + word_count

-- queue, action and the three flags in one word
unfoldable pub head_word : Event → ℕ
head_word e = e.queue + e.action * 65536 + bit_of e.terminal * 4294967296 + bit_of e.control * 8589934592 + bit_of e.network * 17179869184

-- the microsteps of tag and stored tag in one
unfoldable pub steps_word : Event → ℕ
steps_word e = e.tag.microstep + e.stored.microstep * 4294967296

abbrev pub numbers_of : Event → List ℕ
numbers_of e = head_word e ∷ e.tag.offset ∷ steps_word e ∷ e.stored.offset ∷ []

unfoldable pub encode : Event → List ℕ
encode e = numbers_of e ++ tab (λ j. get_or e.reactions j 0) 0 word_count

unfoldable pub decode : List ℕ → Event
decode r =
    record {
      queue = get_or r 0 0 % 65536;
      tag = at (get_or r 1 0) (get_or r 2 0 % 4294967296);
      reactions = tab (λ j. get_or r (number_words + j) 0) 0 word_count;
      terminal = eqb (get_or r 0 0 / 4294967296 % 2) 1;
      control = eqb (get_or r 0 0 / 8589934592 % 2) 1;
      network = eqb (get_or r 0 0 / 17179869184 % 2) 1;
      action = get_or r 0 0 / 65536 % 65536;
      stored = at (get_or r 3 0) (get_or r 2 0 / 4294967296 % 4294967296);
    }

pub encode_long : (e : Event) → length (encode e) ≡ slot_words
unfolding encode tab
encode_long e = refl

-- the events that an array of words holds
abbrev pub events_of : List ℕ → List Event
events_of ws = H.things_of decode encode slot_words room_for_events encode_long ws

-- the words are those of the events that they hold, and no others
abbrev pub Whole : List ℕ → Type 0
Whole ws = H.Whole decode encode slot_words room_for_events encode_long ws

-- and these are the events
abbrev pub Held : List ℕ → List Event → Type 0
Held ws l = H.Held decode encode slot_words room_for_events encode_long ws l
