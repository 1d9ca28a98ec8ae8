-- What the working functions on waiting events mean, over the plain machine's definitions. Assumes nothing.
use Rattle.std.specs.Prelude.{Bool, true, cond, not, ◌&&◌, ◌≡◌, refl, List, [], ◌∷◌, ℕ, ◌+◌, ◌%◌, length, get_or, set, replicate, leb, ltb, eqb, Option, Some, None, Result, Ok, Err}
use Rattle.lists.specs.Held as H
use Rattle.lists.specs.Rows.{tab}
use Rattle.refusals.specs.declared.Refusal.{Refusal}
use Rattle.refusals.specs.declared.Refusal.TheVariants as R
use Rattle.tags.specs.Tags.{Tag, at, earlier}
use Rattle.tags.specs.Views.{of_queue}
use Rattle.tags.specs.declared.QueueTag.{QueueTag}
use Rattle.machine.specs.State.{Event, root, in_queue, at_head}
use Rattle.machine.specs.Heads.{Least, no_tag, least, least_of}
use Rattle.state_scopes.specs.Scopes.{most_scopes}
use Rattle.key_set.specs.Sets.{has}
use Rattle.state_queues.specs.declared.Which.{Which}
use Rattle.state_queues.specs.declared.Which.TheVariants.{At, Inside}

-- ---- accepting

abbrev pub accepted_at : ℕ → ℕ → Result ℕ Refusal
accepted_at limit n = cond (leb limit n) (Err R.Waiting) (Ok (n + 1))

-- the slots after it
abbrev pub accepted_in : ℕ → ℕ → Event → List Event → List Event
accepted_in limit n e es = cond (leb limit n) es (set es n e)

-- ---- the least tag of every queue, in one array: the scopes' by their numbers, then the root's

abbrev pub queues : ℕ
queues = most_scopes + 1

abbrev pub of_earliest : Option QueueTag → Least
of_earliest None = no_tag
of_earliest (Some t) = least (of_queue t)

-- no earlier than it
abbrev pub lowers : Tag → Least → Bool
lowers t no_tag = true
lowers t (least u) = not (earlier u t)

-- an event of a queue that takes its place
unfoldable pub is_lower : ℕ → Least → Event → Bool
is_lower q l e = in_queue q e && lowers e.tag l

-- which entry is a queue's: past the end for what is no queue
abbrev pub entry_of : ℕ → ℕ
entry_of q = cond (eqb q root) most_scopes (cond (ltb q most_scopes) q queues)

-- and whose an entry is
abbrev pub queue_of : ℕ → ℕ
queue_of k = cond (eqb k most_scopes) root k

abbrev pub least_words : ℕ
least_words = 3

unfoldable pub encode : Least → List ℕ
encode no_tag = replicate least_words 0
encode (least t) = 1 ∷ t.offset ∷ t.microstep ∷ []

unfoldable pub decode : List ℕ → Least
decode r = cond (eqb (get_or r 0 0) 1) (least (at (get_or r 1 0) (get_or r 2 0 % 4294967296))) no_tag

pub encode_long : (l : Least) → length (encode l) ≡ least_words
unfolding encode
encode_long no_tag = refl
encode_long (least t) = refl

abbrev pub leasts_of : List ℕ → List Least
leasts_of ws = H.things_of decode encode least_words queues encode_long ws

abbrev pub Whole : List ℕ → Type 0
Whole ws = H.Whole decode encode least_words queues encode_long ws

abbrev pub Held : List ℕ → List Least → Type 0
Held ws l = H.Held decode encode least_words queues encode_long ws l

-- every queue's least tag
abbrev pub heads_of : List Event → List Least
heads_of es = tab (λ k. least_of (queue_of k) es) 0 queues

-- ---- taking out: the events of a queue at a tag, or those of some scopes

unfoldable pub goes_of : Which → Event → Bool
goes_of (At q t) e = at_head q (of_queue t) e
goes_of (Inside s) e = has s.words e.queue

abbrev pub one_if : Bool → ℕ
one_if b = cond b 1 0
