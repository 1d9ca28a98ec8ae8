-- Document 01, "The plain machine": heads, peek, control only and pop. Assumes nothing.
use Rattle.std.specs.Prelude.{ℕ, zero, suc, Bool, false, cond, not, ◌&&◌, ◌||◌, List, [], ◌∷◌, ◌++◌, map, eqb, length}
use Rattle.lists.specs.Lists.{keep, lose, any, every, from, foldl}
use Rattle.lists.specs.Walk.{done, refused}
use Rattle.table_rows.specs.Bytes.{Image}
use Rattle.table_rows.specs.Rows.{none}
use Rattle.tags.specs.Tags.{Tag, Clock, Answer, same_tag, earlier, to_global, image_of, held_in}
use Rattle.key_set.specs.Sets.{union_of, no_keys, word_count}
use Rattle.machine.specs.Table.{scopes}
use Rattle.machine.specs.State.{Event, Scope, root, ordinary, in_queue, at_head, scope_in, work_less}

-- ---- the least tag of a queue

pub data Least : Type 0 where
  no_tag : Least
  least : Tag → Least

abbrev pub lesser : Tag → Least → Least
lesser t no_tag = least t
lesser t (least u) = least (cond (earlier u t) u t)

-- the least tag of the events of a queue
unfoldable pub least_of : ℕ → List Event → Least
least_of q [] = no_tag
least_of q (e ∷ l) = cond (in_queue q e) (lesser e.tag (least_of q l)) (least_of q l)

-- ---- "Head: root, its least tag; active scope, its least local tag, mapped."

-- a queue, its least tag, and what that is on the global scale
pub data Head : Type 0 where
  empty : Head
  head : ℕ → Tag → Tag → Head

abbrev pub root_of : Least → Head
root_of no_tag = empty
root_of (least t) = head root t t

abbrev pub mapped : ℕ → Tag → Answer → Head
mapped i t (done g) = head i t g
mapped i t (refused n) = empty

abbrev pub mapped_head : Clock → ℕ → Least → Head
mapped_head k i no_tag = empty
mapped_head k i (least t) = mapped i t (image_of k t)

unfoldable pub scope_head_of : Scope → ℕ → Least → Head
scope_head_of x i l = cond x.active (mapped_head x.clock i l) empty

unfoldable pub root_head : List Event → Head
root_head es = root_of (least_of root es)

unfoldable pub head_at : List Scope → List Event → ℕ → Head
head_at ss es i = scope_head_of (scope_in ss i) i (least_of i es)

-- ---- "Peek is the least head over root and active scopes."

-- the second where it is earlier, else the first
abbrev pub sooner : Head → Head → Head
sooner empty h = h
sooner (head q t g) empty = head q t g
sooner (head q t g) (head r u h) = cond (earlier h g) (head r u h) (head q t g)

-- the least scope head, of the lowest-numbered such scope
unfoldable pub scope_head : Image → List Scope → List Event → Head
scope_head img ss es = foldl sooner empty (map (head_at ss es) (from 0 (scopes img)))

unfoldable pub peek : Image → List Scope → List Event → Head
peek img ss es = sooner (root_head es) (scope_head img ss es)

abbrev pub is_at : Tag → Head → Bool
is_at t empty = false
is_at t (head q x g) = same_tag g t

-- ---- "Control only: yes exactly if there is a peek tag, the root head is that tag, all root events there are control,
-- and no active scope has that head."

-- of the root's events at t, only control events
unfoldable pub controlled : Tag → Event → Bool
controlled t e = not (at_head root t e) || e.control

abbrev pub control_at : Image → List Scope → List Event → Head → Bool
control_at img ss es empty = false
control_at img ss es (head q x t) = is_at t (root_head es) && (every (controlled t) es && not (is_at t (scope_head img ss es)))

unfoldable pub control_only : Image → List Scope → List Event → Bool
control_only img ss es = control_at img ss es (peek img ss es)

-- ---- "Pop at peek tag t"

-- what still waits, how much of it is ordinary work, and what was taken so far
pub record Taking : Type 0 where
  pub waiting : List Event
  pub work : ℕ
  pub events : List Event

abbrev pub untaken : List Event → ℕ → Taking
untaken es work = record { waiting = es; work = work; events = [] }

-- all events of a queue at a tag of that queue
unfoldable pub taken : ℕ → Tag → Taking → Taking
taken q x k =
    let p = at_head q x in
    record { waiting = lose p k.waiting; work = work_less p k.waiting k.work; events = k.events ++ keep p k.waiting }

-- all events at a head, if the head is t
abbrev pub take_at_of : Tag → Taking → Head → Taking
take_at_of t k empty = k
take_at_of t k (head q x g) = cond (same_tag g t) (taken q x k) k

-- "while the least scope head is t, all events at the least local tag of the lowest-numbered such scope";
-- each turn takes an event, so n turns are enough for n events
unfoldable pub take_scopes : ℕ → Image → List Scope → Tag → Taking → Taking
take_scopes zero img ss t k = k
take_scopes (suc n) img ss t k =
    let h = scope_head img ss k.waiting in
    cond (is_at t h) (take_scopes n img ss t (take_at_of t k h)) k

-- "the root's events at t if its head is t; then" the scopes'
unfoldable pub taking : Image → List Scope → Tag → Taking → Taking
taking img ss t k = take_scopes (length k.waiting) img ss t (take_at_of t k (root_head k.waiting))

-- "Answer: union of reactions, terminal, some ordinary work, network by "or", and each action key once, in order of taking."
pub record Ready : Type 0 where
  pub tag : Tag
  pub terminal : Bool
  pub work : Bool
  pub network : Bool
  pub held : Bool
  pub reactions : List ℕ
  pub actions : List ℕ

unfoldable pub add_action : List ℕ → Event → List ℕ
add_action l e = cond (eqb e.action none || any (eqb e.action) l) l (l ++ (e.action ∷ []))

-- 02, C-20, of an event of queue q at x: "moved so, by the clock at the pop; root events never are"
unfoldable pub held_at : List Scope → ℕ → Tag → Bool
held_at ss q x = not (eqb q root) && held_in (to_global (scope_in ss q).clock x)

-- .. 'The ready event gains "held": yes if any event in it was moved so'
unfoldable pub ready_of : List Scope → Tag → List Event → Ready
ready_of ss t es =
    record {
      tag = t;
      terminal = any (λ e. e.terminal) es;
      work = any ordinary es;
      network = any (λ e. e.network) es;
      held = any (λ e. held_at ss e.queue e.tag) es;
      reactions = foldl (λ ws e. union_of ws e.reactions) (no_keys word_count) es;
      actions = foldl add_action [] es;
    }
