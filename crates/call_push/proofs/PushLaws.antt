-- A law for each case of a push, and the loop over its keys. Assumes nothing.
use Rattle.std.specs.Prelude.{Ok, Err, is_err}
use Rattle.std.specs.Prelude as code
use mir.Val.{bool_byte}
use mathlib.Core.Bool.{Bool, true, false, cond, not}
use mathlib.Core.Path.{◌≡◌, refl, sym, ap, ◌∙◌}
use mathlib.Core.Logic.{⊎_elim}
use mathlib.Core.List.{List, [], ◌∷◌, ◌++◌}
use Prim.Native.Nat.{ℕ, suc, ◌+◌, ◌<◌, ◌≤◌}
use native.Mathlib.Omega.{arith}
use native.Mathlib.Numerals.{add-one}
use lib.ListN.{length, take, drop, get_or, length-append, drop_of_length-le}
use lib.Seq.{drop-cons}
use lib.Dec.{ltb, leb}
use borrow.Author.Tests.{le-leb, lt-leb, lt-ltb, le-ltb}
use Rattle.lists.specs.Tests.{below?}
use Rattle.lists.specs.Lists.{every, count, foldl, count_append, count_shorter}
use Rattle.lists.specs.Walk.{Result, done, refused}
use Rattle.lists.specs.Held as H
use Rattle.refusals.specs.declared.Refusal.{Refusal}
use Rattle.refusals.specs.declared.Refusal.TheVariants as R
use Rattle.table_rows.specs.Bytes.{Image}
use Rattle.table_rows.specs.Limits.{limits}
use Rattle.table_rows.specs.Rows.{action_scope}
use Rattle.tags.specs.Tags.{Tag, MappedAnswer, within, to_local, to_global, image_of, tag_only}
use Rattle.tags.specs.Views.{of_local, mapped_global}
use Rattle.tags.specs.declared.LocalTag.{LocalTag}
use Rattle.tags.specs.declared.Mapped.{Mapped}
use Rattle.key_set.specs.Sets.{insert_key, no_keys, word_count}
use Rattle.machine.specs.Table.{actions, set_of}
use Rattle.machine.specs.State.{Event, State, root, root_event, ordinary, tally, with_queue, accepted}
use Rattle.machine.specs.Transition.{is_tag}
use Rattle.machine.specs.Machine.{refusal, settle, to_root, local_tag, action_event, action_placed, root_made, action_made, push_root, push_action, perform}
use Rattle.state_events.specs.Slots as slot
use Rattle.state_events.specs.Slots.{events_of, room_for_events, waiting_fits}
use Rattle.state_scopes.specs.Scopes.{Scope, blank}
use Rattle.state_queues.specs.Queue.{accepted_at, accepted_in}
use Rattle.state_room.specs.declared.Counts.{Counts}
use Rattle.state_room.specs.PartRows.{Queued, Waits, Shows, queued_is, queued_waits, queued_more, waits_queued}
use Rattle.call_push.specs.Pushes.{made, call_of, pushed, Pushes}
use Rattle.call_push.specs.declared.Push.{Push}
use Rattle.call_push.specs.declared.Push.TheVariants as P

-- ---- the keys: the table has the first i, and what is left

pub record Keying (n : ℕ) (keys : List ℕ) (i : ℕ) (ws : List ℕ) : Type 0 where
  pub near : i ≤ length keys
  pub exist : every (λ k. ltb k n) keys ≡ every (λ k. ltb k n) (drop i keys)
  pub set : set_of keys ≡ foldl insert_key ws (drop i keys)

module _ (n : ℕ) (keys : List ℕ) where
  pub keying_start : (ws : List ℕ) → ws ≡ no_keys word_count → Keying n keys 0 ws
  unfolding set_of
  keying_start ws e = record { near = omega arith; exist = refl; set = rw e }

  module _ (i : ℕ) (ws : List ℕ) (w : Keying n keys i ws) (h : i < length keys) where
    one_less : drop i keys ≡ get_or keys i 0 ∷ drop (i + 1) keys
    one_less = rw (add-one, drop-cons keys i 0 h)

    pub keying_next : (next : List ℕ) → get_or keys i 0 < n → next ≡ insert_key ws (get_or keys i 0) → Keying n keys (i + 1) next
    unfolding every foldl
    keying_next next k f =
        record { near = omega arith; exist = w.exist ∙ rw one_less (simp (lt-ltb (get_or keys i 0) n k)); set = w.set ∙ rw (one_less, f) }

    pub keying_stop : n ≤ get_or keys i 0 → every (λ k. ltb k n) keys ≡ false
    unfolding every
    keying_stop k = w.exist ∙ rw one_less (simp (le-ltb (get_or keys i 0) n k))

  module _ (ws : List ℕ) (w : Keying n keys (length keys) ws) where
    pub keying_known : every (λ k. ltb k n) keys ≡ true
    unfolding every
    keying_known = w.exist ∙ rw (drop_of_length-le keys {i = length keys} (omega arith))

    pub keying_set : ws ≡ set_of keys
    unfolding foldl
    keying_set = sym (w.set ∙ rw (drop_of_length-le keys {i = length keys} (omega arith)))

-- ---- an event of the root

-- the keys exist and the tag is within the limits
module _ (known : Bool) (t : Tag) (ws : List ℕ) (a b c : Bool) {r : Result Refusal Event} where
  pub root_done : known ≡ true → within t ≡ true → r ≡ done (root_event t ws a b c) → r ≡ root_made known t ws a b c
  unfolding root_made
  root_done k w e = e ∙ rw (k, w)

-- ---- an action's event

maps_told : (m : code.Result Mapped Refusal) {a : MappedAnswer} → mapped_global m ≡ a → is_tag (tag_only a) ≡ not (is_err m)
maps_told (Ok t) h = ap (λ r. is_tag (tag_only r)) (sym h)
maps_told (Err n) h = ap (λ r. is_tag (tag_only r)) (sym h)

module _ (ss : List Scope) (i : ℕ) (t : Tag) (s : Scope) (g : s ≡ get_or ss i blank) where
  pub local_over : {n : Refusal} → refused n ≡ to_local s.clock t → refused n ≡ local_tag (get_or ss i blank) t
  unfolding local_tag
  local_over e = rw (← g, ← e)

  module _ (x : LocalTag) (e : done (of_local x) ≡ to_local s.clock t) where
    pub local_idle : s.active ≡ false → done (of_local x) ≡ local_tag (get_or ss i blank) t
    unfolding local_tag
    local_idle a = rw (← g, ← e, a)

    module _ (m : code.Result Mapped Refusal) (h : mapped_global m ≡ to_global s.clock (of_local x)) {b : Bool} (d : b ≡ is_err m) (a : s.active ≡ true) where
      pub local_maps : b ≡ false → done (of_local x) ≡ local_tag (get_or ss i blank) t
      unfolding local_tag
      local_maps f = let k : is_tag (image_of s.clock (of_local x)) ≡ true = maps_told m h ∙ ap not (sym d ∙ f) in rw (← g, ← e, a, k)

      pub local_image : b ≡ true → refused R.MappedTag ≡ local_tag (get_or ss i blank) t
      unfolding local_tag
      local_image f = let k : is_tag (image_of s.clock (of_local x)) ≡ false = maps_told m h ∙ ap not (sym d ∙ f) in rw (← g, ← e, a, k)

pub placed_refused : (img : Image) (ss : List Scope) (a : ℕ) (t : Tag) (terminal : Bool) (ws : List ℕ) {n : Refusal} → to_root img a ≡ false →
    refused n ≡ local_tag (get_or ss (action_scope img a) blank) t → refused n ≡ action_placed img (get_or ss (action_scope img a) blank) a t terminal ws
unfolding action_placed
placed_refused img ss a t terminal ws o l = rw (o, ← l)

module _ (img : Image) (ss : List Scope) (a : ℕ) (t : Tag) (terminal : Bool) (ws : List ℕ) {r : Result Refusal Event} where
  pub placed_root : to_root img a ≡ true → r ≡ done (action_event root a t t terminal ws) → r ≡ action_placed img (get_or ss (action_scope img a) blank) a t terminal ws
  unfolding action_placed
  placed_root o e = e ∙ rw o

  pub placed_there : {x : Tag} → to_root img a ≡ false → done x ≡ local_tag (get_or ss (action_scope img a) blank) t → r ≡ done (action_event (action_scope img a) a x t terminal ws) →
      r ≡ action_placed img (get_or ss (action_scope img a) blank) a t terminal ws
  unfolding action_placed
  placed_there o l e = e ∙ rw (o, ← l)

module _ (img : Image) (x : Scope) (a : ℕ) (t : Tag) (terminal : Bool) (ws : List ℕ) (known : Bool) where
  pub action_none : actions img ≤ a → refused R.Key ≡ action_made img x a t terminal known ws
  unfolding action_made
  action_none h = rw (le-ltb a (actions img) h)

  module _ (h : a < actions img) where
    pub action_key : known ≡ false → refused R.Key ≡ action_made img x a t terminal known ws
    unfolding action_made
    action_key k = rw (lt-ltb a (actions img) h, k)

    pub action_tag : known ≡ true → within t ≡ false → refused R.ArgumentTag ≡ action_made img x a t terminal known ws
    unfolding action_made
    action_tag k w = rw (lt-ltb a (actions img) h, k, w)

    pub action_placed_lem : known ≡ true → within t ≡ true → action_placed img x a t terminal ws ≡ action_made img x a t terminal known ws
    unfolding action_made
    action_placed_lem k w = rw (lt-ltb a (actions img) h, k, w)

-- ---- accepting

never_ok : {P A B : Type 0} {n : B} {m : A} → ◌≡◌ {A = code.Result A B} (Err n) (Ok m) → P
never_ok e = let z : ◌≡◌ {A = ℕ} 0 1 = cc in absurd (omega arith)

-- as many wait as may, or there is room
module _ (limit n : ℕ) (a : code.Result ℕ Refusal) (e : a ≡ accepted_at limit n) where
  full : limit ≤ n → a ≡ Err R.Waiting
  full h = e ∙ simp (le-leb limit n h)

  room : n < limit → a ≡ Ok (n + 1)
  room h = e ∙ simp (lt-leb limit n h)

  pub accept_full : {m : Refusal} → a ≡ Err m → (limit ≤ n) × (m ≡ R.Waiting)
  accept_full {m} d = ⊎_elim (λ (h : n < limit). never_ok (sym d ∙ room h)) (λ (h : limit ≤ n). (h, (let q = full h in cc))) (below? n limit)

  pub accept_room : {m : ℕ} → a ≡ Ok m → (n < limit) × (m ≡ n + 1)
  accept_room {m} d = ⊎_elim (λ (h : n < limit). (h, (let q = room h in cc))) (λ (h : limit ≤ n). never_ok (sym (full h) ∙ d)) (below? n limit)

-- one more event counts if it is ordinary
tally_more : (l : List Event) (n : ℕ) (e : Event) → n ≡ count ordinary l → tally e n ≡ count ordinary (l ++ (e ∷ []))
unfolding count
tally_more l n e h = rw (h, count_append ordinary l (e ∷ [])) (go (ordinary e))
  where
    go : (b : Bool) → cond b (count ordinary l + 1) (count ordinary l) ≡ count ordinary l + cond b (suc 0) 0
    go true = refl
    go false = omega arith

module _ (ws : List ℕ) (c : Counts) (w : Waits ws c) where
  pub work_small : c.work ≤ room_for_events
  work_small =
      let q = (waits_queued ws c w).waiting in
      omega (arith, w.counted, w.few, count_shorter ordinary (take c.waiting (events_of ws)))

  -- the image's limit, as the code has it
  module _ (img : Image) (e : Event) (limit : ℕ) (m : limit ≡ (limits img).waiting) (a : code.Result ℕ Refusal) (f : a ≡ accepted_at limit c.waiting)
      (out : List ℕ) (k : slot.Held out (accepted_in limit c.waiting e (events_of ws))) where
    pub give_full : {n : Refusal} → a ≡ Err n → (s : State) → Queued s.waiting s.work ws c → Pushes (pushed img s (done e)) c (Err n) out
    unfolding accepted
    give_full {n} r s q =
        let x = accept_full limit c.waiting a f r in
        let none : limit ≤ length s.waiting = rw (← q.waiting) x.0 in
        let same : out ≡ ws =
        H.rows_back slot.decode slot.encode slot.slot_words room_for_events slot.encode_long ws out w.held.whole (rw (le-leb limit c.waiting x.0) at k) in
        rw (same, ← m, le-leb limit _ none) (record { reply = ap refusal x.1; queued = q; waits = w })

    pub give_done : {p : ℕ} (n : ℕ) → a ≡ Ok p → n ≡ cond (ordinary e) (c.work + 1) c.work →
        (s : State) → Queued s.waiting s.work ws c → Pushes (pushed img s (done e)) c (Ok (record { waiting = p; work = n })) out
    unfolding accepted
    give_done {p} n r t s q =
        let x = accept_room limit c.waiting a f r in
        let l = s.waiting in
        let few : length l < limit = rw (← q.waiting) x.0 in
        let fits : limit ≤ room_for_events = rw m (waiting_fits img) in
        let longer : length (l ++ (e ∷ [])) ≡ length l + 1 = length-append l (e ∷ []) in
        let held = queued_more l s.work ws c e out q (rw (lt-leb limit c.waiting x.0) at k) in
        let new : Queued (l ++ (e ∷ [])) (tally e s.work) out (record { waiting = p; work = n }) =
        record { held = held; waiting = omega (arith, x.1, q.waiting); work = t ∙ ap (tally e) q.work } in
        let counted : s.work ≡ count ordinary l = sym q.work ∙ (w.counted ∙ ap (count ordinary) (queued_is l s.work ws c q (omega arith))) in
        rw (← m, lt-leb limit _ few)
        (record { reply = refl; queued = new; waits = queued_waits _ _ out _ new (omega arith) (tally_more l s.work e counted) })

-- a flag is added
pub byte_small : (b : Bool) → bool_byte b ≤ 1
byte_small true = omega arith
byte_small false = omega arith

pub one_more : (b : Bool) (n : ℕ) → n + bool_byte b ≡ cond b (n + 1) n
one_more true n = refl
one_more false n = omega arith

-- a push changes the queue and nothing else
pub push_frame : (img : Image) (s : State) (m : Result Refusal Event) → let t = (pushed img s m).state in t ≡ with_queue s t.waiting t.work
unfolding accepted
push_frame img s (refused n) = refl
push_frame img s (done e) = go (leb (limits img).waiting (length s.waiting))
  where
    go : (b : Bool) → let t = (settle s (cond b (refused R.Waiting) (done (with_queue s (s.waiting ++ (e ∷ [])) (tally e s.work))))).state in t ≡ with_queue s t.waiting t.work
    go true = refl
    go false = refl

-- the machine's call by its event
pub performs_made : (img : Image) (s : State) (ws : List ℕ) → Shows s ws → (p : Push) (ks : List ℕ) → perform img s (call_of p ks) ≡ pushed img s (made img ws p ks)
unfolding perform push_root push_action
performs_made img s ws h (P.Plain t terminal) ks = refl
performs_made img s ws h (P.Network t) ks = refl
performs_made img s ws h (P.Control t) ks = refl
performs_made img s ws h (P.Action p) ks = rw (h (action_scope img p.action))

pub call_frame : (img : Image) (s : State) (ws : List ℕ) → Shows s ws → (p : Push) (ks : List ℕ) →
    let t = (perform img s (call_of p ks)).state in t ≡ with_queue s t.waiting t.work
call_frame img s ws h p ks = rw (performs_made img s ws h p ks) (push_frame img s (made img ws p ks))
