-- The state rules from their parts on rows. Assumes nothing.
use mathlib.Core.Bool.{Bool, true, false, ◌&&◌}
use mathlib.Core.Path.{◌≡◌, refl, ◌∙◌, sym}
use mathlib.Core.List.{List, [], ◌∷◌}
use Prim.Native.Nat.{ℕ, zero, suc, ◌+◌, ◌≤◌, ◌<◌}
use native.Mathlib.Nat.{le_trans, min-eq_left}
use native.Mathlib.Omega.{arith}
use lib.Dec.{ltb, leb, eqb}
use lib.ListN.{length, take, length-take}
use lib.Seq.{get_or-take}
use borrow.Author.Tests.{lt-leb, le-leb, eq-eqb, ltb-true}
use Rattle.lists.specs.Tests.{flag, and_left, and_yes, and_no}
use Rattle.lists.specs.Lists.{every, count, from}
use Rattle.lists.specs.Every.{by_test}
use Rattle.lists.specs.Held as H
use Rattle.lists.specs.Loops.{front_long}
use Rattle.table_rows.specs.Bytes.{Image}
use Rattle.table_rows.specs.Limits.{limits}
use Rattle.table.specs.Check.{is_table}
use Rattle.machine_rules_kept.specs.Stored.{empty_rules}
use Rattle.tags.specs.Tags.{within_clock}
use Rattle.store_words.specs.Entries.{room_for_entries, held_fits}
use Rattle.store.specs.Store.{store_rules, empty_store}
use Rattle.store_rules.specs.Rules.{counted_rules}
use Rattle.machine.specs.Table.{scopes, reactors, actions, has_parent}
use Rattle.machine.specs.State.{Event, State, root, ordinary, scope_in, scope_at, no_state, with_modes, with_scopes, with_queue}
use Rattle.machine.specs.Machine.{mode_rules, event_rules, queue_rules, image_rules, scope_rules, sized, rules}
use Rattle.state_events.specs.Slots as slot
use Rattle.state_events.specs.Slots.{events_of, room_for_events, waiting_fits}
use Rattle.state_scopes.specs.Scopes as scope
use Rattle.state_scopes.specs.Scopes.{Scope, most_scopes, scopes_of}
use Rattle.state_room.specs.PartRows.{most_reactors}
use Rattle.state_room.specs.Holds.{most_scopes_lem, most_reactors_lem}
use Rattle.state_rules.specs.Sound.{state_of, event_keeps, scopes_sound, queue_sound, sound}

-- ---- what a table's counts allow

module _ (img : Image) {t : Bool} (et : t ≡ is_table img) (y : t ≡ true) {k : ℕ} where
  pub few_scopes : k ≡ scopes img → k ≤ most_scopes
  few_scopes e = rw e (most_scopes_lem img (flag et y))

  pub few_reactors : (modes : List ℕ) → length modes ≡ most_reactors → k ≡ reactors img → k ≤ length modes
  few_reactors modes m e = rw (e, m) (most_reactors_lem img (flag et y))

-- no more wait than there is room for
pub few_waiting : (img : Image) {limit n : ℕ} → limit ≡ (limits img).waiting → n ≤ limit → n ≤ room_for_events
few_waiting img e h = le_trans h (rw e (waiting_fits img))

-- nor are more held, where the limit is the image's
pub few_held : (img : Image) {limit : ℕ} → limit ≡ (limits img).held → limit ≤ room_for_entries
few_held img e = rw e (held_fits img)

-- ---- tests taken together

every_same : {A : Type 0} (p q : A → Bool) → ((a : A) → p a ≡ q a) → (l : List A) → every p l ≡ every q l
unfolding every
every_same p q h [] = refl
every_same p q h (a ∷ l) = rw (h a, every_same p q h l)

every_numbers : (p q : ℕ → Bool) (n i : ℕ) → ((j : ℕ) → j < i + n → p j ≡ q j) → every p (from i n) ≡ every q (from i n)
unfolding every from
every_numbers p q zero i h = refl
every_numbers p q (suc n) i h = rw (h i (omega arith), every_numbers p q n (suc i) (λ j l. h j (omega arith)))

module _ {A : Type 0} (p q r : A → Bool) where
  -- three tests of each one, or each test of all
  every_three : (l : List A) (x : Bool) → (every p l && (every q l && (every r l && x))) ≡ (every (λ a. p a && (q a && r a)) l && x)
  unfolding every
  every_three [] x = refl
  every_three (a ∷ l) x = go (p a) (q a) (r a) (every_three l x)
    where
      go : (b c d : Bool) → (every p l && (every q l && (every r l && x))) ≡ (every (λ a. p a && (q a && r a)) l && x) →
          ((b && every p l) && ((c && every q l) && ((d && every r l) && x))) ≡ (((b && (c && d)) && every (λ a. p a && (q a && r a)) l) && x)
      go true true true h = h
      go true true false h = simp (and_no)
      go true false d h = simp (and_no)
      go false c d h = refl

and_four : (a b c d : Bool) → (a && (b && (c && d))) ≡ ((a && (b && c)) && d)
and_four true true c d = refl
and_four true false c d = refl
and_four false b c d = refl

-- ---- the machine's scopes and the rows'

module _ (img : Image) (modes : List ℕ) (ss : List Scope) (es : List Event) (work : ℕ) (few : scopes img ≤ length ss) where
  abbrev here : State
  here = state_of img modes ss es work

  module _ (i : ℕ) (h : i < scopes img) where
    scope_is : scope_at here i ≡ scope_in ss i
    scope_is = get_or-take (scopes img) ss i scope.blank h

    scope_same : scope_rules img here.modes here.scopes i ≡ scope_rules img (take (reactors img) modes) ss i
    unfolding scope_rules
    scope_same = rw scope_is

  image_same : (e : Event) → queue_rules img e ≡ true → image_rules here.scopes e ≡ image_rules ss e
  unfolding queue_rules image_rules
  image_same e y =
      by_test (eqb e.queue root) (λ r. simp r)
      (λ r.
      let w : (ltb e.queue (scopes img) && has_parent img e.queue) ≡ true = simp r at y in
      rw (scope_is e.queue (ltb-true _ _ (and_left _ _ w))))

  event_same : (e : Event) → (event_rules img e && (queue_rules img e && image_rules here.scopes e)) ≡ event_keeps img ss e
  unfolding event_keeps
  event_same e = by_test (queue_rules img e) (λ y. rw (image_same e y)) (λ n. simp n)

  module _ (t : is_table img ≡ true) (m : length modes ≡ most_reactors) (w : length es ≤ (limits img).waiting) where
    sized_is : sized img here ≡ true
    unfolding sized
    sized_is =
        let a : length (take (reactors img) modes) ≡ reactors img = length-take (reactors img) modes ∙ min-eq_left (let f = most_reactors_lem img t in omega arith) in
        let b : length (take (scopes img) ss) ≡ scopes img = length-take (scopes img) ss ∙ min-eq_left few in
        simp (a, b, eq-eqb)

    pub rules_are : rules img here ≡ (scopes_sound img (take (reactors img) modes) ss (scopes img) && queue_sound img ss es work)
    unfolding rules scopes_sound queue_sound
    rules_are =
        let ev :
        (every (event_rules img) es && (every (queue_rules img) es && (every (image_rules here.scopes) es && (eqb work (count ordinary es) && store_rules (limits img).held (actions img) empty_store))))
        ≡ (every (event_keeps img ss) es && eqb work (count ordinary es))
        = every_three (event_rules img) (queue_rules img) (image_rules here.scopes) es _ ∙
        rw (
          every_same (λ e. event_rules img e && (queue_rules img e && image_rules here.scopes e)) (event_keeps img ss) event_same es,
          empty_rules (limits img).held (actions img),
          and_yes (eqb work (count ordinary es)),
        )
        in
        let sc = every_numbers (scope_rules img here.modes here.scopes) (scope_rules img (take (reactors img) modes) ss) (scopes img) 0 (λ i l. scope_same i (omega arith)) in
        rw (t, sized_is, le-leb (length es) (limits img).waiting w, ev, sc)
        (and_four (every (mode_rules img) (take (reactors img) modes)) (every (λ x. within_clock x.clock) (take (scopes img) ss))
        (every (scope_rules img (take (reactors img) modes) ss) (from 0 (scopes img))) (queue_sound img ss es work))

-- ---- queue_rules

module _ (img : Image) (modes sws ews : List ℕ) (n work : ℕ) (m : length modes ≡ most_reactors) where
  abbrev queue : Bool
  queue = leb n (limits img).waiting && rules img (state_of img modes (scopes_of sws) (take n (events_of ews)) work)

  pub rules_many : {limit : ℕ} → limit ≡ (limits img).waiting → limit < n → false ≡ queue
  rules_many e h = rw (← e) (simp (lt-leb n _ h))

  module _ {limit : ℕ} (el : limit ≡ (limits img).waiting) (h : n ≤ limit) (t : Bool) (et : t ≡ is_table img) where
    few : leb n (limits img).waiting ≡ true
    few = rw (← el) (le-leb n limit h)

    pub rules_table : t ≡ false → false ≡ queue
    unfolding rules
    rules_table y = simp (few, flag et y)

    module _ (yt : t ≡ true) (k : ℕ) (ek : k ≡ scopes img) (own : List ℕ) (eo : own ≡ take (reactors img) modes) (a : Bool) (ea : a ≡ scopes_sound img own (scopes_of sws) k) where
      queue_is : queue ≡ (a && queue_sound img (scopes_of sws) (take n (events_of ews)) work)
      queue_is =
          let all : scopes img ≤ length (scopes_of sws) = rw (H.things_length scope.decode scope.encode scope.scope_words most_scopes scope.encode_long sws) (most_scopes_lem img (flag et yt)) in
          let w : length (take n (events_of ews)) ≤ (limits img).waiting =
          rw (front_long slot.decode slot.encode slot.slot_words room_for_events slot.encode_long ews n (few_waiting img el h), ← el) h in
          rw (few, rules_are img modes (scopes_of sws) (take n (events_of ews)) work all (flag et yt) m w, ea, eo, ek)

      pub rules_scopes : a ≡ false → a ≡ queue
      rules_scopes y = sym (queue_is ∙ simp y)

      pub rules_queue : {r : Bool} → a ≡ true → r ≡ queue_sound img (scopes_of sws) (take n (events_of ews)) work → r ≡ queue
      rules_queue y q = q ∙ sym (queue_is ∙ simp y)

-- the modes that the table has
pub own_is : (img : Image) (modes : List ℕ) {k : ℕ} {own : List ℕ} → k ≡ reactors img → own ≡ take k modes → own ≡ take (reactors img) modes
own_is img modes e q = rw e at q

pub ruleset queue_cases = (rules_many, rules_table, rules_scopes, rules_queue)

-- ---- all the rules

-- a state without what it holds
abbrev emptied : State → State
emptied s = with_queue (with_scopes (with_modes no_state s.modes) s.scopes) s.waiting s.work

rules_store : (img : Image) (s : State) → rules img s ≡ (rules img (emptied s) && store_rules (limits img).held (actions img) s.store)
unfolding rules sized scope_rules image_rules
rules_store img s =
    by_test (store_rules (limits img).held (actions img) s.store) (λ y. simp (y, empty_rules (limits img).held (actions img), and_yes)) (λ n. simp (n, and_no))

apart : (w h o r s : Bool) → (w && (h && (o && (r && s)))) ≡ ((w && r) && (h && (o && s)))
apart true h o true s = refl
apart true true o false s = and_no o
apart true false o false s = refl
apart false h o r s = refl

module _ (img : Image) (n held opened : ℕ) (s : State) where
  abbrev whole : Bool
  whole = sound img n held opened s

  whole_is : whole ≡ ((leb n (limits img).waiting && rules img (emptied s)) && counted_rules (limits img).held (actions img) held opened s.store)
  unfolding sound counted_rules
  whole_is = rw (rules_store img s) (apart (leb n (limits img).waiting) (leb held (limits img).held) (leb opened (limits img).held) _ _)

  module _ (a : Bool) (ea : a ≡ (leb n (limits img).waiting && rules img (emptied s))) where
    pub sound_queue : a ≡ false → a ≡ whole
    sound_queue y = rw (whole_is, ← ea, y)

    pub sound_store : {l k : ℕ} {r : Bool} → a ≡ true → l ≡ (limits img).held → k ≡ actions img → r ≡ counted_rules l k held opened s.store → r ≡ whole
    sound_store y el ek q = q ∙ (rw (whole_is, ← ea, y, el, ek))

pub ruleset sound_cases = (sound_queue, sound_store)
