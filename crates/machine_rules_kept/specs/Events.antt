-- The rules of one event: those a call makes keep them, and a new stored tag does. Assumes nothing.
use Rattle.std.specs.Prelude.{ℕ, ◌*◌, ◌<◌, Bool, not, ◌&&◌, ◌||◌, ◌≡◌, List, map, eqb}
use Rattle.std.proofs.Math.Bool.{true}
use Rattle.std.proofs.Math.Path.{refl}
use Rattle.std.proofs.Math.Dec.{ltb}
use Rattle.lists.specs.Tests.{and_left, and_right}
use borrow.Author.Tests.{lt-ltb, ltb-true}
use Rattle.lists.specs.Lists.{every, keep, from, foldl}
use Rattle.lists.specs.Walk.{done, refused}
use Rattle.table_rows.specs.Bytes.{Image}
use Rattle.table_rows.specs.Kinds.{count}
use Rattle.table_rows.specs.Rows.{none, field}
use Rattle.tags.specs.Tags.{Tag, Clock, Answer, within, image_of}
use Rattle.key_set.specs.Sets.{has, insert_key, no_keys, word_count}
use Rattle.table_schedule.specs.Schedule.{reactions_of}
use Rattle.machine.specs.Table.{actions, reactions, set_of}
use Rattle.machine.specs.State.{Event, State, in_queue, stamped, root_event}
use Rattle.machine.specs.Transition.{tag_or, owns, stamp, movers}
use Rattle.machine.specs.Machine.{event_rules, queue_rules, image_rules, keys_ok}
use Rattle.lists.specs.Every.{by_test, both, or_left, or_right, or_else_lem, not_so, every_all, every_imp, every_sort, every_map}
use Rattle.lists.proofs.Every.{every_keep, keep_below}
use Rattle.machine_rules_kept.specs.Limits.{global_within, set_keys}
use Rattle.machine_rules_kept.specs.Sound.{proper}

module _ (img : Image) where
  abbrev pub keys_exist : List ℕ → Bool
  keys_exist ws = every (λ k. not (has ws k) || ltb k (reactions img)) (from 0 (word_count * 64))

  folded_exist : (ks : List ℕ) → every (λ k. ltb k (reactions img)) ks ≡ true → keys_exist (foldl insert_key (no_keys word_count) ks) ≡ true
  folded_exist ks e = every_all _ (set_keys (reactions img) ks e) (from 0 (word_count * 64))

  pub set_exist : (ks : List ℕ) → keys_ok img ks ≡ true → keys_exist (set_of ks) ≡ true
  unfolding set_of keys_ok
  set_exist ks e = folded_exist ks e

  -- the reactions that rows of a kind name
  pub rows_exist : (k gap : ℕ) (test : ℕ → Bool) → ((j : ℕ) → j < count img k → field 2 img k j gap < reactions img) → keys_exist (reactions_of img k test gap) ≡ true
  unfolding reactions_of
  rows_exist k gap test h =
      let rows = keep (λ j. test (field 2 img k j 0)) (from 0 (count img k)) in
      folded_exist (map (λ j. field 2 img k j gap) rows)
      (every_map (λ j. field 2 img k j gap) (λ k. ltb k (reactions img)) rows
      (every_imp (λ j. ltb j (count img k)) (λ j. ltb (field 2 img k j gap) (reactions img)) (λ j x. lt-ltb _ _ (h j (ltb-true j (count img k) x))) rows
      (keep_below (λ j. test (field 2 img k j 0)) (count img k))))

  -- an event with no action, in the root
  pub root_proper : (s : State) (t : Tag) (ws : List ℕ) (a b c : Bool) → within t ≡ true → keys_exist ws ≡ true → proper img s (root_event t ws a b c) ≡ true
  unfolding proper event_rules queue_rules image_rules
  root_proper s t ws a b c w k = both (both w (both k refl)) refl

  -- an event with an action
  pub with_action :
      (e : Event) → within e.tag ≡ true → keys_exist e.reactions ≡ true → ltb e.action (actions img) ≡ true → within e.stored ≡ true → event_rules img e ≡ true
  unfolding event_rules
  with_action e w k a v = both w (both k (or_right (eqb e.action none) (both a v)))

  module _ (e : Event) (h : event_rules img e ≡ true) where
    event_tag : within e.tag ≡ true
    unfolding event_rules
    event_tag = and_left (within e.tag) _ h

    event_keys : keys_exist e.reactions ≡ true
    unfolding event_rules
    event_keys = and_left (keys_exist e.reactions) _ (and_right (within e.tag) _ h)

    event_action : (eqb e.action none || (ltb e.action (actions img) && within e.stored)) ≡ true
    unfolding event_rules
    event_action = and_right (keys_exist e.reactions) _ (and_right (within e.tag) _ h)

  -- ---- "set their stored tags"

  stamp_within : (i : ℕ) (k : Clock) (e : Event) → within e.tag ≡ true → within e.stored ≡ true → within (stamp i k e) ≡ true
  unfolding stamp
  stamp_within i k e w v = by_test (owns i e) (λ b. rw b (go (image_of k e.tag) refl)) (λ b. rw b v)
    where
      go : (a : Answer) → image_of k e.tag ≡ a → within (tag_or e.stored a) ≡ true
      go (done g) q = global_within k e.tag g w q
      go (refused n) q = v

  pub stamped_rules : (i : ℕ) (k : Clock) (e : Event) → event_rules img e ≡ true → event_rules img (stamped e (stamp i k e)) ≡ true
  unfolding event_rules
  stamped_rules i k e h =
      both (event_tag e h)
      (both (event_keys e h)
      (by_test (eqb e.action none) (λ x. or_left _ x)
      (λ x. let c = or_else_lem (eqb e.action none) _ x (event_action e h) in
      or_right (eqb e.action none) (both (and_left (ltb e.action (actions img)) _ c) (stamp_within i k e (event_tag e h) (and_right (ltb e.action (actions img)) _ c))))))

  -- ---- "then move their values": each has an action that exists, and the new tag is within limits

  abbrev pub mover : Event → Bool
  mover e = event_rules img e && not (eqb e.action none)

  pub movers_each : (i : ℕ) (l : List Event) → every (event_rules img) l ≡ true → every mover (movers i l) ≡ true
  unfolding movers
  movers_each i l h =
      every_sort mover _ (keep (owns i) l)
      (every_imp (λ e. event_rules img e && owns i e) mover
      (unfold owns in λ e x. both (and_left (event_rules img e) _ x) (and_right (in_queue i e) _ (and_right (event_rules img e) _ x))) (keep (owns i) l)
      (every_keep (event_rules img) (owns i) l h))

  module _ (i : ℕ) (k : Clock) (e : Event) (m : mover e ≡ true) where
    held : (ltb e.action (actions img) && within e.stored) ≡ true
    held = or_else_lem (eqb e.action none) _ (not_so (eqb e.action none) (and_right (event_rules img e) _ m)) (event_action e (and_left (event_rules img e) _ m))

    pub mover_action : ltb e.action (actions img) ≡ true
    mover_action = and_left (ltb e.action (actions img)) _ held

    pub mover_new : within (stamp i k e) ≡ true
    mover_new = stamp_within i k e (event_tag e (and_left (event_rules img e) _ m)) (and_right (ltb e.action (actions img)) _ held)
