-- What one call adds to the history: each kind of call in turn. Assumes the accepted table.
use Rattle.std.specs.Prelude.{ℕ, suc, ◌<◌, ◌≤◌, Bool, ◌&&◌, ◌≡◌, eqb, length, take, get_or}
use Rattle.std.proofs.Math.Bool.{true, false}
use Rattle.std.proofs.Math.Path.{refl, ap, fun_ext}
use Rattle.std.proofs.Common.{◌∙◌, sym, le_trans, arith, lt-ltb, le-ltb}
use mathlib.Core.List.{List, [], ◌∷◌, ◌++◌, map}
use Rattle.std.proofs.Math.Decide.{dec_lt}
use Rattle.std.proofs.Math.Dec.{ltb}
use Rattle.std.proofs.lemmas.List.{length-map}
use Rattle.std.proofs.Math.ListN.{get_or-eq_default}
use Rattle.lists.specs.Tests.{and_no, and_right, lt_eqb}
use Rattle.lists.specs.Lists.{keep, lose, every, from, foldl}
use Rattle.lists.specs.Walk.{Result, done, refused, ◌>>=◌, bind_done}
use Rattle.refusals.specs.declared.Refusal.{Refusal}
use Rattle.refusals.specs.declared.Refusal.TheVariants as R
use Rattle.table_rows.specs.Bytes.{Image}
use Rattle.table_rows.specs.Limits.{versions, limits, limits_fit}
use Rattle.table_rows.specs.Rows.{mode_reactor, mode_scope, action_scope}
use Rattle.table_rows.specs.Lineage.{in_subtree}
use Rattle.tags.specs.Tags.{Tag, at, within}
use Rattle.store.specs.Store as S
use Rattle.store.specs.Store.{Store}
use Rattle.table.specs.Check.{is_table}
use Rattle.machine.specs.Table.{scopes, reactors, modes, actions, set_of}
use Rattle.machine.specs.State.{Event, State, root_event, scope_at, active_at, ever_at, with_store, accepted}
use Rattle.machine.specs.Heads as H
use Rattle.machine.specs.Heads.{Head, Taking, peek, untaken, take_at_of, taking, ready_of}
use Rattle.machine.specs.Transition as D
use Rattle.machine.specs.Transition.{Step, inside_of, transition}
use Rattle.machine.specs.Machine as M
use Rattle.machine.specs.Machine.{Call, plain, network, control, action, transit, pop, peek_tag, only_control, ordinary_work, active_now, ever_active, push_value, next_step, take_value, clear_before}
use Rattle.machine.specs.Machine.{move_value, clear_action, Reply, ok, flag, nothing, ready, Outcome, answer, settle_with, asked, need, for_store, keys_ok, root_made, push_root, to_root, local_tag}
use Rattle.machine.specs.Machine.{action_placed, action_made, push_action, pop_at, found_reply, perform}
use Rattle.lists.specs.Every.{no_way, done_is, need_is, either_is, length_from, get_or_from}
use Rattle.machine_rules_kept.specs.Kept.{rules_tell, own_rules}
use Rattle.lists.specs.Each.{Each, each_map, each_append, each_all, each_imp}
use Rattle.machine_history.specs.Deeds.{bare, action_pushed, transition_events, lies_in, deed, made_by, drops, takes_in, is_pop, if_ok, turns_of, turns_take, turns_few, takes_at, takes_in_turn}
use Rattle.machine_history.specs.History.{most_turns, Fate, waits, popped, dropped, Entry, History, is_waiting, moment}
use Rattle.machine_history.specs.History.{call_at, outcome, deed_at, new_by, pop_takes, reset_drops, taken_by, Fated, Right, Handed}
use Rattle.machine_history.specs.History.{none, some, in_order}
use Rattle.machine_history.specs.Marks.{fated, events_of, now_in, marked, each_marked, mark_now, order_marked}
use Rattle.machine_history.specs.Marks.{entry, added, add_now, add_names, names_none, order_added, Later, later_same}
use Rattle.machine_history.specs.Marks.{later_then, later_dropped, later_added}
use Rattle.machine_history.specs.Grown.{bares, accepted_grown, transition_grown, reset_bares, history_bares}
use Rattle.machine_history.specs.Pops.{Open, Pop, pop_turns, none_taken, ready_bare}
use Rattle.machine_history.specs.Ends.{ended_more, past_pop, past_reset, ended_new, ended_dropped, now_reset, no_pop, Amid, amid_hit, amid_miss, amid_first, amid_last}

-- a pop has turns enough
turns_fit : (img : Image) → (limits img).waiting ≤ most_turns
unfolding versions every
turns_fit img = limits_fit (λ l. l.waiting) most_turns tt img

-- ---- entries

fated_more : (img : Image) (cs : List Call) (n by : ℕ) (e : Event) (f : Fate) → Fated img cs n by e f → Fated img cs (suc n) by e f
fated_more img cs n by e waits h = tt
fated_more img cs n by e (popped m r) h = record { after = h.after; before = omega (arith, h.before); call = h.call; turn = h.turn }
fated_more img cs n by e (dropped m) h =
    record { after = h.after; before = omega (arith, h.before); reactor = h.reactor; mode = h.mode; tag = h.tag; call = h.call; ok = h.ok; inside = h.inside }

-- an entry that the call at place n leaves
right_more :
    (img : Image) (cs : List Call) (n : ℕ) (x : Entry) → ((r : ℕ) → pop_takes img cs n r x.event ≡ false) →
    (is_waiting x.fate ≡ true → reset_drops img cs n x.event ≡ false) → Right img cs n x → Right img cs (suc n) x
right_more img cs n x p d h =
    record {
      before = omega (arith, h.before);
      call = h.call;
      ok = h.ok;
      fated = fated_more img cs n x.by x.event x.fate h.fated;
      ended = ended_more img cs n x h.ended (λ r. past_pop img cs n x r h.fated (λ w. p r)) (past_reset img cs n x h.fated d);
    }

-- the pop at place n took nothing yet
right_open : (img : Image) (cs : List Call) (n : ℕ) (x : Entry) → Right img cs n x → Open n 0 x
right_open img cs n x h = go x.fate h.fated
  where
    go : (f : Fate) → Fated img cs n x.by x.event f → Open n 0 (fated x f)
    go waits g = refl
    go (popped m r) g = rw (lt_eqb m n g.before)
    go (dropped m) g = refl

-- what the machine's step 1 drops is what lies in the subtree
dropped_is : (img : Image) (reset : Bool) (top : ℕ) (e : Event) → D.dropped (inside_of img reset top) e ≡ (reset && lies_in img top e)
unfolding D.dropped
dropped_is img reset top e = go (dec_lt e.queue (scopes img))
  where
    go : Dec (e.queue < scopes img) → get_or (inside_of img reset top) e.queue false ≡ (reset && lies_in img top e)
    go (yes l) = get_or_from (λ i. reset && in_subtree img top i) (scopes img) e.queue l ∙ sym (rw (lt-ltb e.queue (scopes img) l))
    go (no l) =
        get_or-eq_default (inside_of img reset top) false (rw (length-map (from 0 (scopes img)) (λ i. reset && in_subtree img top i), length_from 0 (scopes img)) (omega arith)) ∙
        sym (rw (le-ltb e.queue (scopes img) (omega arith), and_no reset))

other_fails : (a b : Bool) → (a && b) ≡ false → a ≡ true → b ≡ false
other_fails true b e w = e
other_fails false b e w = no_way w

either_way : {A : Type 0} (a : A) (r : Reply) → if_ok a a r ≡ a
either_way a ok = refl
either_way a (M.refusal n) = refl
either_way a nothing = refl
either_way a (ready x) = refl
either_way a (M.tag x) = refl
either_way a (flag x) = refl
either_way a (M.number x) = refl

-- ---- one call

not_pop : (img : Image) (s : State) {c d : Call} → c ≡ d → is_pop (deed img s d) ≡ false → c ≡ pop → ⊥
not_pop img s e f p = no_way (sym f ∙ ap (λ c. is_pop (deed img s c)) (sym e ∙ p))

-- what the call at place n leaves
pub record After (img : Image) (cs : List Call) (n : ℕ) (h : History) : Type 0 where
  pub history : History
  pub later : Later n h history
  pub now : bares (outcome img cs n).state ≡ now_in history
  pub each : Each (Right img cs (suc n)) history
  pub order : in_order 0 history ≡ true
  pub made : events_of (keep (λ x. eqb x.by n) history) ≡ new_by img cs n
  pub handed : call_at cs n ≡ pop → Handed img (moment img cs n) (outcome img cs n).reply (taken_by n history)

module _ (img : Image) (table : is_table img ≡ true) (cs : List Call) (n : ℕ) (h : History)
    (now : bares (moment img cs n) ≡ now_in h) (each : Each (Right img cs n) h) (order : in_order 0 h ≡ true) where
  abbrev s : State
  s = moment img cs n

  abbrev peeked : Head
  peeked = peek img s.scopes s.waiting

  abbrev begun : Taking
  begun = untaken s.waiting s.work

  older : Each (λ x. x.by < n) h
  older = each_imp (Right img cs n) (λ x. x.by < n) (λ x r. r.before) h each

  -- the call takes no event out, takes none in, drops none
  abbrev Quiet : Type 0
  Quiet = (r : ℕ) (e : Event) → pop_takes img cs n r e ≡ false

  abbrev Empty : Type 0
  Empty = new_by img cs n ≡ []

  abbrev Keeps : Type 0
  Keeps = (e : Event) → reset_drops img cs n e ≡ false

  module _ (d : Call) (c : call_at cs n ≡ d) where
    quiet : is_pop (deed img s d) ≡ false → Quiet
    unfolding pop_takes
    quiet h r e = ap (◌&& takes_in_turn img s peeked r e) (ap (λ c. is_pop (deed img s c)) c ∙ h)

    made_ok : (t : State) → outcome img cs n ≡ answer ok t → new_by img cs n ≡ made_by (deed img s d)
    unfolding new_by
    made_ok t e = ap (λ o. if_ok (made_by (deed_at img cs n)) [] o.reply) e ∙ ap (λ c. made_by (deed img s c)) c

    makes_none : made_by (deed img s d) ≡ [] → Empty
    unfolding new_by
    makes_none e = ap (λ c. if_ok (made_by (deed img s c)) [] (outcome img cs n).reply) c ∙ (ap (λ l. if_ok l [] (outcome img cs n).reply) e ∙ either_way [] (outcome img cs n).reply)

    drops_ok : (t : State) → outcome img cs n ≡ answer ok t → (e : Event) → reset_drops img cs n e ≡ drops (deed img s d) e
    unfolding reset_drops
    drops_ok t o e = ap (λ o. if_ok (drops (deed_at img cs n) e) false o.reply) o ∙ ap (λ c. drops (deed img s c) e) c

    drops_none : ((e : Event) → drops (deed img s d) e ≡ false) → Keeps
    unfolding reset_drops
    drops_none h e = ap (λ c. if_ok (drops (deed img s c) e) false (outcome img cs n).reply) c ∙ (ap (λ b. if_ok b false (outcome img cs n).reply) (h e) ∙ either_way false (outcome img cs n).reply)

    takes_in_lem : takes_in (deed img s d) ≡ true → takes_in (deed_at img cs n) ≡ true
    takes_in_lem h = ap (λ c. takes_in (deed img s c)) c ∙ h

  more : Quiet → Keeps → Each (Right img cs (suc n)) h
  more q k = each_imp (Right img cs n) (Right img cs (suc n)) (λ x. right_more img cs n x (λ r. q r x.event) (λ w. k x.event)) h each

  -- ---- what a push accepts, and what a call of the store leaves

  root_event_lem : (t : Tag) (ks : List ℕ) (a b c : Bool) (u : State) → push_root img s t ks a b c ≡ done u → accepted img s (root_event t (set_of ks) a b c) ≡ done u
  unfolding push_root root_made
  root_event_lem t ks a b c u d =
      bind_done (root_made (keys_ok img ks) t (set_of ks) a b c) (accepted img s) d λ e m q.
      ap (accepted img s) (done_is (need_is (within t) R.ArgumentTag (need_is (keys_ok img ks) R.Key m).1).1) ∙ q

  action_event_lem : (a : ℕ) (t : Tag) (b : Bool) (ks : List ℕ) (u : State) → push_action img s a t b ks ≡ done u → accepted img s (action_pushed img s a t b ks) ≡ done u
  unfolding push_action action_made action_placed
  action_event_lem a t b ks u d =
      bind_done (action_made img (scope_at s (action_scope img a)) a t b (keys_ok img ks) (set_of ks)) (accepted img s) d λ v m q.
      either_is (to_root img a) (need_is (within t) R.ArgumentTag (need_is (ltb a (actions img) && keys_ok img ks) R.Key m).1).1 (λ e r. rw e (ap (accepted img s) (done_is r) ∙ q)) λ e r.
      bind_done (local_tag (scope_at s (action_scope img a)) t) _ r λ x y z. rw (e, y) (ap (accepted img s) (done_is z) ∙ q)

  with_store_lem : (r : Result Refusal Store) (t : State) → (r >>= λ st. done (with_store s st)) ≡ done t → bares t ≡ bares s
  with_store_lem r t d = bind_done r (λ st. done (with_store s st)) d λ st e q. ap bares (sym (done_is q))

  for_store_lem : (a : ℕ) (x : Tag) (r : Step) (t : State) → ((t : State) → r ≡ done t → bares t ≡ bares s) → for_store img a x r ≡ done t → bares t ≡ bares s
  for_store_lem a x r t k d = k t (need_is (within x) R.ArgumentTag (need_is (ltb a (actions img)) R.Key d).1).1

  -- ---- nothing changes

  nothing_made : Empty → events_of (keep (λ x. eqb x.by n) h) ≡ new_by img cs n
  nothing_made m = ap events_of (names_none n h older) ∙ sym m

  -- the events do not change
  stays : Quiet → Empty → Keeps → (call_at cs n ≡ pop → Handed img s (outcome img cs n).reply (taken_by n h)) → (o : Outcome) → outcome img cs n ≡ o → bares o.state ≡ bares s → After img cs n h
  stays q m k p o e b =
      record { history = h; later = later_same n h; now = ap (λ o. bares o.state) e ∙ (b ∙ now); each = more q k; order = order; made = nothing_made m; handed = p }

  module _ (no : call_at cs n ≡ pop → ⊥) (q : Quiet) where
    -- "A refusal returns its number and the state as given."
    refuses : (x : Refusal) → outcome img cs n ≡ answer (M.refusal x) s → After img cs n h
    unfolding new_by reset_drops
    refuses x e =
        stays q (ap (λ o. if_ok (made_by (deed_at img cs n)) [] o.reply) e) (λ y. ap (λ o. if_ok (drops (deed_at img cs n) y) false o.reply) e)
        (λ p. absurd (no p)) (answer (M.refusal x) s) e refl

    settled : (r : Step) → outcome img cs n ≡ settle_with ok s r → ((t : State) → r ≡ done t → outcome img cs n ≡ answer ok t → After img cs n h) → After img cs n h
    settled (done t) e k = k t refl e
    settled (refused x) e k = refuses x e

    module _ (m : Empty) (k : Keeps) where
      alone : (o : Outcome) → outcome img cs n ≡ o → bares o.state ≡ bares s → After img cs n h
      alone o e b = stays q m k (λ p. absurd (no p)) o e b

      only_asked : (r : Result Refusal Reply) → outcome img cs n ≡ asked s r → After img cs n h
      only_asked (done q) e = alone (answer q s) e refl
      only_asked (refused x) e = alone (answer (M.refusal x) s) e refl

      stored : (q : Reply) (r : Step) → ((t : State) → r ≡ done t → bares t ≡ bares s) → outcome img cs n ≡ settle_with q s r → After img cs n h
      stored q (done t) f e = alone (answer q t) e (f t refl)
      stored q (refused x) f e = alone (answer (M.refusal x) s) e refl

    module _ (takes : takes_in (deed_at img cs n) ≡ true) (t : State) (e : outcome img cs n ≡ answer ok t) where
      new_right : (x : Event) → Right img cs (suc n) (entry n x)
      new_right x = record { before = omega arith; call = takes; ok = ap (λ o. o.reply) e; fated = tt; ended = ended_new img cs n x }

      new_each : (es : List Event) (g : History) → Each (Right img cs (suc n)) g → Each (Right img cs (suc n)) (added n es g)
      unfolding added
      new_each es g k =
          each_append (Right img cs (suc n)) g (map (entry n) es) k
          (each_map (λ x. Unit {0}) (Right img cs (suc n)) (entry n) (λ x u. new_right x) es (each_all (λ x. Unit {0}) (λ x. tt) es))

      -- the events that the call makes come last
      grows : Keeps → (es : List Event) → new_by img cs n ≡ es → bares t ≡ bares s ++ es → After img cs n h
      grows k es m b =
          record {
            history = added n es h;
            later = later_added n es h;
            now = ap (λ o. bares o.state) e ∙ (b ∙ (ap (◌++ es) now ∙ sym (add_now n es h)));
            each = new_each es h (more q k);
            order = order_added n es h 0 (omega arith) older order;
            made = add_names n es h older ∙ sym m;
            handed = λ p. absurd (no p);
          }

      -- the reset drops those of the subtree first
      resets :
          (r m : ℕ) (c : Tag) (es : List Event) → new_by img cs n ≡ es → call_at cs n ≡ transit r m true c →
          bares t ≡ lose (lies_in img (mode_scope img m)) (bares s) ++ es → After img cs n h
      resets r m c es new call b =
          let p = lies_in img (mode_scope img m) in
          let f = dropped n in
          let g = marked f p h in
          let drop = drops_ok (transit r m true c) call t e in
          let old = each_marked f p (Right img cs n) (λ x. x.by < n) (λ x y w. y.before) (λ x y w z. y.before) h each in
          record {
            history = added n es g;
            later = later_then (later_dropped n p h) (later_added n es g);
            now = ap (λ o. bares o.state) e ∙ (b ∙ (ap (λ l. lose p l ++ es) now ∙ (ap (◌++ es) (sym (mark_now f p refl h)) ∙ sym (add_now n es g))));
            each =
                new_each es g
                (each_marked f p (Right img cs n) (Right img cs (suc n))
                (λ x y w. right_more img cs n x (λ r. q r x.event) (λ z. drop x.event ∙ other_fails (is_waiting x.fate) (p x.event) w z) y)
                (λ x y w z. record {
                  before = omega (arith, y.before);
                  call = y.call;
                  ok = y.ok;
                  fated =
                      record {
                        after = y.before;
                        before = omega arith;
                        reactor = r;
                        mode = m;
                        tag = c;
                        call = call;
                        ok = ap (λ o. o.reply) e;
                        inside = and_right (ltb x.event.queue (scopes img)) (in_subtree img (mode_scope img m) x.event.queue) z;
                      };
                  ended =
                      ended_more img cs n (fated x (dropped n)) (ended_dropped img cs n x w y.ended) (no_pop img cs n x (λ r. q r x.event))
                      (now_reset img cs n x y.before (drop x.event ∙ z));
                }) h each);
            order = order_added n es g 0 (omega arith) old (order_marked f p h 0 ∙ order);
            made = add_names n es g old ∙ sym new;
            handed = λ p. absurd (no p);
          }

    -- ---- pushes

    accepting :
        takes_in (deed_at img cs n) ≡ true → Keeps → (x : Event) → ((t : State) → outcome img cs n ≡ answer ok t → new_by img cs n ≡ bare x ∷ []) →
        (r : Step) → ((t : State) → r ≡ done t → accepted img s x ≡ done t) → outcome img cs n ≡ settle_with ok s r → After img cs n h
    accepting a k x m r d e = settled r e λ t y f. grows a t f k (bare x ∷ []) (m t f) (accepted_grown img s x t (d t y))

    -- ---- transitions

    transits : (r m : ℕ) (reset : Bool) (c : Tag) → call_at cs n ≡ transit r m reset c → (t : State) → transition img r m reset c s ≡ done t → outcome img cs n ≡ answer ok t → After img cs n h
    transits r m true c call t d e =
        let es = transition_events img r m true c s in
        resets (takes_in_lem _ call refl) t e r m c es (made_ok (transit r m true c) call t e) call
        (transition_grown img r m true c s t d ∙ ap (◌++ es) (reset_bares img r m s ∙ ap (λ p. lose p (bares s)) (fun_ext (dropped_is img true (mode_scope img m)))))
    transits r m false c call t d e =
        let es = transition_events img r m false c s in
        grows (takes_in_lem _ call refl) t e (drops_ok (transit r m false c) call t e) es (made_ok (transit r m false c) call t e)
        (transition_grown img r m false c s t d ∙ ap (◌++ es) (history_bares img r m s))

  -- ---- a pop

  takes_by : call_at cs n ≡ pop → (r : ℕ) (e : Event) → pop_takes img cs n r e ≡ takes_in_turn img s peeked r e
  unfolding pop_takes
  takes_by call r e = ap (λ c. is_pop (deed img s c) && takes_in_turn img s peeked r e) call

  pops : (d : Head) → peeked ≡ d → call_at cs n ≡ pop → outcome img cs n ≡ pop_at img s d → After img cs n h
  pops H.empty top call e =
      stays (λ r e. takes_by call r e ∙ ap (λ d. takes_in_turn img s d r e) top) (makes_none pop call refl) (drops_none pop call (λ e. refl))
      (λ p. none top (ap (λ o. o.reply) e) (none_taken n h (each_imp (Right img cs n) (Open n 0) (right_open img cs n) h each))) (answer nothing s) e refl
  pops (H.head q y t) top call e =
      pops_at
      (pop_turns (Amid img cs n) n t hs hit miss s.waiting s.work h (omega (arith, turns_few img s.scopes t begun, room)) now
      (each_imp (Right img cs n) (Open n 0) (right_open img cs n) h each)
      (each_imp (Right img cs n) (Amid img cs n 0) (λ x r. amid_first img cs n x r (fated_more img cs n x.by x.event x.fate r.fated)) h each))
    where
      hs : List Head
      hs = turns_of img s.scopes t begun

      takes : (r : ℕ) (e : Event) → pop_takes img cs n r e ≡ takes_at t (get_or hs r H.empty) e
      takes r e = takes_by call r e ∙ ap (λ d. takes_in_turn img s d r e) top

      hit : (x : Entry) (r : ℕ) → r ≤ most_turns → Amid img cs n r x → is_waiting x.fate ≡ true → takes_at t (get_or hs r H.empty) x.event ≡ true → Amid img cs n (suc r) (fated x (popped n r))
      hit x r l a w z = amid_hit img cs n x r call l a w (takes r x.event ∙ z)

      miss : (x : Entry) (r : ℕ) → Amid img cs n r x → (is_waiting x.fate && takes_at t (get_or hs r H.empty) x.event) ≡ false → Amid img cs n (suc r) x
      miss x r a z = amid_miss img cs n x r a (ap (is_waiting x.fate &&◌) (takes r x.event) ∙ z)

      room : length s.waiting ≤ most_turns
      room = le_trans (rules_tell img s (own_rules img table (take n cs))).sound.queued.room (turns_fit img)

      pops_at : Pop (Amid img cs n) n t hs hit miss (foldl (take_at_of t) begun hs) h → After img cs n h
      pops_at p =
          let k = turns_take img s.scopes t begun in
          let took = ap (λ k. map bare k.events) (sym k) ∙ p.took in
          record {
            history = p.history;
            later = p.later;
            now = ap (λ o. bares o.state) e ∙ (ap (λ k. map bare k.waiting) (sym k) ∙ p.now);
            each =
                each_imp (Amid img cs n p.count) (Right img cs (suc n))
                (λ x a. amid_last img cs n x p.count a (λ q l. takes q x.event ∙ ap (λ d. takes_at t d x.event) (p.over q l)) (drops_none pop call (λ e. refl) x.event))
                p.history p.each;
            order = p.order ∙ order;
            made = ap events_of (names_none n p.history (each_imp (Amid img cs n p.count) (λ x. x.by < n) (λ x a. a.before) p.history p.each)) ∙ sym (makes_none pop call refl);
            handed = λ c. some q y t top (sym took) (ap (λ o. o.reply) e ∙ ap ready (sym (ready_bare s.scopes t (taking img s.scopes t begun).events) ∙ ap (ready_of s.scopes t) took));
          }

  -- ---- every call

  pub called : (c : Call) → call_at cs n ≡ c → outcome img cs n ≡ perform img s c → After img cs n h
  unfolding perform
  called (plain t b ks) c e =
      accepting (not_pop img s c refl) (quiet _ c refl) (takes_in_lem _ c refl) (drops_none _ c (λ e. refl)) (root_event t (set_of ks) b false false) (made_ok _ c) _
      (root_event_lem t ks b false false) e
  called (network t ks) c e =
      accepting (not_pop img s c refl) (quiet _ c refl) (takes_in_lem _ c refl) (drops_none _ c (λ e. refl)) (root_event t (set_of ks) false false true) (made_ok _ c) _
      (root_event_lem t ks false false true) e
  called (control t) c e =
      accepting (not_pop img s c refl) (quiet _ c refl) (takes_in_lem _ c refl) (drops_none _ c (λ e. refl)) (root_event t (set_of []) false true false) (made_ok _ c) _
      (root_event_lem t [] false true false) e
  called (action a t b ks) c e =
      accepting (not_pop img s c refl) (quiet _ c refl) (takes_in_lem _ c refl) (drops_none _ c (λ e. refl)) (action_pushed img s a t b ks) (made_ok _ c) _
      (action_event_lem a t b ks) e
  called (transit r m reset c) k e =
      let q = quiet _ k refl in
      settled (not_pop img s k refl) q _ e λ t d f.
      transits (not_pop img s k refl) q r m reset c k t
      (need_is (within c) R.ArgumentTag (need_is (eqb (mode_reactor img m) r) R.TargetMode (need_is (ltb r (reactors img) && ltb m (modes img)) R.Key d).1).1).1 f
  called pop c e = pops peeked refl c e
  called peek_tag c e = alone (not_pop img s c refl) (quiet _ c refl) (makes_none _ c refl) (drops_none _ c (λ e. refl)) _ e refl
  called only_control c e = alone (not_pop img s c refl) (quiet _ c refl) (makes_none _ c refl) (drops_none _ c (λ e. refl)) _ e refl
  called ordinary_work c e = alone (not_pop img s c refl) (quiet _ c refl) (makes_none _ c refl) (drops_none _ c (λ e. refl)) _ e refl
  called (active_now i) c e =
      only_asked (not_pop img s c refl) (quiet _ c refl) (makes_none _ c refl) (drops_none _ c (λ e. refl)) (need (ltb i (scopes img)) R.Key (done (flag (active_at s i)))) e
  called (ever_active i) c e =
      only_asked (not_pop img s c refl) (quiet _ c refl) (makes_none _ c refl) (drops_none _ c (λ e. refl)) (need (ltb i (scopes img)) R.Key (done (flag (ever_at s i)))) e
  called (push_value a t v) c e =
      stored (not_pop img s c refl) (quiet _ c refl) (makes_none _ c refl) (drops_none _ c (λ e. refl)) ok _
      (λ u. for_store_lem a t (S.pushed (limits img).held s.store a t v >>= λ st. done (with_store s st)) u (with_store_lem (S.pushed (limits img).held s.store a t v))) e
  called (next_step a o m) c e =
      only_asked (not_pop img s c refl) (quiet _ c refl) (makes_none _ c refl) (drops_none _ c (λ e. refl))
      (for_store img a (at o m) (done (found_reply (S.next_microstep s.store a o m)))) e
  called (take_value a t) c e =
      stored (not_pop img s c refl) (quiet _ c refl) (makes_none _ c refl) (drops_none _ c (λ e. refl)) (found_reply (S.value_in a t s.store.values)) _
      (λ u. for_store_lem a t (done (with_store s (S.taken s.store a t))) u (with_store_lem (done (S.taken s.store a t)))) e
  called (clear_before a t) c e =
      stored (not_pop img s c refl) (quiet _ c refl) (makes_none _ c refl) (drops_none _ c (λ e. refl)) ok _
      (λ u. for_store_lem a t (done (with_store s (S.cleared_before s.store a t))) u (with_store_lem (done (S.cleared_before s.store a t)))) e
  called (move_value a t v) c e =
      stored (not_pop img s c refl) (quiet _ c refl) (makes_none _ c refl) (drops_none _ c (λ e. refl)) ok _
      (λ u. for_store_lem a t (need (within v) R.ArgumentTag (S.moved (limits img).held s.store a t v >>= λ st. done (with_store s st))) u
      (λ u d. with_store_lem (S.moved (limits img).held s.store a t v) u (need_is (within v) R.ArgumentTag d).1)) e
  called (clear_action a) c e =
      stored (not_pop img s c refl) (quiet _ c refl) (makes_none _ c refl) (drops_none _ c (λ e. refl)) ok _
      (λ u d. with_store_lem (done (S.cleared s.store a)) u (need_is (ltb a (actions img)) R.Key d).1) e
