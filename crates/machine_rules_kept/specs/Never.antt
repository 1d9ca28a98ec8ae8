-- "11 | the state handed in breaks a state rule": no call on the manager's own states is answered with it. Assumes nothing.
use Rattle.std.specs.Prelude.{ℕ, ◌<◌, Bool, true, false, cond, not, ◌&&◌, ◌||◌, ◌≡◌, List, [], ◌∷◌, ltb, leb, eqb, ℤ, pos, negsuc, length}
use Rattle.std.proofs.Common.{ap, ◌∙◌, sym, arith, lit<}
use Rattle.lists.specs.Lists.{every, from}
use Rattle.lists.specs.Walk.{Result, done, refused, ◌>>=◌, walk}
use Rattle.refusals.specs.Refusals.{number_of}
use Rattle.refusals.specs.declared.Refusal.{Refusal}
use Rattle.refusals.specs.declared.Refusal.TheVariants as R
use Rattle.table_rows.specs.Bytes.{Image}
use Rattle.table_rows.specs.Limits.{limits}
use Rattle.table_rows.specs.Rows.{mode_reactor, mode_scope, action_scope, startup_action, timer_action}
use Rattle.table.specs.Rules.{timer_tag}
use Rattle.tags.specs.Tags.{Tag, Clock, at, max_microstep, within, same_tag, settled_tag, shifted, delayed, to_local, image_of}
use Rattle.tags.specs.Before.{old_held_back, old_to_global, as_before}
use Rattle.store.specs.Store as S
use Rattle.store.specs.Store.{Store, Found, lacks, is_value, is_bucket}
use Rattle.table_schedule.specs.Schedule.{startups_of, resets_of}
use Rattle.table.specs.Check.{is_table}
use Rattle.machine.specs.Table.{scopes, reactors, modes, actions}
use Rattle.machine.specs.State.{Event, State, clock_at, active_at, ever_at, with_store, accepted, fresh}
use Rattle.machine.specs.Heads as H
use Rattle.machine.specs.Heads.{Head, peek}
use Rattle.machine.specs.Transition.{Plan, Step, is_now, is_inside, is_tag, inside_of, prepared, leaving, clock_after, maps, stamp, movers, move_one, entering, turn_by, one_turn, turned, held, plain_event}
use Rattle.machine.specs.Transition.{firsts, startup_rows, startups, if_some, step4, timer_scope, timer_image, timer_event, timer, timer_rows, reset_rows, reset_event, step5, plan_of, turns_on}
use Rattle.machine.specs.Transition.{transition}
use Rattle.machine.specs.Machine as M
use Rattle.machine.specs.Machine.{Call, plain, network, control, action, transit, pop, peek_tag, only_control, ordinary_work, active_now, ever_active, push_value, next_step, take_value, clear_before}
use Rattle.machine.specs.Machine.{clear_action, Reply, ok, refusal, nothing, number, flag, settle_with, asked, keys_ok, root_made, push_root, to_root, local_tag, action_placed, action_made}
use Rattle.machine.specs.Machine.{push_action, pop_at, peek_at, found_reply, perform, step, run}
use Rattle.machine_rules_kept.specs.Kept.{step_performs, own_rules}

-- ---- a step that may refuse, but never with 11

abbrev Low : {A : Type 0} → Result Refusal A → Type 0
Low (done a) = Unit {0}
Low (refused x) = number_of x < number_of R.StateRule

record Mild {A : Type 0} (r : Result Refusal A) : Type 0 where
  low : Low r

module _ {A : Type 0} where
  fine : {a : A} → Mild (done a)
  fine = record { low = tt }

  mild_need : (b : Bool) (x : Refusal) {r : Result Refusal A} → number_of x < number_of R.StateRule → Mild r → Mild (cond b r (refused x))
  mild_need true x l h = h
  mild_need false x l h = record { low = l }

  mild_unless : (b : Bool) (x : Refusal) {r : Result Refusal A} → number_of x < number_of R.StateRule → Mild r → Mild (cond b (refused x) r)
  mild_unless true x l h = record { low = l }
  mild_unless false x l h = h

  mild_either : (b : Bool) {q r : Result Refusal A} → Mild q → Mild r → Mild (cond b q r)
  mild_either true h k = h
  mild_either false h k = k

  mild_then : {B : Type 0} {r : Result Refusal B} {k : B → Result Refusal A} → Mild r → ((b : B) → Mild (k b)) → Mild (r >>= k)
  mild_then {r = done b} h f = f b
  mild_then {r = refused x} h f = record { low = h.low }

mild_walk : {A S : Type 0} (f : S → A → Result Refusal S) → ((s : S) (a : A) → Mild (f s a)) → (l : List A) (s : S) → Mild (walk f s l)
unfolding walk
mild_walk f h [] s = fine
mild_walk f h (a ∷ l) s = mild_then (h s a) (λ t. mild_walk f h l t)

-- ---- tags, store, events

settled_mild : (o : ℤ) (m : ℕ) → Mild (settled_tag o m)
settled_mild (pos o) m = mild_need (within (at o m)) R.MappedTag (lit< tt) fine
settled_mild (negsuc o) m = record { low = lit< tt }

delayed_mild : (t : Tag) → Mild (delayed t)
unfolding delayed
delayed_mild t = mild_need (within t) R.ArgumentTag (lit< tt) (mild_need (ltb t.microstep max_microstep) R.MappedTag (lit< tt) fine)

local_mild : (k : Clock) (g : Tag) → Mild (to_local k g)
unfolding to_local
local_mild k g = mild_either (same_tag k.G k.L) fine (settled_mild (shifted k.L k.G g).offset (shifted k.L k.G g).microstep)

global_mild : (k : Clock) (x : Tag) → Mild (image_of k x)
unfolding old_to_global
global_mild k x =
    let p = shifted k.G k.L x in
    rw (as_before k x)
    (mild_either (same_tag k.G k.L && k.allowed) fine
    (mild_either (old_held_back k p.offset p.microstep) (delayed_mild k.G) (settled_mild p.offset p.microstep)))

push_mild : (limit : ℕ) (s : Store) (a : ℕ) (t : Tag) (v : ℕ) → Mild (S.pushed limit s a t v)
unfolding S.pushed
push_mild limit s a t v = mild_unless (lacks limit (is_value a t) s.values || lacks limit (is_bucket a t.offset) s.buckets) R.Held (lit< tt) fine

move_mild : (limit : ℕ) (s : Store) (a : ℕ) (t u : Tag) → Mild (S.moved limit s a t u)
unfolding S.moved
move_mild limit s a t u = mild_either (same_tag t u) fine (go (S.value_in a t s.values))
  where
    go : (f : Found) → Mild (S.push_found limit s (S.taken s a t) a u f)
    go S.nothing = fine
    go (S.found v) = push_mild limit (S.taken s a t) a u v

accepted_mild : (img : Image) (s : State) (e : Event) → Mild (accepted img s e)
unfolding accepted
accepted_mild img s e = mild_unless (leb (limits img).waiting (length s.waiting)) R.Waiting (lit< tt) fine

store_mild : (s : State) {r : Result Refusal Store} → Mild r → Mild (r >>= λ st. done (with_store s st))
store_mild s h = mild_then h (λ st. fine)

held_mild : (img : Image) (a : ℕ) (t : Tag) (s : State) → Mild (held img a t s)
unfolding held
held_mild img a t s = store_mild s (push_mild (limits img).held s.store a t 0)

-- ---- a transition

some_mild : (rows : List ℕ) {q r : Step} → Mild q → Mild r → Mild (if_some rows q r)
some_mild [] h k = h
some_mild (j ∷ js) h k = k

entering_mild : (limit i : ℕ) (k : Clock) (es : List Event) (st : Store) → Mild (entering limit i k es st)
unfolding entering move_one
entering_mild limit i k es st =
    mild_need (every (maps i k) es) R.MappedTag (lit< tt)
    (mild_walk (move_one limit i k) (λ u e. move_mild limit u e.action e.stored (stamp i k e)) (movers i es) st)

turned_mild : (img : Image) (p : Plan) (s : State) (i : ℕ) → Mild (turned img p s i)
unfolding turned one_turn clock_after leaving turn_by
turned_mild img p s i =
    mild_then
    (mild_then
    (mild_either (active_at s i) (mild_either (is_now p i) fine (mild_either (is_inside p i) fine (mild_then (local_mild (clock_at s i) p.c) (λ t. fine)))) fine)
    (λ k. mild_either (is_now p i && not (active_at s i)) (mild_then (entering_mild (limits img).held i k s.waiting s.store) (λ u. fine)) fine))
    (λ t. fine)

step4_mild : (img : Image) (c : Tag) (first : List ℕ) (s : State) → Mild (step4 img c first s)
unfolding step4 startups
step4_mild img c first s =
    some_mild (startup_rows img first) fine
    (mild_then (delayed_mild c) λ there.
    mild_then (mild_walk (λ t j. held img (startup_action img j) there t) (λ t j. held_mild img (startup_action img j) there t) (startup_rows img first) s) λ t.
    mild_walk (λ u i. accepted img u (plain_event there (startups_of img i))) (λ u i. accepted_mild img u (plain_event there (startups_of img i))) first t)

timer_mild : (img : Image) (s : State) (j : ℕ) → Mild (timer img s j)
unfolding timer timer_image
timer_mild img s j =
    mild_then (global_mild (clock_at s (timer_scope img j)) (timer_tag img j)) λ g.
    mild_then (held_mild img (timer_action img j) g s) λ t. accepted_mild img t (timer_event img j g)

step5_mild : (img : Image) (c : Tag) (target : ℕ) (ins : List Bool) (s : State) → Mild (step5 img c target ins s)
unfolding step5 reset_event
step5_mild img c target ins s =
    mild_then (mild_walk (timer img) (timer_mild img) (timer_rows img ins) s) λ t.
    some_mild (reset_rows img ins) fine (mild_then (delayed_mild c) (λ there. accepted_mild img t (plain_event there (resets_of img target))))

transition_mild : (img : Image) (r m : ℕ) (reset : Bool) (c : Tag) (s : State) → Mild (transition img r m reset c s)
unfolding transition turns_on
transition_mild img r m reset c s =
    let s2 = prepared img r m reset s in
    let p = plan_of img c (inside_of img reset (mode_scope img m)) s2 in
    mild_then (mild_walk (turned img p) (turned_mild img p) (from 0 (scopes img)) s2) λ t.
    mild_then (step4_mild img p.c (firsts img p s2) t) λ u. step5_mild img p.c (mode_scope img m) p.inside u

-- ---- the calls

root_mild : (img : Image) (s : State) (t : Tag) (ks : List ℕ) (a b c : Bool) → Mild (push_root img s t ks a b c)
unfolding push_root root_made
root_mild img s t ks a b c = mild_then (mild_need (keys_ok img ks) R.Key (lit< tt) (mild_need (within t) R.ArgumentTag (lit< tt) fine)) (accepted_mild img s)

action_mild : (img : Image) (s : State) (a : ℕ) (t : Tag) (b : Bool) (ks : List ℕ) → Mild (push_action img s a t b ks)
unfolding push_action action_made action_placed local_tag
action_mild img s a t b ks =
    let q = action_scope img a in
    mild_then
    (mild_need (ltb a (actions img) && keys_ok img ks) R.Key (lit< tt)
    (mild_need (within t) R.ArgumentTag (lit< tt)
    (mild_either (to_root img a) fine
    (mild_then (mild_then (local_mild (clock_at s q) t) λ x. mild_need (not (active_at s q) || is_tag (image_of (clock_at s q) x)) R.MappedTag (lit< tt) fine) λ x. fine))))
    (accepted_mild img s)

for_store_lem : {A : Type 0} (img : Image) (a : ℕ) (t : Tag) {r : Result Refusal A} → Mild r → Mild (M.for_store img a t r)
for_store_lem img a t h = mild_need (ltb a (actions img)) R.Key (lit< tt) (mild_need (within t) R.ArgumentTag (lit< tt) h)

-- an answer other than 11
abbrev Other : Reply → Type 0
Other (refusal x) = number_of x < number_of R.StateRule
Other ok = Unit {0}
Other nothing = Unit {0}
Other (M.ready r) = Unit {0}
Other (M.tag t) = Unit {0}
Other (flag b) = Unit {0}
Other (number n) = Unit {0}

settled_other : (q : Reply) (s : State) {r : Step} → Other q → Mild r → Other (settle_with q s r).reply
settled_other q s {r} o h = go r h
  where
    go : (r : Step) → Mild r → Other (settle_with q s r).reply
    go (done t) h = o
    go (refused x) h = h.low

asked_other : (s : State) (q : Reply) (b : Bool) → Other q → Other (asked s (cond b (done q) (refused R.Key))).reply
asked_other s q true o = o
asked_other s q false o = lit< tt

stored_other : (s : State) (q : Reply) (b c : Bool) → Other q → Other (asked s (cond b (cond c (done q) (refused R.ArgumentTag)) (refused R.Key))).reply
stored_other s q true true o = o
stored_other s q true false o = lit< tt
stored_other s q false c o = lit< tt

found_other : (f : Found) → Other (found_reply f)
found_other S.nothing = tt
found_other (S.found n) = tt

pop_other : (img : Image) (s : State) (h : Head) → Other (pop_at img s h).reply
pop_other img s H.empty = tt
pop_other img s (H.head q x t) = tt

peek_other : (h : Head) → Other (peek_at h)
peek_other H.empty = tt
peek_other (H.head q x t) = tt

perform_other : (img : Image) (s : State) (c : Call) → Other (perform img s c).reply
unfolding perform
perform_other img s (plain t b ks) = settled_other ok s tt (root_mild img s t ks b false false)
perform_other img s (network t ks) = settled_other ok s tt (root_mild img s t ks false false true)
perform_other img s (control t) = settled_other ok s tt (root_mild img s t [] false true false)
perform_other img s (action a t b ks) = settled_other ok s tt (action_mild img s a t b ks)
perform_other img s (transit r m reset c) =
    settled_other ok s tt
    (mild_need (ltb r (reactors img) && ltb m (modes img)) R.Key (lit< tt)
    (mild_need (eqb (mode_reactor img m) r) R.TargetMode (lit< tt) (mild_need (within c) R.ArgumentTag (lit< tt) (transition_mild img r m reset c s))))
perform_other img s pop = pop_other img s (peek img s.scopes s.waiting)
perform_other img s peek_tag = peek_other (peek img s.scopes s.waiting)
perform_other img s only_control = tt
perform_other img s ordinary_work = tt
perform_other img s (active_now i) = asked_other s (flag (active_at s i)) (ltb i (scopes img)) tt
perform_other img s (ever_active i) = asked_other s (flag (ever_at s i)) (ltb i (scopes img)) tt
perform_other img s (push_value a t v) = settled_other ok s tt (for_store_lem img a t (store_mild s (push_mild (limits img).held s.store a t v)))
perform_other img s (next_step a o n) =
    stored_other s (found_reply (S.next_microstep s.store a o n)) (ltb a (actions img)) (within (at o n)) (found_other (S.next_microstep s.store a o n))
perform_other img s (take_value a t) =
    settled_other (found_reply (S.value_in a t s.store.values)) s (found_other (S.value_in a t s.store.values)) (for_store_lem img a t (fine {a = with_store s (S.taken s.store a t)}))
perform_other img s (clear_before a t) = settled_other ok s tt (for_store_lem img a t (fine {a = with_store s (S.cleared_before s.store a t)}))
perform_other img s (M.move_value a t u) =
    settled_other ok s tt (for_store_lem img a t (mild_need (within u) R.ArgumentTag (lit< tt) (store_mild s (move_mild (limits img).held s.store a t u))))
perform_other img s (clear_action a) = settled_other ok s tt (mild_need (ltb a (actions img)) R.Key (lit< tt) (fine {a = with_store s (S.cleared s.store a)}))

-- ---- "11": never from a fresh manager over an accepted table, whatever was called before

module _ (img : Image) (t : is_table img ≡ true) (cs : List Call) (c : Call) where
  -- so the test of the rules may be left out there
  pub own_performs : step img (run img (fresh img) cs) c ≡ perform img (run img (fresh img) cs) c
  own_performs = step_performs img (run img (fresh img) cs) c (own_rules img t cs)

  pub never_eleven : (step img (run img (fresh img) cs) c).reply ≡ refusal R.StateRule → ⊥
  never_eleven e = let h = rw (sym (ap (λ o. o.reply) own_performs) ∙ e) at (perform_other img (run img (fresh img) cs) c) in omega arith
