-- Demand 3: "each event ever accepted, pushed by a caller or made by a transition, has been handed out by one pop, or dropped by one reset,
-- or waits in one queue, and only one of these holds. The pop and the reset are those the plain machine names. The reported ordinary work
-- equals the waiting events that are neither terminal nor control, counted from that history." The words of it. Assumes nothing.
use Rattle.std.specs.Prelude.{ℕ, zero, suc, ◌-◌, ◌<◌, ◌≤◌, Bool, true, false, cond, ◌&&◌, ◌||◌, ◌≡◌, List, [], ◌∷◌, ◌++◌, map, ltb, leb, eqb, length, take, get_or}
use Rattle.lists.specs.Lists.{keep, count}
use Rattle.table_rows.specs.Bytes.{Image}
use Rattle.table_rows.specs.Rows.{mode_scope}
use Rattle.table_rows.specs.Lineage.{in_subtree}
use Rattle.tags.specs.Tags.{Tag}
use Rattle.machine.specs.State.{Event, State, ordinary, fresh}
use Rattle.machine.specs.Heads.{empty, head, peek, untaken, taking, ready_of}
use Rattle.machine.specs.Machine.{Call, transit, pop, peek_tag, ordinary_work, Reply, ok, nothing, ready, number, Outcome, step, run}
use Rattle.machine_history.specs.Deeds.{bare, Deed, deed, made_by, drops, takes_in, is_pop, if_ok, takes_in_turn}

-- ---- a run of calls: each is named by its place in the list

-- the state before the call at place n
abbrev pub moment : Image → List Call → ℕ → State
moment img cs n = run img (fresh img) (take n cs)

abbrev pub call_at : List Call → ℕ → Call
call_at cs n = get_or cs n peek_tag

-- what the machine answers to it
abbrev pub outcome : Image → List Call → ℕ → Outcome
outcome img cs n = step img (moment img cs n) (call_at cs n)

-- what it does to the events, if it is not refused
abbrev pub deed_at : Image → List Call → ℕ → Deed
deed_at img cs n = deed img (moment img cs n) (call_at cs n)

-- the events that it accepted: those the machine makes of it, and none if it was refused
unfoldable pub new_by : Image → List Call → ℕ → List Event
new_by img cs n = if_ok (made_by (deed_at img cs n)) [] (outcome img cs n).reply

-- it is a pop, and its turn r takes the event
unfoldable pub pop_takes : Image → List Call → ℕ → ℕ → Event → Bool
pop_takes img cs n r e =
    let s = moment img cs n in
    is_pop (deed_at img cs n) && takes_in_turn img s (peek img s.scopes s.waiting) r e

-- it is a reset that was not refused, and the event lies in its subtree
unfoldable pub reset_drops : Image → List Call → ℕ → Event → Bool
reset_drops img cs n e = if_ok (drops (deed_at img cs n) e) false (outcome img cs n).reply

-- ---- the history

-- one of these holds of an event: it waits; the pop at a place handed it out, in one of its turns (the root's is turn 0, and each turn of a
-- scope one more); the reset at a place dropped it
pub data Fate : Type 0 where
  waits : Fate
  popped : ℕ → ℕ → Fate
  dropped : ℕ → Fate

-- one event that was accepted: its queue, tag, reactions, flags and action, the place of the call that accepted it, and its fate
pub record Entry : Type 0 where
  pub event : Event
  pub by : ℕ
  pub fate : Fate

-- all events ever accepted, in order of acceptance: the number of one is its place here
abbrev pub History : Type 0
History = List Entry

abbrev pub is_waiting : Fate → Bool
is_waiting waits = true
is_waiting (popped n r) = false
is_waiting (dropped n) = false

-- ---- the history of a run, computed: what each call accepted, and of each event the first later call that ends it

-- the first turn, of k from turn r on, of the pop at place n that takes the event
unfoldable pub turn_from : Image → List Call → ℕ → ℕ → ℕ → Event → Fate
turn_from img cs n r zero e = waits
turn_from img cs n r (suc k) e = cond (pop_takes img cs n r e) (popped n r) (turn_from img cs n (suc r) k e)

-- how many turns a pop may have besides the root's: no fewer than events may wait, of any image
abbrev pub most_turns : ℕ
most_turns = 256

-- what the call at place n makes of an event that waits: a reset drops it, a pop hands it out, or it goes on waiting;
-- "each turn takes an event", so the root's turn and one for each that may wait are enough
unfoldable pub fate_at : Image → List Call → ℕ → Event → Fate
fate_at img cs n e = cond (reset_drops img cs n e) (dropped n) (turn_from img cs n 0 (suc most_turns) e)

abbrev pub or_else : Fate → Fate → Fate
or_else waits f = f
or_else (popped m r) f = popped m r
or_else (dropped m) f = dropped m

-- the fate that the first of the k calls from place n on gives it, or it waits
unfoldable pub fate_from : Image → List Call → ℕ → ℕ → Event → Fate
fate_from img cs n zero e = waits
fate_from img cs n (suc k) e = or_else (fate_at img cs n e) (fate_from img cs (suc n) k e)

-- the entry of an event that the call at place n accepted
abbrev pub entry_of : Image → List Call → ℕ → Event → Entry
entry_of img cs n e = record { event = e; by = n; fate = fate_from img cs (suc n) (length cs - suc n) e }

-- those that the k calls from place n on accepted
unfoldable pub entries_from : Image → List Call → ℕ → ℕ → History
entries_from img cs n zero = []
entries_from img cs n (suc k) = map (entry_of img cs n) (new_by img cs n) ++ entries_from img cs (suc n) k

abbrev pub history_of : Image → List Call → History
history_of img cs = entries_from img cs 0 (length cs)

-- ---- what a history says

-- neither handed out nor dropped before the call at place n
abbrev pub open_at : ℕ → Fate → Bool
open_at n waits = true
open_at n (popped m r) = leb n m
open_at n (dropped m) = leb n m

-- accepted before the call at place n, and still there
unfoldable pub waits_at : ℕ → Entry → Bool
waits_at n x = ltb x.by n && open_at n x.fate

-- still there when turn r of the call at place n begins
abbrev pub open_in : ℕ → ℕ → Fate → Bool
open_in n r waits = true
open_in n r (popped m q) = ltb n m || (eqb m n && leb r q)
open_in n r (dropped m) = leb n m

unfoldable pub waits_in : ℕ → ℕ → Entry → Bool
waits_in n r x = ltb x.by n && open_in n r x.fate

-- there before the call at place n, and after it
unfoldable pub waits_through : ℕ → Entry → Bool
waits_through n x = waits_at n x && open_at (suc n) x.fate

abbrev pub is_taken : ℕ → ℕ → Fate → Bool
is_taken n r waits = false
is_taken n r (popped m q) = eqb m n && eqb q r
is_taken n r (dropped m) = false

abbrev pub is_dropped : ℕ → Fate → Bool
is_dropped n waits = false
is_dropped n (popped m q) = false
is_dropped n (dropped m) = eqb m n

-- handed out by the pop at place n in its turn r
unfoldable pub taken_in : ℕ → ℕ → History → List Event
taken_in n r h = map (λ x. x.event) (keep (λ x. is_taken n r x.fate) h)

-- the first k turns, one after the other
unfoldable pub taken_up_to : ℕ → ℕ → History → List Event
taken_up_to n zero h = []
taken_up_to n (suc k) h = taken_up_to n k h ++ taken_in n k h

-- "in order of taking": each turn but the root's takes one of the waiting events at least
abbrev pub taken_by : ℕ → History → List Event
taken_by n h = taken_up_to n (suc most_turns) h

-- the call at place m is a pop, after the one that accepted the event
pub record ByPop (cs : List Call) (n by m r : ℕ) : Type 0 where
  pub after : by < m
  pub before : m < n
  pub call : call_at cs m ≡ pop
  pub turn : r ≤ most_turns

-- the call at place m is an accepted reset, after the one that accepted the event, which lay in the subtree that the reset names
pub record ByReset (img : Image) (cs : List Call) (n by : ℕ) (e : Event) (m : ℕ) : Type 0 where
  pub after : by < m
  pub before : m < n
  pub reactor : ℕ
  pub mode : ℕ
  pub tag : Tag
  pub call : call_at cs m ≡ transit reactor mode true tag
  pub ok : (outcome img cs m).reply ≡ ok
  pub inside : in_subtree img (mode_scope img mode) e.queue ≡ true

-- what the fate of an event that the call at place `by` accepted says, after n calls
abbrev pub Fated : Image → List Call → ℕ → ℕ → Event → Fate → Type 0
Fated img cs n by e waits = Unit {0}
Fated img cs n by e (popped m r) = ByPop cs n by m r
Fated img cs n by e (dropped m) = ByReset img cs n by e m

-- "The pop and the reset are those the plain machine names": of the first n calls
pub record Ended (img : Image) (cs : List Call) (n : ℕ) (x : Entry) : Type 0 where
  -- turn r of the pop at place m handed it out, exactly if it still waited then and the machine's turn takes it
  pub by_pop : (m r : ℕ) → m < n → is_taken m r x.fate ≡ (waits_in m r x && pop_takes img cs m r x.event)
  -- the call at place m dropped it, exactly if it waited then and the call is an accepted reset of a subtree that it lies in
  pub by_reset : (m : ℕ) → m < n → is_dropped m x.fate ≡ (waits_at m x && reset_drops img cs m x.event)

-- "pushed by a caller or made by a transition", by a call that was not refused, and its fate
pub record Right (img : Image) (cs : List Call) (n : ℕ) (x : Entry) : Type 0 where
  pub before : x.by < n
  pub call : takes_in (deed_at img cs x.by) ≡ true
  pub ok : (outcome img cs x.by).reply ≡ ok
  pub fated : Fated img cs n x.by x.event x.fate
  pub ended : Ended img cs n x

-- what a pop answered in the state s, and the events that name it: nothing and none, if there is no head; or an answer made of exactly these,
-- which are what the machine takes at the peek tag, in order of taking
pub data Handed (img : Image) (s : State) (r : Reply) (es : List Event) : Type 0 where
  none : peek img s.scopes s.waiting ≡ empty → r ≡ nothing → es ≡ [] → Handed img s r es
  some :
      (q : ℕ) (x t : Tag) → peek img s.scopes s.waiting ≡ head q x t → es ≡ map bare (taking img s.scopes t (untaken s.waiting s.work)).events →
      r ≡ ready (ready_of s.scopes t es) → Handed img s r es

-- each entry's call comes no earlier than the ones before it
unfoldable pub in_order : ℕ → History → Bool
in_order n [] = true
in_order n (x ∷ h) = leb n x.by && in_order x.by h

-- the history h tells all that became of events in a run of the calls cs
pub record Told (img : Image) (cs : List Call) (h : History) : Type 0 where
  -- numbers are in order of acceptance
  pub order : in_order 0 h ≡ true
  -- each call accepted exactly the events that name it: a push its one, a transition those of its steps 4 and 5, one behind the other
  pub made : (n : ℕ) → n < length cs → map (λ x. x.event) (keep (λ x. eqb x.by n) h) ≡ new_by img cs n
  -- each number has one fate, and this is it
  pub fate : (k : ℕ) (d : Entry) → k < length h → Right img cs (length cs) (get_or h k d)
  -- at every moment what waits, in all queues, is what was accepted before and neither handed out nor dropped before: nothing else
  pub waiting : (n : ℕ) → n ≤ length cs → map bare (moment img cs n).waiting ≡ map (λ x. x.event) (keep (waits_at n) h)
  -- each call left those that it neither handed out nor dropped, and after them the events that name it, as it accepted them
  pub accepted : (n : ℕ) → n < length cs → map bare (outcome img cs n).state.waiting ≡ map (λ x. x.event) (keep (waits_through n) h) ++ map (λ x. x.event) (keep (λ x. eqb x.by n) h)
  -- so what waits at the end is what has no other fate
  pub still : map bare (run img (fresh img) cs).waiting ≡ map (λ x. x.event) (keep (λ x. is_waiting x.fate) h)
  -- each pop handed out the events that name it: all that the machine takes, turn by turn, and nothing else
  pub pops : (n : ℕ) → n < length cs → call_at cs n ≡ pop → Handed img (moment img cs n) (outcome img cs n).reply (taken_by n h)
  -- each reset dropped the events that name it: all that waited inside its subtree, and nothing else
  pub resets : (n : ℕ) → n < length cs → map (λ x. x.event) (keep (λ x. is_dropped n x.fate) h) ≡ keep (reset_drops img cs n) (map bare (moment img cs n).waiting)
  -- the ordinary work reported at every moment is counted from the history
  pub work : (n : ℕ) → n ≤ length cs → (step img (moment img cs n) ordinary_work).reply ≡ number (count (λ x. waits_at n x && ordinary x.event) h)
