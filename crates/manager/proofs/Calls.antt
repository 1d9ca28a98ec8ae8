-- One call on the manager from the call on its rows. Assumes nothing.
use mathlib.Core.Bool.{Bool, true, false, cond, not, ◌||◌}
use mathlib.Core.Path.{◌≡◌, ap, ◌∙◌, sym}
use mathlib.Core.Logic.{⊎_elim}
use mathlib.Core.List.{List}
use Prim.Native.Nat.{ℕ, ◌≤◌}
use native.Mathlib.Nat.{min-eq_left}
use lib.ListN.{length, take, length-take}
use borrow.Author.Tests.{not-true, not-false}
use Rattle.lists.specs.Every.{no_way}
use Rattle.refusals.specs.declared.Refusal.TheVariants as R
use Rattle.table_rows.specs.Bytes.{Image}
use Rattle.tags.specs.Views.{of_global}
use Rattle.state_events.specs.Slots.{room_for_events}
use Rattle.machine.specs.Machine as M
use Rattle.machine.specs.Machine.{perform}
use Rattle.state_room.specs.Padded.{padded}
use Rattle.state_room.proofs.Holds as LLaws
use Rattle.state_room.specs.Holds.{Rows, Holds, Kept, Performs}
use Rattle.call_perform.specs.Calls.{answer_reply, reply_of, is_pop, Tells}
use Rattle.std.specs.Prelude.{Err, None}
use Rattle.tags.specs.declared.GlobalTag.{GlobalTag}
use Rattle.call_pop_ready.specs.declared.Gathered.{Gathered}
use Rattle.call_perform.specs.declared.Call.{Call}
use Rattle.call_perform.specs.declared.Call.TheVariants as K
use Rattle.call_perform.specs.declared.Performed.{Performed}
use Rattle.manager.specs.Arrays.{Arrays, Answered, answered, asks, is_refusal, view_of, is_sound, step_on, Shown, shown_ready}
use Rattle.manager.specs.Views.{arrays_in, Unpacks, TellsOrEleven, ready_from, ready_in}
use Rattle.manager.proofs.Front.{front_view}
use Rattle.manager.proofs.Packs.{holds_packs, holds, kept}

-- ---- a ready event

-- with its keys in an array
abbrev shown_as : GlobalTag → Gathered → List ℕ → Shown
shown_as t g out =
    record {
      tag = of_global t;
      terminal = g.terminal;
      work = g.work;
      network = g.network;
      held = g.held;
      reactions = g.reactions.words;
      actions = out;
      count = g.actions;
    }

pub shown_is :
    (t : GlobalTag) (g : Gathered) (keys : List ℕ) {out : List ℕ} → g.actions ≤ room_for_events → length keys ≡ room_for_events →
    out ≡ padded 0 room_for_events (take g.actions keys) →
    (shown_as t g out ≡ shown_ready (ready_from t g keys)) × (ready_in (shown_as t g out) ≡ ready_from t g keys)
shown_is t g keys h l e =
    let n : length (take g.actions keys) ≡ g.actions = length-take g.actions keys ∙ min-eq_left (rw l h) in
    (rw (e, n), rw (e, front_view 0 room_for_events keys l g.actions))

-- ---- what a call that is no pop answers

not_found : (c : Call) (p : Performed) → is_pop c ≡ false → TellsOrEleven c p → p.tag ≡ None
not_found c p i t = ⊎_elim (tells c i) (λ (a : (p.tag ≡ None) × (p.answer ≡ Err R.StateRule)). a.0) t
  where
    tells : (c : Call) → is_pop c ≡ false → Tells c p → p.tag ≡ None
    tells (K.Push q) i t = t.0
    tells (K.Transition q) i t = t.0
    tells K.Pop i t = no_way (sym i)
    tells (K.Ask q) i t = t.0
    tells (K.Value v) i t = t.0

pub answer_is : (c : Call) (p : Performed) (keys : List ℕ) (m : Arrays) {x : Answered} → is_pop c ≡ false → TellsOrEleven c p → answered (reply_of p keys) m ≡ x →
    answered (answer_reply p.answer) m ≡ x
answer_is c p keys m i t e = rw (not_found c p i t) at e

-- ---- the call

module _ (img : Image) (a : Arrays) {b : Bool} (eb : b ≡ is_sound img a) where
  -- 11
  pub call_eleven : (c : M.Call) (p : Performed) (keys : List ℕ) → not b ≡ true → (p.tag ≡ None) × (p.answer ≡ Err R.StateRule) →
      answered (reply_of p keys) a ≡ step_on img a c
  unfolding step_on
  call_eleven c p keys y e = let s : is_sound img a ≡ false = sym eb ∙ not-true b y in rw (s, e.0, e.1)

  module _ (y : not b ≡ false) (u : Rows) (x : Unpacks img a u) where
    sound : is_sound img a ≡ true
    sound = sym eb ∙ not-false b y

    is_held : Holds img (view_of img a) u
    is_held = holds img a u x sound

    -- what it asks of the rows
    pub call_kept : Kept img u
    call_kept = kept img a u x sound

    pub call_few : u.ledger.counts.waiting ≤ room_for_events
    call_few = (LLaws.waits img (view_of img a) u is_held).few

    pub call_performs : (c : M.Call) (v : Rows) {q : M.Reply} {m : Arrays} → Performs img c u q v →
        m ≡ cond (asks c || is_refusal q) a (arrays_in v) → answered q m ≡ step_on img a c
    unfolding step_on
    call_performs c v {q} f e =
        let d = f (view_of img a) is_held in
        let s = sound in
        let p = holds_packs img (perform img (view_of img a) c).state v d.holds in
        ap (answered q) e ∙ rw (s, p, d.reply_is)
