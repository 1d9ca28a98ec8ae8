-- A law for each case of each definition of `Tags`: callers cite these, and never unfold a definition.
-- A law has the form of what a return asks, so that `search` applies it and finds the facts on the way by itself.
-- Assumes nothing.
use Prim.Native.Nat.{ℕ, zero, suc, ◌+◌, ◌-◌, ◌<◌, ◌≤◌, zero-le}
use mathlib.Core.Path.{◌≡◌, refl, sym, ap, ◌∙◌}
use mathlib.Core.Logic.{◌⊎◌, inl, inr}
use mathlib.Core.Bool.{Bool, true, false, cond, not, ◌&&◌}
use lib.Dec.{ltb, leb, eqb}
use lib.IntN.{ℤ, pos, negsuc, neg_ℤ, sub_ℕ, ◌+ℤ◌, ◌-ℤ◌, +ℤ_assoc}
use native.Mathlib.Omega.{arith}
use borrow.Author.Tests.{lt-ltb, le-ltb, le-leb, lt-leb, eq-eqb, ne_eqb, leb-true, ltb-false, eqb-true}
use Rattle.lists.specs.Tests.{gt_ltb, gt_eqb, flag, flag_no, flag_yes, and_left, and_right}
use Rattle.lists.specs.Walk.{Result, done, refused}
use Rattle.refusals.specs.declared.Refusal.{Refusal}
use Rattle.refusals.specs.declared.Refusal.TheVariants.{ArgumentTag, MappedTag, StateRule}
use Rattle.tags.specs.Tags.{Tag, Clock, Answer, at, max_offset, max_microstep, within, within_clock, same_tag, earlier, delayed, shifted}
use Rattle.tags.specs.Tags.{MappedAnswer, held_back, placed, settled_tag, checked, to_local, to_global}
use Rattle.tags.specs.Views.{wide, place_of, place_at, settled_at, held_at, placed_at}
use Rattle.tags.specs.declared.Place.{Place}
use Rattle.tags.specs.declared.Place.TheVariants.{Below, Beyond, At}

-- ---- limits

pub within_offset : (t : Tag) → within t ≡ true → t.offset ≤ max_offset
unfolding within
within_offset t e = leb-true _ _ (and_left _ _ e)

pub within_both : (t : Tag) → t.offset ≤ max_offset → t.microstep ≤ max_microstep → within t ≡ true
unfolding within
within_both t h k = simp (le-leb _ _ h, le-leb _ _ k)

-- as the code tests them, of the tag's two fields
module _ (t : Tag) {o : ℕ} (e : o ≡ t.offset) where
  pub within_left : {m : ℕ} → m ≡ t.microstep → o ≤ max_offset → leb m max_microstep ≡ within t
  unfolding within
  within_left k h = let l : t.offset ≤ max_offset = omega arith in simp (le-leb _ _ l) (rw k)

  pub within_past : max_offset < o → leb o max_offset ≡ within t
  unfolding within
  within_past h = let l : max_offset < t.offset = omega arith in rw e (simp (lt-leb _ _ l))

pub within_not_offset : (t : Tag) → max_offset < t.offset → within t ≡ false
unfolding within
within_not_offset t h = simp (lt-leb _ _ h)

pub within_not_microstep : (t : Tag) → t.offset ≤ max_offset → max_microstep < t.microstep → within t ≡ false
unfolding within
within_not_microstep t h k = simp (le-leb _ _ h, lt-leb _ _ k)

pub clock_G : (c : Clock) → within_clock c ≡ true → within c.G ≡ true
unfolding within_clock
clock_G c e = and_left _ _ e

pub clock_L : (c : Clock) → within_clock c ≡ true → within c.L ≡ true
unfolding within_clock
clock_L c e = and_left _ _ (and_right (within c.G) _ e)

pub clock_S : (c : Clock) → within_clock c ≡ true → within c.S ≡ true
unfolding within_clock
clock_S c e = and_right (within c.L) _ (and_right (within c.G) _ e)

pub clock_all : (c : Clock) {r : Bool} → within c.G ≡ true → within c.L ≡ true → r ≡ within c.S → r ≡ within_clock c
unfolding within_clock
clock_all c g l s = simp (g, l) s

pub clock_not_L : (c : Clock) → within c.G ≡ true → within c.L ≡ false → false ≡ within_clock c
unfolding within_clock
clock_not_L c g l = simp (g, l)

pub clock_not_G : (c : Clock) → within c.G ≡ false → false ≡ within_clock c
unfolding within_clock
clock_not_G c g = simp g

-- ---- equal tags

pub same_tag_lem : (t u : Tag) → same_tag t u ≡ true → t ≡ u
unfolding same_tag
same_tag_lem t u e =
    let o = eqb-true t.offset u.offset (and_left (eqb t.offset u.offset) _ e) in
    let m = eqb-true t.microstep u.microstep (and_right (eqb t.offset u.offset) _ e) in
    let z : at t.offset t.microstep ≡ at u.offset u.microstep = rw (o, m) in
    z

-- ---- the delay

pub delayed_six : (t : Tag) → within t ≡ false → refused ArgumentTag ≡ delayed t
unfolding delayed
delayed_six t w = simp w

module _ (t : Tag) {m : ℕ} (w : within t ≡ true) (e : m ≡ t.microstep) where
  pub delayed_more : {o : ℕ} {u : Tag} → m < max_microstep → o ≡ t.offset → u ≡ at o (m + 1) → done u ≡ delayed t
  unfolding delayed
  delayed_more h q f = let k : t.microstep < max_microstep = omega arith in simp (w, lt-ltb _ _ k) (rw (f, q, e))

  pub delayed_over : max_microstep ≤ m → refused MappedTag ≡ delayed t
  unfolding delayed
  delayed_over h = let k : max_microstep ≤ t.microstep = omega arith in simp (w, le-ltb _ _ k)

-- ---- a place

module _ (p : Place) {o m : ℕ} (e : p ≡ At o m) where
  pub settled_tag_lem : {u : Tag} → o ≤ max_offset → m ≤ max_microstep → u ≡ at o m → done u ≡ settled_at p
  settled_tag_lem h k f = rw (e, f) (simp (within_both (at o m) h k))

  pub settled_offset : max_offset < o → refused MappedTag ≡ settled_at p
  settled_offset h = rw e (simp (within_not_offset (at o m) h))

  pub settled_microstep : o ≤ max_offset → max_microstep < m → refused MappedTag ≡ settled_at p
  settled_microstep h k = rw e (simp (within_not_microstep (at o m) h k))

-- a + (x - b), with its sign
minus : (n b : ℕ) → pos n -ℤ pos b ≡ sub_ℕ n b
minus n zero = simp (le-ltb n 0 zero-le) (ap pos (omega arith))
minus n (suc b) = refl

moved : (a x b : ℕ) → pos a +ℤ (pos x -ℤ pos b) ≡ sub_ℕ (a + x) b
moved a x b = sym (+ℤ_assoc (pos a) (pos x) (neg_ℤ (pos b))) ∙ minus (a + x) b

module _ (to from x : Tag) where
  -- the code's two tests, of x's offset d and from's e, of from's microstep b and x's c
  module _ {b c d e : ℕ} (q : b ≡ from.microstep) (r : c ≡ x.microstep) (u : d ≡ x.offset) (v : e ≡ from.offset) where
    pub step_shifted : {a m : ℕ} → a ≡ to.microstep → d ≡ e → b ≤ c → m ≡ a + (c - b) → m ≡ (shifted to from x).microstep
    unfolding shifted
    step_shifted p w h k =
        let y : x.offset ≡ from.offset = omega arith in
        let z : from.microstep ≤ x.microstep = omega arith in
        simp (eq-eqb _ _ y, le-leb _ _ z) (omega arith)

    pub step_own : {m : ℕ} → ((d ≡ e) × (c < b)) ⊎ (d ≡ e → ⊥) → m ≡ c → m ≡ (shifted to from x).microstep
    unfolding shifted
    step_own {m = m} w k = go w
      where
        go : ((d ≡ e) × (c < b)) ⊎ (d ≡ e → ⊥) → m ≡ (shifted to from x).microstep
        go (inl w) =
            let y : x.offset ≡ from.offset = omega arith in
            let z : x.microstep < from.microstep = omega arith in
            simp (eq-eqb _ _ y, lt-leb _ _ z) (k ∙ r)
        go (inr w) = let n : x.offset ≡ from.offset → ⊥ = (λ f. w (omega arith)) in simp (ne_eqb _ _ n) (k ∙ r)

  -- in the code's four cases, of the offsets a, b and c: from's is at or before to's, or behind it
  module _ {a b c : ℕ} (p : a ≡ to.offset) (q : b ≡ from.offset) (r : c ≡ x.offset) where
    pub shifted_beyond : b ≤ a → (c + (a - b) < wide → ⊥) → Beyond ≡ place_of (shifted to from x)
    unfolding shifted
    shifted_beyond h k =
        let l : from.offset ≤ to.offset + x.offset = omega arith in
        let g : wide ≤ to.offset + x.offset - from.offset = omega (arith, k) in
        simp (moved, le-ltb _ _ l, le-ltb _ _ g)

    pub shifted_ahead : b ≤ a → {o m : ℕ} → (c + (a - b) < wide) × (o ≡ c + (a - b)) → m ≡ (shifted to from x).microstep → At o m ≡ place_of (shifted to from x)
    unfolding shifted
    shifted_ahead h k e =
        let l : from.offset ≤ to.offset + x.offset = omega arith in
        let g : to.offset + x.offset - from.offset < wide = omega arith in
        let w : c + (a - b) ≡ to.offset + x.offset - from.offset = omega arith in
        rw (k.1, w, e) (simp (moved, le-ltb _ _ l, lt-ltb _ _ g))

    pub shifted_below : a < b → (b - a ≤ c → ⊥) → Below ≡ place_of (shifted to from x)
    unfolding shifted
    shifted_below h k = let l : to.offset + x.offset < from.offset = omega (arith, k) in simp (moved, lt-ltb _ _ l)

    pub shifted_behind : a < b → c < wide → {o m : ℕ} → (b - a ≤ c) × (o ≡ c - (b - a)) → m ≡ (shifted to from x).microstep → At o m ≡ place_of (shifted to from x)
    unfolding shifted
    shifted_behind h f k e =
        let l : from.offset ≤ to.offset + x.offset = omega arith in
        let g : to.offset + x.offset - from.offset < wide = omega arith in
        let w : c - (b - a) ≡ to.offset + x.offset - from.offset = omega arith in
        rw (k.1, w, e) (simp (moved, le-ltb _ _ l, lt-ltb _ _ g))

-- ---- held back

-- a place is earlier than G, or is G: r and s are what the code's two tests answered
module _ (G : Tag) (allowed : Bool) (p : Place) {o m : ℕ} (e : p ≡ At o m) {r : Bool} (b : r ≡ earlier (at o m) G) where
  pub held_before : r ≡ true → r ≡ held_at G allowed p
  held_before y = rw (e, ← b, y)

  module _ {s : Bool} (c : s ≡ same_tag (at o m) G) (n : r ≡ false) where
    pub held_same : s ≡ true → not allowed ≡ held_at G allowed p
    held_same y = rw (e, ← b, ← c, n, y)

    pub held_not : s ≡ false → s ≡ held_at G allowed p
    held_not y = rw (e, ← b, ← c, n, y)

-- what the code keeps of a place is all that matters
past_limit : (o m : ℕ) → wide ≤ o → within (at o m) ≡ false
past_limit o m h = within_not_offset (at o m) (omega arith)

settled_pos : (o m : ℕ) (b : Bool) → ltb o wide ≡ b → settled_at (cond b (At o m) Beyond) ≡ settled_tag (pos o) m
settled_pos o m true e = refl
settled_pos o m false e = simp (past_limit o m (ltb-false _ _ e))

settled_place : (o : ℤ) (m : ℕ) → settled_at (place_at o m) ≡ settled_tag o m
settled_place (pos o) m = settled_pos o m (ltb o wide) refl
settled_place (negsuc o) m = refl

late_place : (G : Tag) (allowed : Bool) (o m : ℕ) → G.offset < wide → wide ≤ o → held_back G allowed (at o m) ≡ false
unfolding earlier same_tag
late_place G allowed o m g h =
    let l : G.offset < o = omega arith in
    simp (gt_ltb _ _ l, gt_eqb _ _ l)

placed_pos : (G : Tag) (allowed : Bool) (o m : ℕ) (b : Bool) → G.offset < wide → ltb o wide ≡ b → placed_at G allowed (cond b (At o m) Beyond) ≡ placed G allowed (pos o) m
placed_pos G allowed o m true g e = refl
placed_pos G allowed o m false g e = let h = ltb-false _ _ e in simp (late_place G allowed o m g h, past_limit o m h)

placed_place : (G : Tag) (allowed : Bool) (o : ℤ) (m : ℕ) → G.offset < wide → placed_at G allowed (place_at o m) ≡ placed G allowed o m
placed_place G allowed (pos o) m g = placed_pos G allowed o m (ltb o wide) g refl
placed_place G allowed (negsuc o) m g = refl

-- ---- the calls: the clock, then the tag, then the answer

module _ (c : Clock) (t : Tag) where
  pub checked_clock : within_clock c ≡ false → refused StateRule ≡ checked {A = Unit {0}} c t (done tt)
  unfolding checked
  checked_clock w = simp w

  pub checked_tag : within_clock c ≡ true → within t ≡ false → refused ArgumentTag ≡ checked {A = Unit {0}} c t (done tt)
  unfolding checked
  checked_tag w v = simp (w, v)

  pub checked_both : within_clock c ≡ true → within t ≡ true → done tt ≡ checked {A = Unit {0}} c t (done tt)
  unfolding checked
  checked_both w v = simp (w, v)

  module _ {A : Type 0} (a : Result Refusal A) where
    pub checked_err : {r : Refusal} → refused r ≡ checked {A = Unit {0}} c t (done tt) → refused r ≡ checked c t a
    unfolding checked
    checked_err {r} e = go (within_clock c) (within t) e
      where
        go : (w v : Bool) → ◌≡◌ {A = Result Refusal (Unit {0})} (refused r) (cond w (cond v (done tt) (refused ArgumentTag)) (refused StateRule)) → refused r ≡ cond w (cond v a (refused ArgumentTag)) (refused StateRule)
        go true true e = cc
        go true false e = cc
        go false v e = cc

    pub checked_ok : done tt ≡ checked {A = Unit {0}} c t (done tt) → a ≡ checked c t a
    unfolding checked
    checked_ok e = go (within_clock c) (within t) e
      where
        go : (w v : Bool) → ◌≡◌ {A = Result Refusal (Unit {0})} (done tt) (cond w (cond v (done tt) (refused ArgumentTag)) (refused StateRule)) → a ≡ cond w (cond v a (refused ArgumentTag)) (refused StateRule)
        go true true e = refl
        go true false e = cc
        go false v e = cc

-- ---- the maps

module _ (c : Clock) (g : Tag) where
  pub local_level : same_tag c.G c.L ≡ true → done g ≡ to_local c g
  unfolding to_local
  local_level s = simp s

  pub local_shifted :
      {p : Place} {b a : Answer} → same_tag c.G c.L ≡ false → p ≡ place_of (shifted c.L c.G g) → b ≡ settled_at p → a ≡ b → a ≡ to_local c g
  unfolding to_local
  local_shifted s e h k =
      let u = shifted c.L c.G g in
      simp s (k ∙ h ∙ ap settled_at e ∙ settled_place u.offset u.microstep)

pub ruleset locals = (local_level, local_shifted, flag)

module _ (c : Clock) (x : Tag) where
  pub global_identity : (same_tag c.G c.L && c.allowed) ≡ true → done (record { tag = x; held = false }) ≡ to_global c x
  unfolding to_global
  global_identity s = simp s

  pub global_shifted :
      {p : Place} {a : MappedAnswer} → c.G.offset < wide → (same_tag c.G c.L && c.allowed) ≡ false → p ≡ place_of (shifted c.G c.L x) →
      a ≡ placed_at c.G c.allowed p → a ≡ to_global c x
  unfolding to_global
  global_shifted g s e h =
      let u = shifted c.G c.L x in
      simp s (h ∙ (ap (placed_at c.G c.allowed) e ∙ placed_place c.G c.allowed u.offset u.microstep g))

pub ruleset globals = (global_identity, global_shifted, flag)
