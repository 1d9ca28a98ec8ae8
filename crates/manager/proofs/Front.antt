-- The front of an array with blanks behind it, and the loops that copy an array to rows and back. Assumes nothing.
use mathlib.Core.Bool.{Bool}
use mathlib.Core.Path.{◌≡◌, refl, ap, ◌∙◌, sym}
use mathlib.Core.Logic.{⊎_elim}
use mathlib.Core.List.{List, [], ◌∷◌, ◌++◌, append-nil, map}
use Prim.Native.Nat.{ℕ, zero, suc, ◌+◌, ◌-◌, ◌≤◌, ◌<◌, min}
use borrow.Rule.Slice.PartMut.{put_mid}
use native.Mathlib.Nat.{min-eq_left, min-eq_right, min-le_right}
use native.Mathlib.Numerals.{add-one}
use native.Mathlib.Omega.{arith}
use lib.ListN.{drop, length-drop, drop_of_length-le, length, take, get_or, set, replicate, length-take, length-map, get_or-map}
use lib.Seq.{length-take-le, take-suc, take-suc-set, take_all}
use Rattle.lists.specs.Tests.{below?}
use Rattle.lists.specs.Rows.{map_set}
use Rattle.lists.specs.Held.{things_of, things_length, Held}
use Rattle.tags.specs.Tags.{Clock}
use Rattle.tags.specs.Views.{of_clock}
use Rattle.tags.specs.declared.ScopeClock.{ScopeClock}
use Rattle.state_scopes.specs.declared.Scope as code
use Rattle.state_scopes.specs.Scopes as scope
use Rattle.state_scopes.specs.Scopes.{Scope, most_scopes, scope_of, scopes_of}
use Rattle.state_room.specs.Padded.{padded, padded_none, padded_length, padded_take, padded_more}
use Rattle.state_room.specs.PartRows.{Scoped}
use Rattle.manager.specs.Views.{joined}

module _ {A : Type 0} (b : A) (N : ℕ) (l : List A) (full : length l ≡ N) where
  front_long : (i : ℕ) → i ≤ N → length (take i l) ≡ i
  front_long i h = length-take i l ∙ min-eq_left (rw full h)

  -- one more of the front
  pub front_next : (i : ℕ) (d : A) → i < N → set (padded b N (take i l)) i (get_or l i d) ≡ padded b N (take (i + 1) l)
  front_next i d h =
      let m = padded_more b N (take i l) (get_or l i d) in
      let n = front_long i (omega arith) in
      let k : i < length l = rw full h in
      rw (add-one, take-suc l i d k) (rw n at m)

  -- as many as there are
  pub front_end : (i n e : ℕ) → i ≤ e → e ≤ i → e ≡ min n N → take i l ≡ take n l
  front_end i n e u v q = ⊎_elim few many (below? n N)
    where
      few : n < N → take i l ≡ take n l
      few h = let m : min n N ≡ n = min-eq_left (omega arith) in let s : i ≡ n = omega arith in rw s

      many : N ≤ n → take i l ≡ take n l
      many h = let m : min n N ≡ N = min-eq_right h in take_all i l (omega arith) ∙ sym (take_all n l (omega arith))

  -- it is read again
  pub front_view : (n : ℕ) → take n (padded b N (take n l)) ≡ take n l
  front_view n = ⊎_elim few many (below? n N)
    where
      few : n < N → take n (padded b N (take n l)) ≡ take n l
      few h =
          let m : n ≤ N = omega arith in
          let k : length (take n l) ≡ n = front_long n m in
          let p : take (length (take n l)) (padded b N (take n l)) ≡ take n l = padded_take b N (take n l) (rw k m) in
          rw k at p

      many : N ≤ n → take n (padded b N (take n l)) ≡ take n l
      many h =
          let a : take n l ≡ l = take_all n l (rw full h) in
          let p : take (length l) (padded b N l) ≡ l = padded_take b N l (omega arith) in
          let q : take (length l) (padded b N l) ≡ padded b N l = take_all (length l) (padded b N l) (rw padded_length (omega arith)) in
          rw a (take_all n (padded b N l) (rw padded_length h) ∙ (sym q ∙ p))

-- ---- to rows

module _ {A : Type 0} (decode : List ℕ → A) (encode : A → List ℕ) (w N : ℕ) (long : (a : A) → length (encode a) ≡ w) (b : A) where
  pub rows_none : (l : List A) (ws : List ℕ) → Held decode encode w N long ws (replicate N b) → Held decode encode w N long ws (padded b N (take 0 l))
  rows_none l ws h = record { whole = h.whole; things = h.things ∙ sym (padded_none b N) }

  pub rows_end : (l : List A) (ws : List ℕ) (i n e : ℕ) → length l ≡ N → i ≤ e → e ≤ i → e ≡ min n N
      → Held decode encode w N long ws (padded b N (take i l)) → Held decode encode w N long ws (padded b N (take n l))
  rows_end l ws i n e full u v q h = rw (front_end b N l full i n e u v q) at h

  one_next : (l : List A) → length l ≡ N → (i : ℕ) (d x : A) (ws out : List ℕ) → i < N → x ≡ get_or l i d → Held decode encode w N long ws (padded b N (take i l))
      → Held decode encode w N long out (set (things_of decode encode w N long ws) i x) → Held decode encode w N long out (padded b N (take (i + 1) l))
  one_next l full i d x ws out h e p q =
      record { whole = q.whole; things = q.things ∙ (rw (p.things, e) (front_next b N l full i d h)) }

  module _ {B : Type 0} (view : B → A) (things : List B) (full : length things ≡ N) where
    pub rows_next : (i e : ℕ) (d : B) (ws out : List ℕ) → i < e → e ≤ N → Held decode encode w N long ws (padded b N (take i (map view things)))
        → Held decode encode w N long out (set (things_of decode encode w N long ws) i (view (get_or things i d)))
        → Held decode encode w N long out (padded b N (take (i + 1) (map view things)))
    rows_next i e d ws out h g p q = one_next (map view things) (length-map things view ∙ full) i (view d) (view (get_or things i d)) ws out (omega arith) (sym (get_or-map view things i d)) p q

    pub rows_all : (ws : List ℕ) (i n e : ℕ) → i ≤ e → e ≤ i → e ≡ min n N
        → Held decode encode w N long ws (padded b N (take i (map view things))) → Held decode encode w N long ws (padded b N (take n (map view things)))
    rows_all ws i n e u v q h = rows_end (map view things) ws i n e (length-map things view ∙ full) u v q h

-- ---- the three arrays of the scopes

joined_length : (ks : List Clock) (now before : List Bool) → length now ≡ length ks → length before ≡ length ks → length (joined ks now before) ≡ length ks
unfolding joined
joined_length [] now before a b = refl
joined_length (k ∷ ks) [] before a b = absurd (omega arith)
joined_length (k ∷ ks) (x ∷ now) [] a b = absurd (omega arith)
joined_length (k ∷ ks) (x ∷ now) (y ∷ before) a b = ap suc (joined_length ks now before (omega arith) (omega arith))

joined_get :
    (ks : List Clock) (now before : List Bool) (i : ℕ) (d : Scope) (k : Clock) (a b : Bool) → i < length ks → i < length now → i < length before →
    get_or (joined ks now before) i d ≡ record { clock = get_or ks i k; active = get_or now i a; ever = get_or before i b }
unfolding joined
joined_get [] now before i d k a b f g h = absurd (omega arith)
joined_get (x ∷ ks) [] before i d k a b f g h = absurd (omega arith)
joined_get (x ∷ ks) (y ∷ now) [] i d k a b f g h = absurd (omega arith)
joined_get (x ∷ ks) (y ∷ now) (z ∷ before) zero d k a b f g h = refl
joined_get (x ∷ ks) (y ∷ now) (z ∷ before) (suc i) d k a b f g h = joined_get ks now before i d k a b (omega arith) (omega arith) (omega arith)

-- as one list and back
pub joined_back : (l : List Scope) → joined (map (λ x. x.clock) l) (map (λ x. x.active) l) (map (λ x. x.ever) l) ≡ l
unfolding joined
joined_back [] = refl
joined_back (x ∷ l) = ap (x ∷◌) (joined_back l)

module _ (clocks : List ScopeClock) (now before : List Bool) (k : length clocks ≡ most_scopes) (a : length now ≡ most_scopes) (b : length before ≡ most_scopes) where
  pub scopes_long : length (joined (map of_clock clocks) now before) ≡ most_scopes
  scopes_long =
      let l = length-map clocks of_clock ∙ k in
      joined_length (map of_clock clocks) now before (a ∙ sym l) (b ∙ sym l) ∙ l

  scope_next : (i e : ℕ) (d : ScopeClock) (x y : Bool) (ws out : List ℕ) → i < e → e ≤ most_scopes → Scoped (take i (joined (map of_clock clocks) now before)) ws
      → scope.Held out (set (scopes_of ws) i (record { clock = of_clock (get_or clocks i d); active = get_or now i x; ever = get_or before i y }))
      → Scoped (take (i + 1) (joined (map of_clock clocks) now before)) out
  scope_next i e d x y ws out u v p q =
      let h : i < most_scopes = omega arith in
      let g = joined_get (map of_clock clocks) now before i scope.blank (of_clock d) x y (rw (length-map, k) h) (rw a h) (rw b h) in
      one_next scope.decode scope.encode scope.scope_words most_scopes scope.encode_long scope.blank (joined (map of_clock clocks) now before) scopes_long i scope.blank _ ws out h
      (sym (g ∙ rw (get_or-map of_clock clocks i d))) p q

  scope_all : (ws : List ℕ) (i n e : ℕ) → i ≤ e → e ≤ i → e ≡ min n most_scopes → Scoped (take i (joined (map of_clock clocks) now before)) ws
      → Scoped (take n (joined (map of_clock clocks) now before)) ws
  scope_all ws i n e u v q h =
      rows_end scope.decode scope.encode scope.scope_words most_scopes scope.encode_long scope.blank (joined (map of_clock clocks) now before) ws i n e scopes_long u v q h

-- what the loop over the scopes knows
pub record Copying (clocks : List ScopeClock) (now before : List Bool) (i : ℕ) (ws : List ℕ) : Type 0 where
  pub held : Scoped (take i (joined (map of_clock clocks) now before)) ws
  pub clocks_long : length clocks ≡ most_scopes
  pub active_long : length now ≡ most_scopes
  pub ever_long : length before ≡ most_scopes

module _ (clocks : List ScopeClock) (now before : List Bool) where
  pub copying_none :
      (ws : List ℕ) → scope.Held ws (replicate most_scopes scope.blank) → length clocks ≡ most_scopes → length now ≡ most_scopes → length before ≡ most_scopes →
      Copying clocks now before 0 ws
  copying_none ws h k a b =
      record {
        held = rows_none scope.decode scope.encode scope.scope_words most_scopes scope.encode_long scope.blank (joined (map of_clock clocks) now before) ws h;
        clocks_long = k;
        active_long = a;
        ever_long = b;
      }

  pub copying_next : (i e : ℕ) (d : ScopeClock) (x y : Bool) (ws out : List ℕ) → Copying clocks now before i ws → i < e → e ≤ most_scopes
      → scope.Held out (set (scopes_of ws) i (record { clock = of_clock (get_or clocks i d); active = get_or now i x; ever = get_or before i y }))
      → Copying clocks now before (i + 1) out
  copying_next i e d x y ws out p u v q =
      record {
        held = scope_next clocks now before p.clocks_long p.active_long p.ever_long i e d x y ws out u v p.held q;
        clocks_long = p.clocks_long;
        active_long = p.active_long;
        ever_long = p.ever_long;
      }

  pub copying_all :
      (ws : List ℕ) (i n e : ℕ) → Copying clocks now before i ws → i ≤ e → e ≤ i → e ≡ min n most_scopes → Scoped (take n (joined (map of_clock clocks) now before)) ws
  copying_all ws i n e p u v q = scope_all clocks now before p.clocks_long p.active_long p.ever_long ws i n e u v q p.held

-- ---- and back: a list copied one by one

module _ {A : Type 0} (l out : List A) (i : ℕ) where
  pub copy_next : (x d : A) → i < length l → length out ≡ length l → take i out ≡ take i l → x ≡ get_or l i d → take (i + 1) (set out i x) ≡ take (i + 1) l
  copy_next x d h n e q = let k : i < length out = omega arith in rw (add-one, take-suc-set out i x k, e, take-suc l i d h, q)

  pub copy_all : length out ≡ length l → length l ≤ i → take i out ≡ take i l → out ≡ l
  copy_all n h e = sym (take_all i out (omega arith)) ∙ (e ∙ take_all i l h)

scopes_length : (ws : List ℕ) → length (scopes_of ws) ≡ most_scopes
scopes_length ws = things_length scope.decode scope.encode scope.scope_words most_scopes scope.encode_long ws

-- ---- what the loops cite

pub end_few : (n N : ℕ) {e : ℕ} → e ≡ min n N → e ≤ N
end_few n N q = rw q (min-le_right n N)

-- numbers
padded_back : (n : ℕ) (l : List ℕ) → length l ≤ n → padded 0 n l ≡ l ++ replicate (n - length l) 0
unfolding padded
padded_back zero [] h = refl
padded_back zero (x ∷ l) h = absurd (omega arith)
padded_back (suc n) [] h = let e : suc n - 0 ≡ suc n = omega arith in rw e (padded_none 0 (suc n))
padded_back (suc n) (x ∷ l) h = let e : suc n - suc (length l) ≡ n - length l = omega arith in rw e (ap (x ∷◌) (padded_back n l (omega arith)))

-- what stands behind the first is zeros now
pub zeros_behind : (l : List ℕ) (n e : ℕ) {ys : List ℕ} → e ≡ min n (length l) → ys ≡ replicate (length (take (length l - e) (drop e l))) 0
    → put_mid e (length l - e) l ys ≡ padded 0 (length l) (take n l)
zeros_behind l n e q z =
    let low : e ≤ length l = omega (arith, q) in
    let same : take e l ≡ take n l = front_end 0 (length l) l refl e n e (omega arith) (omega arith) q in
    let long : length (take e l) ≡ e = length-take-le e l low in
    let rest : length (take (length l - e) (drop e l)) ≡ length l - e = length-take-le (length l - e) (drop e l) (omega (arith, length-drop e l)) in
    let last : drop (length l - e) (drop e l) ≡ [] = drop_of_length-le (drop e l) (omega (arith, length-drop e l)) in
    let all = padded_back (length l) (take e l) (omega (arith, long, low)) in
    rw (z, rest, last, append-nil, ← same) (sym (rw long at all))

-- the parts of the scopes in rows
module _ (ws : List ℕ) (i : ℕ) (h : i < most_scopes) (x : code.Scope) (e : scope_of x ≡ get_or (scopes_of ws) i scope.blank) where
  within_scopes : {B : Type 0} (f : Scope → B) → i < length (map f (scopes_of ws))
  within_scopes f = rw (length-map, scopes_length ws) h

  module _ {B : Type 0} (f : Scope → B) (out : List B) (n : length out ≡ most_scopes) (t : take i out ≡ take i (map f (scopes_of ws))) where
    part_next : take (i + 1) (set out i (f (scope_of x))) ≡ take (i + 1) (map f (scopes_of ws))
    part_next =
        copy_next (map f (scopes_of ws)) out i (f (scope_of x)) (f scope.blank) (within_scopes f) (n ∙ sym (length-map (scopes_of ws) f ∙ scopes_length ws)) t
        (ap f e ∙ sym (get_or-map f (scopes_of ws) i scope.blank))

  pub clock_next : (out : List ScopeClock) → length out ≡ most_scopes → take i (map of_clock out) ≡ take i (map (λ x. x.clock) (scopes_of ws))
      → take (i + 1) (map of_clock (set out i x.clock)) ≡ take (i + 1) (map (λ x. x.clock) (scopes_of ws))
  clock_next out n t = rw (map_set of_clock out i x.clock) (part_next (λ x. x.clock) (map of_clock out) (length-map out of_clock ∙ n) t)

  pub active_next : (out : List Bool) → length out ≡ most_scopes → take i out ≡ take i (map (λ x. x.active) (scopes_of ws))
      → take (i + 1) (set out i x.active) ≡ take (i + 1) (map (λ x. x.active) (scopes_of ws))
  active_next out n t = part_next (λ x. x.active) out n t

  pub ever_next : (out : List Bool) → length out ≡ most_scopes → take i out ≡ take i (map (λ x. x.ever) (scopes_of ws))
      → take (i + 1) (set out i x.ever) ≡ take (i + 1) (map (λ x. x.ever) (scopes_of ws))
  ever_next out n t = part_next (λ x. x.ever) out n t

module _ (ws : List ℕ) (i : ℕ) (h : most_scopes ≤ i) where
  part_all : {B : Type 0} (f : Scope → B) (out : List B) → length out ≡ most_scopes → take i out ≡ take i (map f (scopes_of ws)) → out ≡ map f (scopes_of ws)
  part_all f out n t =
      let m : length (map f (scopes_of ws)) ≡ most_scopes = length-map (scopes_of ws) f ∙ scopes_length ws in
      copy_all (map f (scopes_of ws)) out i (n ∙ sym m) (rw m h) t

  pub clocks_all : (out : List ScopeClock) → length out ≡ most_scopes → take i (map of_clock out) ≡ take i (map (λ x. x.clock) (scopes_of ws))
      → map of_clock out ≡ map (λ x. x.clock) (scopes_of ws)
  clocks_all out n t = part_all (λ x. x.clock) (map of_clock out) (length-map out of_clock ∙ n) t

  pub active_all : (out : List Bool) → length out ≡ most_scopes → take i out ≡ take i (map (λ x. x.active) (scopes_of ws)) → out ≡ map (λ x. x.active) (scopes_of ws)
  active_all out n t = part_all (λ x. x.active) out n t

  pub ever_all : (out : List Bool) → length out ≡ most_scopes → take i out ≡ take i (map (λ x. x.ever) (scopes_of ws)) → out ≡ map (λ x. x.ever) (scopes_of ws)
  ever_all out n t = part_all (λ x. x.ever) out n t
