-- "while the least scope head is t": the pop's loop has turns enough, so it ends only where the least scope head is no longer t. Assumes nothing.
use Prim.Native.Nat.{ℕ, zero, suc, ◌<◌, ◌≤◌}
use Rattle.std.specs.Prelude.{Bool, ◌&&◌, ◌||◌, ◌≡◌, List, [], ◌∷◌, map}
use Rattle.std.proofs.Math.Bool.{true, false, cond}
use Rattle.std.proofs.Math.Path.{refl}
use Rattle.std.proofs.Common.{ap, ◌∙◌, sym, arith, eq-eqb}
use Rattle.std.proofs.Math.Nat.{le_refl}
use Rattle.std.proofs.Math.ListN.{length}
use Rattle.lists.specs.Lists.{lose, any, from, foldl, lose_shorter}
use Rattle.lists.specs.Walk.{done, refused}
use Rattle.table_rows.specs.Bytes.{Image}
use Rattle.tags.specs.Tags.{Tag, Answer, same_tag, earlier, image_of}
use Rattle.machine.specs.Table.{scopes}
use Rattle.machine.specs.State.{Event, Scope, in_queue, at_head, scope_in}
use Rattle.machine.specs.Heads.{Head, empty, head, Least, no_tag, least, lesser, least_of, mapped, mapped_head, scope_head_of, head_at, sooner, scope_head, is_at, Taking, taken, take_at_of, take_scopes}
use Rattle.machine.specs.Heads.{taking, root_head}
use Rattle.lists.specs.Every.{by_test, no_way, both, or_left, or_right}

lose_fewer : {A : Type 0} (p : A → Bool) (l : List A) → any p l ≡ true → length (lose p l) < length l
unfolding lose any
lose_fewer p [] e = no_way e
lose_fewer p (a ∷ l) e = go (p a) e (lose_fewer p l)
  where
    go : (b : Bool) → (b || any p l) ≡ true → (any p l ≡ true → length (lose p l) < length l) → length (cond b (lose p l) (a ∷ lose p l)) < suc (length l)
    go true e h = omega (arith, lose_shorter p l)
    go false e h = omega (arith, h e)

-- ---- a head is the tag of an event that waits

same_self : (t : Tag) → same_tag t t ≡ true
unfolding same_tag
same_self t = both (eq-eqb t.offset t.offset refl) (eq-eqb t.microstep t.microstep refl)

least_is : {u v : Tag} → least u ≡ least v → u ≡ v
least_is e = cc

least_there : (q : ℕ) (l : List Event) (t : Tag) → least_of q l ≡ least t → any (at_head q t) l ≡ true
unfolding least_of any at_head
least_there q [] t e = absurd (let z : ◌≡◌ {A = ℕ} 0 1 = cc in omega arith)
least_there q (a ∷ l) t e = go (in_queue q a) refl (least_of q l) refl e (least_there q l)
  where
    here : in_queue q a ≡ true → a.tag ≡ t → ((in_queue q a && same_tag a.tag t) || any (at_head q t) l) ≡ true
    here x z = or_left (any (at_head q t) l) (both x (ap (same_tag a.tag) (sym z) ∙ same_self a.tag))

    go : (b : Bool) → in_queue q a ≡ b → (m : Least) → least_of q l ≡ m → cond b (lesser a.tag m) m ≡ least t →
        ((u : Tag) → least_of q l ≡ least u → any (at_head q u) l ≡ true) → ((in_queue q a && same_tag a.tag t) || any (at_head q t) l) ≡ true
    go true x no_tag y e h = here x (least_is e)
    go true x (least u) y e h =
        by_test (earlier u a.tag) (λ k. or_right (in_queue q a && same_tag a.tag t) (h t (y ∙ (ap least (sym (ap (λ b. cond b u a.tag) k)) ∙ e))))
        (λ k. here x (least_is (ap least (sym (ap (λ b. cond b u a.tag) k)) ∙ e)))
    go false x m y e h = or_right (in_queue q a && same_tag a.tag t) (h t (y ∙ e))

no_head : {P : Type 0} {q : ℕ} {x g : Tag} → empty ≡ head q x g → P
no_head e = absurd (let z : ◌≡◌ {A = ℕ} 0 1 = cc in omega arith)

abbrev There : List Event → Head → Type 0
There es h = (q : ℕ) (x g : Tag) → h ≡ head q x g → any (at_head q x) es ≡ true

head_there : (ss : List Scope) (es : List Event) (i : ℕ) → There es (head_at ss es i)
unfolding head_at scope_head_of
head_there ss es i q x g e = by_test (scope_in ss i).active (λ a. scope (least_of i es) refl (rw a at e)) (λ a. no_head (rw a at e))
  where
    image : (t : Tag) (a : Answer) → least_of i es ≡ least t → mapped i t a ≡ head q x g → any (at_head q x) es ≡ true
    image t (done j) y e = let p : i ≡ q = cc in let r : t ≡ x = cc in rw (← p, ← r) (least_there i es t y)
    image t (refused n) y e = no_head e

    scope : (m : Least) → least_of i es ≡ m → mapped_head (scope_in ss i).clock i m ≡ head q x g → any (at_head q x) es ≡ true
    scope no_tag y e = no_head e
    scope (least t) y e = image t (image_of (scope_in ss i).clock t) y e

sooner_there : (es : List Event) (h k : Head) → There es h → There es k → There es (sooner h k)
sooner_there es empty k a b = b
sooner_there es (head q t g) empty a b = a
sooner_there es (head q t g) (head r u j) a b = by_test (earlier j g) (λ e. rw e b) (λ e. rw e a)

fold_there : (ss : List Scope) (es : List Event) (l : List ℕ) (h : Head) → There es h → There es (foldl sooner h (map (head_at ss es) l))
unfolding foldl
fold_there ss es [] h a = a
fold_there ss es (i ∷ l) h a = fold_there ss es l (sooner h (head_at ss es i)) (sooner_there es h (head_at ss es i) a (head_there ss es i))

scope_there : (img : Image) (ss : List Scope) (es : List Event) → There es (scope_head img ss es)
unfolding scope_head
scope_there img ss es = fold_there ss es (from 0 (scopes img)) empty (λ q x g e. no_head e)

-- ---- each turn takes an event

takes : (t : Tag) (k : Taking) (h : Head) → There k.waiting h → is_at t h ≡ true → length (take_at_of t k h).waiting < length k.waiting
unfolding taken
takes t k empty a e = no_way e
takes t k (head q x g) a e = rw e (lose_fewer (at_head q x) k.waiting (a q x g refl))

module _ (img : Image) (ss : List Scope) (t : Tag) where
  abbrev next : Taking → Taking
  next k = take_at_of t k (scope_head img ss k.waiting)

  fewer : (k : Taking) → is_at t (scope_head img ss k.waiting) ≡ true → length (next k).waiting < length k.waiting
  fewer k e = takes t k (scope_head img ss k.waiting) (scope_there img ss k.waiting) e

  -- as many turns as events wait are enough: more change nothing
  enough : (n m : ℕ) (k : Taking) → length k.waiting ≤ n → length k.waiting ≤ m → take_scopes n img ss t k ≡ take_scopes m img ss t k
  unfolding take_scopes
  enough zero zero k a b = refl
  enough zero (suc m) k a b = by_test (is_at t (scope_head img ss k.waiting)) (λ e. absurd (omega (arith, fewer k e))) (λ e. rw e)
  enough (suc n) zero k a b = by_test (is_at t (scope_head img ss k.waiting)) (λ e. absurd (omega (arith, fewer k e))) (λ e. rw e)
  enough (suc n) (suc m) k a b = go (is_at t (scope_head img ss k.waiting)) refl (enough n m (next k))
    where
      go : (c : Bool) → is_at t (scope_head img ss k.waiting) ≡ c →
          (length (next k).waiting ≤ n → length (next k).waiting ≤ m → take_scopes n img ss t (next k) ≡ take_scopes m img ss t (next k)) →
          cond c (take_scopes n img ss t (next k)) k ≡ cond c (take_scopes m img ss t (next k)) k
      go true e h = let l = fewer k e in h (omega (arith, l)) (omega (arith, l))
      go false e h = refl

  -- all that the loop still takes
  unfoldable pub takes_all : Taking → Taking
  takes_all k = take_scopes (length k.waiting) img ss t k

  pub ends : (n : ℕ) (k : Taking) → length k.waiting ≤ n → is_at t (scope_head img ss (take_scopes n img ss t k).waiting) ≡ false
  unfolding take_scopes
  ends zero k l = by_test (is_at t (scope_head img ss k.waiting)) (λ e. absurd (omega (arith, fewer k e))) (λ e. e)
  ends (suc n) k l = go (is_at t (scope_head img ss k.waiting)) refl (ends n (next k))
    where
      go : (b : Bool) → is_at t (scope_head img ss k.waiting) ≡ b →
          (length (next k).waiting ≤ n → is_at t (scope_head img ss (take_scopes n img ss t (next k)).waiting) ≡ false) →
          is_at t (scope_head img ss (cond b (take_scopes n img ss t (next k)) k).waiting) ≡ false
      go true e h = h (omega (arith, fewer k e))
      go false e h = e

  pub root_less : (k : Taking) (h : Head) → length (take_at_of t k h).waiting ≤ length k.waiting
  unfolding taken
  root_less k empty = le_refl (length k.waiting)
  root_less k (head q x g) = by_test (same_tag g t) (λ e. rw e (lose_shorter (at_head q x) k.waiting)) (λ e. rw e (le_refl (length k.waiting)))

  -- what a pop takes, with no count of turns
  pub pop_takes_lem : (k : Taking) → taking img ss t k ≡ takes_all (take_at_of t k (root_head k.waiting))
  unfolding taking takes_all
  pop_takes_lem k =
      let u = take_at_of t k (root_head k.waiting) in
      enough (length k.waiting) (length u.waiting) u (root_less k (root_head k.waiting)) (le_refl (length u.waiting))
