-- The first that passes, what stays of the front of an array, and the loops over things as rows of words. Assumes nothing.
use Rattle.std.specs.Prelude.{Bool, not, ◌&&◌, ◌||◌, leb, take, drop, get_or}
use Rattle.std.proofs.Math.Bool.{true, false, cond}
use Rattle.std.proofs.Math.Path.{◌≡◌, refl, ap, sym}
use Rattle.std.proofs.Common.{◌∙◌, add-one, lt-ltb, le-ltb, ltb-true, ltb-false, length-take, length-set, take-suc, take-suc-set, take_all, get_or-take}
use mathlib.Core.List.{List, [], ◌∷◌, ◌++◌, append-nil, map, map-append}
use Prim.Native.Nat.{ℕ, zero, suc, ◌+◌, ◌*◌, ◌≤◌, ◌<◌}
use native.Mathlib.Omega.{arith}
use Rattle.std.proofs.Math.Dec.{ltb}
use Rattle.std.proofs.lemmas.Bool.{lt-leb}
use Rattle.std.proofs.Math.ListN.{length, set, length-append}
use Rattle.std.proofs.lemmas.List.{length-map}
use Rattle.std.proofs.Math.Seq.{take-append_seam}
use Rattle.lists.specs.Lists.{lose, any, upsert, lose_append, lose_shorter, over, over_read, over_write, drop_step, drop_take_end}
use Rattle.lists.specs.Lay.{lay, lay_same, lay_more, lay_clear, lay_over}
use Rattle.lists.specs.Rows.{tab, stores, stored, map_set}
use Rattle.lists.specs.Held.{things_of, things_length, thing_past, thing_get, Whole, Held, held_put}

suc_ltb : (a b : ℕ) → ltb (suc a) (suc b) ≡ ltb a b
suc_ltb a b = go (ltb a b) refl
  where
    go : (t : Bool) → ltb a b ≡ t → ltb (suc a) (suc b) ≡ t
    go true e = lt-ltb (suc a) (suc b) (let h = ltb-true a b e in omega arith)
    go false e = le-ltb (suc a) (suc b) (let h = ltb-false a b e in omega arith)

-- ---- the first that passes

module _ {A : Type 0} (p : A → Bool) where
  -- its index, or the length
  unfoldable pub place : List A → ℕ
  place [] = 0
  place (a ∷ l) = cond (p a) 0 (suc (place l))

  pub place_any : (l : List A) → any p l ≡ ltb (place l) (length l)
  unfolding place any
  place_any [] = refl
  place_any (a ∷ l) = go (p a) (place_any l)
    where
      go : (b : Bool) → any p l ≡ ltb (place l) (length l) → (b || any p l) ≡ ltb (cond b 0 (suc (place l))) (suc (length l))
      go true h = sym (lt-ltb 0 (suc (length l)) (omega arith))
      go false h = h ∙ sym (suc_ltb (place l) (length l))

  pub place_short : (l : List A) → place l ≤ length l
  unfolding place
  place_short [] = omega arith
  place_short (a ∷ l) = go (p a) (place_short l)
    where
      go : (b : Bool) → place l ≤ length l → cond b 0 (suc (place l)) ≤ suc (length l)
      go true h = omega arith
      go false h = omega arith

  pub place_none : place [] ≡ 0
  unfolding place
  place_none = refl

  pub place_here : (a : A) (l : List A) → p a ≡ true → place (a ∷ l) ≡ 0
  unfolding place
  place_here a l h = simp h

  pub place_next : (a : A) (l : List A) → p a ≡ false → place (a ∷ l) ≡ suc (place l)
  unfolding place
  place_next a l h = simp h

  lose_no : (l : List A) → any p l ≡ false → lose p l ≡ l
  unfolding lose any
  lose_no [] e = refl
  lose_no (a ∷ l) e = go (p a) e (lose_no l)
    where
      go : (b : Bool) → (b || any p l) ≡ false → (any p l ≡ false → lose p l ≡ l) → cond b (lose p l) (a ∷ lose p l) ≡ a ∷ l
      go true e h = absurd (let z : ◌≡◌ {A = ℕ} 0 1 = cc in omega arith)
      go false e h = ap (a ∷◌) (h e)

  -- none passes: all stay
  pub lose_none : (l : List A) → length l ≤ place l → lose p l ≡ l
  lose_none l h = lose_no l (place_any l ∙ le-ltb _ _ h)

  -- one passes: one less
  pub lose_fewer : (l : List A) → place l < length l → length (lose p l) < length l
  unfolding lose place
  lose_fewer [] h = absurd (omega arith)
  lose_fewer (a ∷ l) h = go (p a) h (lose_fewer l) (lose_shorter p l)
    where
      go : (b : Bool) → cond b 0 (suc (place l)) < suc (length l) → (place l < length l → length (lose p l) < length l) → length (lose p l) ≤ length l →
          length (cond b (lose p l) (a ∷ lose p l)) < suc (length l)
      go true h f g = omega arith
      go false h f g = let k = f (omega arith) in omega arith

  module _ (f : A → A) (x : A) where
    -- one passes: it is changed
    pub upsert_old : (l : List A) (d : A) → place l < length l → upsert p f x l ≡ set l (place l) (f (get_or l (place l) d))
    unfolding upsert place
    upsert_old [] d h = absurd (omega arith)
    upsert_old (a ∷ l) d h = go (p a) h (upsert_old l d)
      where
        go : (b : Bool) → cond b 0 (suc (place l)) < suc (length l) → (place l < length l → upsert p f x l ≡ set l (place l) (f (get_or l (place l) d))) →
            cond b (f a ∷ l) (a ∷ upsert p f x l) ≡ set (a ∷ l) (cond b 0 (suc (place l))) (f (get_or (a ∷ l) (cond b 0 (suc (place l))) d))
        go true h k = refl
        go false h k = ap (a ∷◌) (k (omega arith))

    -- none passes: a new one comes last
    pub upsert_new : (l : List A) → length l ≤ place l → upsert p f x l ≡ l ++ (x ∷ [])
    unfolding upsert place
    upsert_new [] h = refl
    upsert_new (a ∷ l) h = go (p a) h (upsert_new l)
      where
        go : (b : Bool) → suc (length l) ≤ cond b 0 (suc (place l)) → (length l ≤ place l → upsert p f x l ≡ l ++ (x ∷ [])) → cond b (f a ∷ l) (a ∷ upsert p f x l) ≡ a ∷ (l ++ (x ∷ []))
        go true h k = absurd (omega arith)
        go false h k = ap (a ∷◌) (k (omega arith))

  -- none passes, and there are m already: the place is m
  pub place_full : (m : ℕ) (l : List A) → length l ≤ m → (not (any p l) && leb m (length l)) ≡ leb m (place l)
  place_full m l h = rw (place_any l) (go (ltb (place l) (length l)) refl)
    where
      go : (b : Bool) → ltb (place l) (length l) ≡ b → (not b && leb m (length l)) ≡ leb m (place l)
      go true e = sym (lt-leb m (place l) (let g = ltb-true (place l) (length l) e in omega arith))
      go false e = let g = ltb-false (place l) (length l) e in let s : place l ≡ length l = omega (arith, place_short l) in rw s

-- ---- one element of the list that is laid

pub lay_set : {A : Type 0} (b : A) (old : List A) (n i : ℕ) (a : A) → i < n → lay b old (set (take n old) i a) n ≡ set old i a
unfolding lay
lay_set b [] n i a h = refl
lay_set b (x ∷ old) zero i a h = absurd (omega arith)
lay_set b (x ∷ old) (suc n) zero a h = ap (a ∷◌) (lay_same b old n)
lay_set b (x ∷ old) (suc n) (suc i) a h = ap (x ∷◌) (lay_set b old n i a (omega arith))

map_take : {A B : Type 0} (f : A → B) (i : ℕ) (l : List A) → map f (take i l) ≡ take i (map f l)
map_take f zero l = refl
map_take f (suc i) [] = refl
map_take f (suc i) (a ∷ l) = ap (f a ∷◌) (map_take f i l)

-- ---- things as rows of words

module _ {A : Type 0} (decode : List ℕ → A) (encode : A → List ℕ) (w n : ℕ) (long : (a : A) → length (encode a) ≡ w) where
  module _ (ws : List ℕ) (k : ℕ) where
    -- the returns of a function that reads a row
    pub read_past : (d : A) {r : A} → r ≡ d → n ≤ k → r ≡ get_or (things_of decode encode w n long ws) k d
    read_past d e h = e ∙ sym (thing_past decode encode w n long ws k d h)

    pub read_there : (d : A) → k < n → decode (tab (λ j. get_or ws (k * w + j) 0) 0 w) ≡ get_or (things_of decode encode w n long ws) k d
    read_there d h = sym (thing_get decode encode w n long ws k d h)

    -- and of one that writes a row
    pub write_there : (a : A) {out : List ℕ} → Whole decode encode w n long ws → decode (encode a) ≡ a → k < n → out ≡ stores ws (k * w) 0 (encode a)
        → Held decode encode w n long out (set (things_of decode encode w n long ws) k a)
    write_there a h b l e = rw (e, stored ws (k * w) (encode a)) (held_put decode encode w n long ws k a h b l)

  -- those in use
  pub front_long : (ws : List ℕ) (m : ℕ) → m ≤ n → length (take m (things_of decode encode w n long ws)) ≡ m
  front_long ws m h = rw (length-take, things_length) (omega arith)

  -- ---- the first that passes, from an index on

  module _ (p : A → Bool) (ws : List ℕ) (m : ℕ) where
    abbrev pub from_here : ℕ → ℕ
    from_here i = i + place p (drop i (take m (things_of decode encode w n long ws)))

    module _ (i : ℕ) (d a : A) (b : Bool) (h : i < m) (f : m ≤ n) (r : a ≡ get_or (things_of decode encode w n long ws) i d) (e : b ≡ p a) where
      one : drop i (take m (things_of decode encode w n long ws)) ≡ a ∷ drop (i + 1) (take m (things_of decode encode w n long ws))
      one = rw r (drop_step (things_of decode encode w n long ws) m i d h (rw things_length f))

      pub find_next : {s : ℕ} → b ≡ false → s ≡ from_here i → s ≡ from_here (i + 1)
      find_next y q = q ∙ (rw (one, place_next p a (drop (i + 1) (take m (things_of decode encode w n long ws))) (sym e ∙ y)) (omega arith))

      pub find_here : {s : ℕ} → b ≡ true → s ≡ from_here i → i ≡ s
      find_here y q = sym (q ∙ (rw (one, place_here p a (drop (i + 1) (take m (things_of decode encode w n long ws))) (sym e ∙ y)) (omega arith)))

    pub find_none : (i : ℕ) {s : ℕ} → i ≤ m → m ≤ i → s ≡ from_here i → i ≡ s
    find_none i u v q =
        let e : i ≡ m = omega arith in
        sym (q ∙ rw (e, drop_take_end m (things_of decode encode w n long ws), place_none p) (omega arith))

  -- ---- those that stay, over the front

  abbrev stay : (A → Bool) → List ℕ → ℕ → List A
  stay p ws i = lose p (take i (things_of decode encode w n long ws))

  pub record Compacted (p : A → Bool) (ws : List ℕ) (i m : ℕ) (out : List ℕ) : Type 0 where
    pub count : m ≡ length (stay p ws i)
    pub held : Held decode encode w n long out (over (stay p ws i) (things_of decode encode w n long ws))

  module _ (p : A → Bool) (ws : List ℕ) where
    pub compact_none : Whole decode encode w n long ws → Compacted p ws 0 0 ws
    unfolding lose
    compact_none h = record { count = refl; held = record { whole = h; things = refl } }

    stay_short : (i : ℕ) → length (stay p ws i) ≤ i
    stay_short i = omega (arith, lose_shorter p (take i (things_of decode encode w n long ws)), length-take i (things_of decode encode w n long ws))

    module _ (m i k : ℕ) (out : List ℕ) (b : i < m) (f : m ≤ n) (h : Compacted p ws i k out) (d a : A)
        (r : a ≡ get_or (things_of decode encode w n long out) i d) (x : Bool) (e : x ≡ p a) where
      read : a ≡ get_or (things_of decode encode w n long ws) i d
      read = r ∙ (ap (λ l. get_or l i d) h.held.things ∙ over_read (stay p ws i) (things_of decode encode w n long ws) i d (stay_short i))

      inside : i < length (things_of decode encode w n long ws)
      inside = rw things_length (omega arith)

      more : stay p ws (i + 1) ≡ stay p ws i ++ lose p (a ∷ [])
      more = rw (add-one, take-suc (things_of decode encode w n long ws) i d inside, lose_append, ← read)

      pub compact_stays : x ≡ false → (next : List ℕ) → Held decode encode w n long next (set (things_of decode encode w n long out) k a) → Compacted p ws (i + 1) (k + 1) next
      unfolding lose
      compact_stays y next q =
          let s : stay p ws (i + 1) ≡ stay p ws i ++ (a ∷ []) = more ∙ simp (sym e ∙ y) in
          record {
            count = rw (s, length-append, h.count);
            held = record {
              whole = q.whole;
              things = rw s (q.things ∙ rw (h.held.things, h.count) (over_write (stay p ws i) (things_of decode encode w n long ws) a (omega (arith, inside, stay_short i))));
            };
          }

      pub compact_goes : x ≡ true → Compacted p ws (i + 1) k out
      unfolding lose
      compact_goes y =
          let s : stay p ws (i + 1) ≡ stay p ws i = more ∙ simp (sym e ∙ y, append-nil) in
          record { count = rw s h.count; held = rw s h.held }

    module _ (m i k : ℕ) (out : List ℕ) (a : i ≤ m) (b : m ≤ i) (h : Compacted p ws i k out) where
      pub compact_count : k ≡ length (stay p ws m)
      compact_count = let e : i ≡ m = omega arith in rw (← e) h.count

      pub compact_held : Held decode encode w n long out (over (stay p ws m) (things_of decode encode w n long ws))
      compact_held = let e : i ≡ m = omega arith in rw (← e) h.held

  -- ---- blanks behind them

  module _ (blank : A) (ws : List ℕ) (k : ℕ) where
    abbrev pub blanked : ℕ → List A
    blanked i = lay blank (things_of decode encode w n long ws) (take k (things_of decode encode w n long ws)) i

    pub blank_none : Whole decode encode w n long ws → Held decode encode w n long ws (blanked k)
    blank_none h = record { whole = h; things = sym (lay_same blank (things_of decode encode w n long ws) k) }

    pub blank_one : (i : ℕ) (out next : List ℕ) (a : A) → k ≤ i → a ≡ blank → Held decode encode w n long out (blanked i)
        → Held decode encode w n long next (set (things_of decode encode w n long out) i a) → Held decode encode w n long next (blanked (i + 1))
    blank_one i out next a b e h q = record { whole = q.whole; things = q.things ∙ rw (h.things, e, add-one) (lay_clear blank (things_of decode encode w n long ws) k i b) }

    pub blank_all : (m i : ℕ) (out : List ℕ) → i ≤ m → m ≤ i → Held decode encode w n long out (blanked i) → Held decode encode w n long out (blanked m)
    blank_all m i out a b h = let e : i ≡ m = omega arith in rw e at h

  -- ---- both: what stays laid over the array

  module _ (blank : A) (p : A → Bool) (ws : List ℕ) (m : ℕ) where
    pub lose_room : {k : ℕ} → k ≡ length (stay p ws m) → k ≤ m
    lose_room e = rw e (stay_short p ws m)

    pub lose_done : (k : ℕ) (mid out : List ℕ) → m ≤ n → k ≡ length (stay p ws m) → Held decode encode w n long mid (over (stay p ws m) (things_of decode encode w n long ws))
        → Held decode encode w n long out (blanked blank mid k m) → Held decode encode w n long out (lay blank (things_of decode encode w n long ws) (stay p ws m) m)
    lose_done k mid out f e h q =
        let g : length (stay p ws m) ≤ length (things_of decode encode w n long ws) = rw things_length (omega (arith, stay_short p ws m)) in
        record {
          whole = q.whole;
          things = q.things ∙ rw (h.things, e, take-append_seam (stay p ws m) (drop (length (stay p ws m)) (things_of decode encode w n long ws)))
              (lay_over blank (things_of decode encode w n long ws) (stay p ws m) m g);
        }

  -- ---- a test over all, one at a time

  module _ (g : List A → Bool) (test : A → List A → Bool) (cons : (a : A) (l : List A) → g (a ∷ l) ≡ (test a l && g l)) (none : g [] ≡ true) (ws : List ℕ) (m : ℕ) where
    abbrev left : ℕ → List A
    left i = drop i (take m (things_of decode encode w n long ws))

    module _ (i : ℕ) (d a : A) (b : Bool) (h : i < m) (f : m ≤ n) (r : a ≡ get_or (things_of decode encode w n long ws) i d) (e : b ≡ test a (left (i + 1))) where
      head : g (left i) ≡ (test a (left (i + 1)) && g (left (i + 1)))
      head = rw (drop_step (things_of decode encode w n long ws) m i d h (rw things_length f), ← r) (cons a (left (i + 1)))

      pub test_on : {s : Bool} → b ≡ true → s ≡ g (left i) → s ≡ g (left (i + 1))
      test_on y q = q ∙ (head ∙ simp (sym e ∙ y))

      pub test_fails : {s : Bool} → b ≡ false → s ≡ g (left i) → false ≡ s
      test_fails y q = sym (q ∙ (head ∙ simp (sym e ∙ y)))

    pub test_all : (i : ℕ) {s : Bool} → i ≤ m → m ≤ i → s ≡ g (left i) → true ≡ s
    test_all i u v q = let e : i ≡ m = omega arith in sym (q ∙ rw (e, drop_take_end m (things_of decode encode w n long ws)) none)

  -- ---- one changed, or one more

  module _ (blank : A) (p : A → Bool) (f : A → A) (x : A) (ws : List ℕ) (m i : ℕ) (e : i ≡ place p (take m (things_of decode encode w n long ws))) (g : m ≤ n) where
    front_length : length (take m (things_of decode encode w n long ws)) ≡ m
    front_length = front_long ws m g

    pub changed_count : i < m → m ≡ length (upsert p f x (take m (things_of decode encode w n long ws)))
    changed_count h = rw (upsert_old p f x (take m (things_of decode encode w n long ws)) blank (rw (← e, front_length) h), length-set) (sym front_length)

    pub changed_held : (d old a : A) (out : List ℕ) → i < m → old ≡ get_or (things_of decode encode w n long ws) i d → a ≡ f old
        → Held decode encode w n long out (set (things_of decode encode w n long ws) i a)
        → Held decode encode w n long out (lay blank (things_of decode encode w n long ws) (upsert p f x (take m (things_of decode encode w n long ws))) m)
    changed_held d old a out h r y q =
        let s : get_or (take m (things_of decode encode w n long ws)) i d ≡ old = get_or-take m (things_of decode encode w n long ws) i d h ∙ sym r in
        record {
          whole = q.whole;
          things = rw y at q.things ∙ sym (rw (upsert_old p f x (take m (things_of decode encode w n long ws)) d (rw (← e, front_length) h), ← e, s)
              (lay_set blank (things_of decode encode w n long ws) m i (f old) h));
        }

    pub added_count : m ≤ i → m + 1 ≡ length (upsert p f x (take m (things_of decode encode w n long ws)))
    added_count h = rw (upsert_new p f x (take m (things_of decode encode w n long ws)) (rw (← e, front_length) h), length-append, front_length)

    pub added_held : (out : List ℕ) → m ≤ i → Held decode encode w n long out (set (things_of decode encode w n long ws) m x)
        → Held decode encode w n long out (lay blank (things_of decode encode w n long ws) (upsert p f x (take m (things_of decode encode w n long ws))) m)
    added_held out h q =
        record {
          whole = q.whole;
          things = q.things ∙ sym (rw (upsert_new p f x (take m (things_of decode encode w n long ws)) (rw (← e, front_length) h))
              (lay_more blank (things_of decode encode w n long ws) m x));
        }

  -- ---- an array of the code's things to rows and back

  module _ {B : Type 0} (view : B → A) (things : List B) (full : length things ≡ n) where
    pub rows_more : (i : ℕ) (ws out : List ℕ) (d : B) → i < n → take i (things_of decode encode w n long ws) ≡ take i (map view things)
        → Held decode encode w n long out (set (things_of decode encode w n long ws) i (view (get_or things i d))) → take (i + 1) (things_of decode encode w n long out) ≡ take (i + 1) (map view things)
    rows_more i ws out d h e q =
        let l : i < length things = omega arith in
        rw (add-one, q.things, take-suc-set (things_of decode encode w n long ws) i (view (get_or things i d)) (rw things_length h), e)
        (rw (← (map_take view i things), ← (map_take view (suc i) things), take-suc things i d l, map-append))

    pub rows_all : (i : ℕ) (ws : List ℕ) → Whole decode encode w n long ws → n ≤ i → take i (things_of decode encode w n long ws) ≡ take i (map view things)
        → Held decode encode w n long ws (map view things)
    rows_all i ws h b e =
        record { whole = h; things = sym (take_all i (things_of decode encode w n long ws) (rw things_length b)) ∙ (e ∙ take_all i (map view things) (rw length-map (omega arith))) }

    pub things_more : (i : ℕ) (ws : List ℕ) (b : B) (d : A) → i < n → take i (map view things) ≡ take i (things_of decode encode w n long ws) → view b ≡ get_or (things_of decode encode w n long ws) i d
        → take (i + 1) (map view (set things i b)) ≡ take (i + 1) (things_of decode encode w n long ws)
    things_more i ws b d h e r =
        rw (add-one, take-suc (things_of decode encode w n long ws) i d (rw things_length h), map_set view things i b, take-suc-set (map view things) i (view b) (rw length-map (omega arith)), e, r)

    pub things_all : (i : ℕ) (ws : List ℕ) → n ≤ i → take i (map view things) ≡ take i (things_of decode encode w n long ws) → map view things ≡ things_of decode encode w n long ws
    things_all i ws b e = sym (take_all i (map view things) (rw length-map (omega arith))) ∙ (e ∙ take_all i (things_of decode encode w n long ws) (rw things_length b))
