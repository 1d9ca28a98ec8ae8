-- Things of one kind as rows of words in one array, the same laws for every kind: `decode` reads a row of w words, `encode` writes one,
-- and the array has n rows. Any words are things; `Whole` says that they are the words of their things and no others. Assumes nothing.
use Rattle.std.specs.Prelude.{◌≡◌, refl, List, ◌∷◌, map, length, set, replicate}
use Rattle.std.proofs.Math.Path.{ap}
use Rattle.std.proofs.Common.{◌∙◌, sym, mul-le-mul_right}
use Prim.Native.Nat.{ℕ, zero, suc, ◌+◌, ◌*◌, ◌<◌, ◌≤◌}
use native.Mathlib.Omega.{arith}
use Rattle.std.proofs.Math.Nat.{add-mul}
use Rattle.std.proofs.Math.ListN.{get_or}
use Rattle.std.proofs.lemmas.List.{replicate-append-replicate}
use Rattle.std.proofs.Math.Seq.{set_out}
use Rattle.lists.specs.Rows.{tab_all, flat, flat_length, flat_set, flat_row, row_at, put_row, view_of, view_length, view_get, view_past, view_put, sets_out, stores, stored}

module _ {A : Type 0} (decode : List ℕ → A) (encode : A → List ℕ) (w n : ℕ) (long : (a : A) → length (encode a) ≡ w) where
  -- the things that an array of words holds
  unfoldable pub things_of : List ℕ → List A
  things_of ws = view_of decode w ws n

  -- the one array of words that holds these things
  abbrev pub words_of : List A → List ℕ
  words_of l = flat encode w long l

  pub record Whole (ws : List ℕ) : Type 0 where
    pub words : ws ≡ words_of (things_of ws)

  pub record Held (ws : List ℕ) (l : List A) : Type 0 where
    pub whole : Whole ws
    pub things : things_of ws ≡ l

  -- so there is one end state
  pub held_words : (ws : List ℕ) (l : List A) → Held ws l → ws ≡ words_of l
  held_words ws l h = h.whole.words ∙ ap words_of h.things

  pub things_length : (ws : List ℕ) → length (things_of ws) ≡ n
  unfolding things_of
  things_length ws = view_length decode w ws n

  pub whole_long : (ws : List ℕ) → Whole ws → length ws ≡ n * w
  whole_long ws h = ap length h.words ∙ (flat_length encode w long (things_of ws) ∙ ap (λ m. m * w) (things_length ws))

  module _ (ws : List ℕ) (k : ℕ) where
    pub thing_past : (d : A) → n ≤ k → get_or (things_of ws) k d ≡ d
    unfolding things_of
    thing_past d h = view_past decode w ws n k d h

    pub thing_get : (d : A) → k < n → get_or (things_of ws) k d ≡ decode (row_at w ws k)
    unfolding things_of
    thing_get d h = view_get decode w ws n k d h

    -- past the end nothing changes
    pub put_past : length ws ≡ n * w → n ≤ k → (a : A) → put_row w ws k (encode a) ≡ ws
    put_past l h a = sets_out ws (k * w) (encode a) (let m = mul-le-mul_right w h in omega (arith, m))

    pub set_past : n ≤ k → (a : A) → set (things_of ws) k a ≡ things_of ws
    set_past h a = set_out (things_of ws) k a (rw things_length h)

    pub thing_put : length ws ≡ n * w → (a : A) → decode (encode a) ≡ a → things_of (put_row w ws k (encode a)) ≡ set (things_of ws) k a
    unfolding things_of
    thing_put l a p = view_put decode w ws n k (encode a) a (long a) (omega arith) p

  whole_put : (ws : List ℕ) (k : ℕ) (a : A) → Whole ws → decode (encode a) ≡ a → k < n → Whole (put_row w ws k (encode a))
  whole_put ws k a h p b =
      record {
        words = ap (λ x. put_row w x k (encode a)) h.words ∙
            (sym (flat_set encode w long (things_of ws) k a (rw things_length b)) ∙ ap words_of (sym (thing_put ws k (whole_long ws h) a p)));
      }

  -- one thing put
  pub held_put : (ws : List ℕ) (k : ℕ) (a : A) → Whole ws → decode (encode a) ≡ a → k < n → Held (put_row w ws k (encode a)) (set (things_of ws) k a)
  held_put ws k a h p b = record { whole = whole_put ws k a h p b; things = thing_put ws k (whole_long ws h) a p }

  -- past the end: nothing put
  pub held_past : (ws : List ℕ) (k : ℕ) (a : A) → Whole ws → n ≤ k → Held ws (set (things_of ws) k a)
  held_past ws k a h b = record { whole = h; things = sym (set_past ws k b a) }

  -- one thing put word by word, as straight-line code stores it
  pub held_stores :
      (ws : List ℕ) (k : ℕ) (a : A) (row : List ℕ) {out : List ℕ} → Whole ws → decode (encode a) ≡ a → k < n → row ≡ encode a →
      out ≡ stores ws (k * w) 0 row → Held out (set (things_of ws) k a)
  held_stores ws k a row h p b e o =
      let q : _ ≡ put_row w ws k (encode a) = o ∙ (stored ws (k * w) row ∙ ap (put_row w ws k) e) in
      rw q (held_put ws k a h p b)

  -- a row is the words of its thing
  whole_row : (ws : List ℕ) (k : ℕ) (d : A) → Whole ws → k < n → row_at w ws k ≡ encode (get_or (things_of ws) k d)
  whole_row ws k d h b = ap (λ x. row_at w x k) h.words ∙ flat_row encode w long (things_of ws) k d (rw things_length b)

  whole_back : (ws : List ℕ) (k : ℕ) (d : A) → Whole ws → k < n → decode (encode (get_or (things_of ws) k d)) ≡ get_or (things_of ws) k d
  whole_back ws k d h b = ap decode (sym (whole_row ws k d h b)) ∙ sym (thing_get ws k d b)

  -- one thing copied over another, word by word
  pub held_copy :
      (ws : List ℕ) (from to : ℕ) (d : A) {out : List ℕ} → Whole ws → from < n → to < n →
      out ≡ stores ws (to * w) 0 (row_at w ws from) → Held out (set (things_of ws) to (get_or (things_of ws) from d))
  held_copy ws from to d h f t o =
      held_stores ws to (get_or (things_of ws) from d) (row_at w ws from) h (whole_back ws from d h f) t (whole_row ws from d h f) o

  -- to things and back: the same words, whatever way they came
  pub rows_back : (ws out : List ℕ) → Whole ws → Held out (things_of ws) → out ≡ ws
  rows_back ws out h p = held_words out (things_of ws) p ∙ sym h.words

  -- ---- a blank array

  module _ (blank : A) (back : decode (replicate w 0) ≡ blank) (zeros : encode blank ≡ replicate w 0) where
    zero_words : (m i : ℕ) → ◌≡◌ {A = ℕ} (get_or (replicate m 0) i 0) 0
    zero_words zero i = refl
    zero_words (suc m) zero = refl
    zero_words (suc m) (suc i) = zero_words m i

    map_all : (m : ℕ) (r : List ℕ) → map decode (replicate m r) ≡ replicate m (decode r)
    map_all zero r = refl
    map_all (suc m) r = ap (decode r ∷◌) (map_all m r)

    pub zero_things : (m : ℕ) → things_of (replicate m 0) ≡ replicate n blank
    unfolding things_of
    zero_things m =
        ap (map decode) (tab_all (row_at w (replicate m 0)) 0 n (replicate w 0) (λ k. tab_all (λ j. get_or (replicate m 0) (k * w + j) 0) 0 w 0 (λ j. zero_words m (k * w + j)))) ∙
        (map_all n (replicate w 0) ∙ ap (replicate n) back)

    zero_flat : (m : ℕ) → words_of (replicate m blank) ≡ replicate (m * w) 0
    unfolding flat
    zero_flat zero = let e : 0 * w ≡ 0 = omega arith in rw e
    zero_flat (suc m) = let e : suc m * w ≡ w + m * w = omega (arith, add-mul 1 m w) in rw (zero_flat m, zeros, e) (replicate-append-replicate w (m * w) 0)

    pub whole_zero : Whole (replicate (n * w) 0)
    whole_zero = record { words = rw (zero_things (n * w), zero_flat n) }
