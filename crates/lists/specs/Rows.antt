-- Rows of w words in one list: reading one, putting one, all of them. Total: a row past the end reads as zeros, and a put there changes nothing. Assumes nothing.
use Rattle.std.specs.Prelude.{◌≡◌, get_or, set, replicate}
use Rattle.std.proofs.Math.Path.{refl, ap, sym, subst⁻¹}
use Rattle.std.proofs.Common.{◌∙◌, ⊎_elim, mul-le-mul_right, length-set, get_or-append-add, get_or-set_same, get_or-set_other, ext_get_or}
use mathlib.Core.List.{List, [], ◌∷◌, ◌++◌, map}
use Prim.Native.Nat.{ℕ, zero, suc, ◌+◌, ◌*◌, ◌≤◌, ◌<◌}
use native.Mathlib.Omega.{arith}
use Rattle.std.proofs.Math.Nat.{add-mul}
use Rattle.std.proofs.Math.ListN.{length, length-append, get_or-eq_default, get_or-append}
use Rattle.std.proofs.lemmas.List.{length-map}
use Rattle.std.proofs.Math.Seq.{set_out, drop-append_seam}
use Rattle.std.proofs.lemmas.List.Edits.{sets, sets-eq}
use Rattle.lists.specs.Tests.{same?, apart}

module _ {A : Type 0} where
  -- f i, f (i + 1), .. , n of them
  unfoldable pub tab : (ℕ → A) → ℕ → ℕ → List A
  tab f i zero = []
  tab f i (suc n) = f i ∷ tab f (suc i) n

  pub tab_length : (f : ℕ → A) (i n : ℕ) → length (tab f i n) ≡ n
  unfolding tab
  tab_length f i zero = refl
  tab_length f i (suc n) = ap suc (tab_length f (suc i) n)

  pub tab_get : (f : ℕ → A) (i n j : ℕ) (d : A) → j < n → get_or (tab f i n) j d ≡ f (i + j)
  unfolding tab
  tab_get f i zero j d h = absurd (omega arith)
  tab_get f i (suc n) zero d h = let e : i + 0 ≡ i = omega arith in rw e
  tab_get f i (suc n) (suc j) d h = let e : i + suc j ≡ suc i + j = omega arith in tab_get f (suc i) n j d (omega arith) ∙ rw e

  pub tab_at : (f : ℕ → A) (n j : ℕ) (d : A) → j < n → get_or (tab f 0 n) j d ≡ f j
  tab_at f n j d h = let e : 0 + j ≡ j = omega arith in tab_get f 0 n j d h ∙ rw e

  -- another table with one entry changed
  pub tab_set : (f g : ℕ → A) (n k : ℕ) (a : A) → (k < n → g k ≡ a) → ((j : ℕ) → j < n → (j ≡ k → ⊥) → g j ≡ f j) → tab g 0 n ≡ set (tab f 0 n) k a
  tab_set f g n k a y o =
      ext_get_or a (tab g 0 n) (set (tab f 0 n) k a) (rw (length-set, tab_length, tab_length))
      λ j h. one j (subst⁻¹ (λ (m : ℕ). j < m) (sym (tab_length g 0 n)) h)
    where
      one : (j : ℕ) → j < n → get_or (tab g 0 n) j a ≡ get_or (set (tab f 0 n) k a) j a
      one j h =
          tab_at g n j a h ∙
          ⊎_elim (λ (e : j ≡ k). rw e (y (rw e at h) ∙ sym (get_or-set_same (tab f 0 n) k a a (rw (tab_length f 0 n, ← e) h))))
          (λ (e : j ≡ k → ⊥). o j h e ∙ sym (get_or-set_other (tab f 0 n) k j a a e ∙ tab_at f n j a h))
          (same? j k)

  -- ---- a run of words put into a list

  pub sets_low : (l : List A) (i : ℕ) (vs : List A) (j : ℕ) (d : A) → j < i → get_or (sets l i vs) j d ≡ get_or l j d
  sets_low l i [] j d h = refl
  sets_low l i (a ∷ vs) j d h = sets_low (set l i a) (suc i) vs j d (omega arith) ∙ get_or-set_other l i j a d (omega arith)

  pub sets_high : (l : List A) (i : ℕ) (vs : List A) (j : ℕ) (d : A) → i + length vs ≤ j → get_or (sets l i vs) j d ≡ get_or l j d
  sets_high l i [] j d h = refl
  sets_high l i (a ∷ vs) j d h = sets_high (set l i a) (suc i) vs j d (omega arith) ∙ get_or-set_other l i j a d (omega arith)

  pub sets_in : (l : List A) (i : ℕ) (vs : List A) (j : ℕ) (d : A) → j < length vs → i + length vs ≤ length l → get_or (sets l i vs) (i + j) d ≡ get_or vs j d
  sets_in l i [] j d h f = absurd (omega arith)
  sets_in l i (a ∷ vs) zero d h f =
      let e : i + 0 ≡ i = omega arith in
      rw e (sets_low (set l i a) (suc i) vs i d (omega arith) ∙ get_or-set_same l i a d (omega arith))
  sets_in l i (a ∷ vs) (suc j) d h f =
      let e : i + suc j ≡ suc i + j = omega arith in
      let g : suc i + length vs ≤ length (set l i a) = rw length-set (omega arith) in
      rw e (sets_in (set l i a) (suc i) vs j d (omega arith) g)

  pub sets_out : (l : List A) (i : ℕ) (vs : List A) → length l ≤ i → sets l i vs ≡ l
  sets_out l i [] h = refl
  sets_out l i (a ∷ vs) h = rw (set_out l i a h) (sets_out l (suc i) vs (omega arith))

  pub tab_all : (f : ℕ → A) (i n : ℕ) (a : A) → ((j : ℕ) → f j ≡ a) → tab f i n ≡ replicate n a
  unfolding tab
  tab_all f i zero a h = refl
  tab_all f i (suc n) a h = rw (h i, tab_all f (suc i) n a h)

  set_right : (p q : List A) (i : ℕ) (a : A) → set (p ++ q) (length p + i) a ≡ p ++ set q i a
  set_right [] q i a = let e : 0 + i ≡ i = omega arith in rw e
  set_right (x ∷ p) q i a = let e : suc (length p) + i ≡ suc (length p + i) = omega arith in rw e (ap (x ∷◌) (set_right p q i a))

  sets_right : (p q : List A) (i : ℕ) (vs : List A) → sets (p ++ q) (length p + i) vs ≡ p ++ sets q i vs
  sets_right p q i [] = refl
  sets_right p q i (a ∷ vs) = let e : suc (length p + i) ≡ length p + suc i = omega arith in rw (set_right p q i a, e) (sets_right p (set q i a) (suc i) vs)

  -- the stores of straight-line code, `rows[b + 0] = ..; rows[b + 1] = ..;`: on a list that is written out it computes to them
  abbrev pub stores : List A → ℕ → ℕ → List A → List A
  stores l b j [] = l
  stores l b j (a ∷ vs) = stores (set l (b + j) a) b (suc j) vs

  stored_from : (l : List A) (b j : ℕ) (vs : List A) → stores l b j vs ≡ sets l (b + j) vs
  stored_from l b j [] = refl
  stored_from l b j (a ∷ vs) = let e : b + suc j ≡ suc (b + j) = omega arith in stored_from (set l (b + j) a) b (suc j) vs ∙ rw e

  pub stored : (l : List A) (b : ℕ) (vs : List A) → stores l b 0 vs ≡ sets l b vs
  stored l b vs = let e : b + 0 ≡ b = omega arith in stored_from l b 0 vs ∙ rw e

  pub map_set : {B : Type 0} (f : A → B) (l : List A) (i : ℕ) (a : A) → map f (set l i a) ≡ set (map f l) i (f a)
  map_set f [] i a = refl
  map_set f (x ∷ l) zero a = refl
  map_set f (x ∷ l) (suc i) a = ap (f x ∷◌) (map_set f l i a)

-- ---- rows

abbrev pub row_at : ℕ → List ℕ → ℕ → List ℕ
row_at w ws k = tab (λ j. get_or ws (k * w + j) 0) 0 w

abbrev pub put_row : ℕ → List ℕ → ℕ → List ℕ → List ℕ
put_row w ws k row = sets ws (k * w) row

abbrev pub rows_of : ℕ → List ℕ → ℕ → List (List ℕ)
rows_of w ws n = tab (row_at w ws) 0 n

-- a row below another ends before it
below : (w j k : ℕ) → j < k → j * w + w ≤ k * w
below w j k h = let m = mul-le-mul_right w h in omega (arith, m, add-mul 1 j w)

module _ (w : ℕ) (ws : List ℕ) (k : ℕ) (row : List ℕ) (l : length row ≡ w) where
  -- what was put is read again
  pub put_same : k * w + w ≤ length ws → row_at w (put_row w ws k row) k ≡ row
  put_same h =
      ext_get_or 0 (row_at w (put_row w ws k row) k) row (tab_length _ 0 w ∙ sym l)
      λ j b. one j (subst⁻¹ (λ (m : ℕ). j < m) (sym (tab_length (λ i. get_or (put_row w ws k row) (k * w + i) 0) 0 w)) b)
    where
      one : (j : ℕ) → j < w → get_or (row_at w (put_row w ws k row) k) j 0 ≡ get_or row j 0
      one j b = tab_at (λ i. get_or (put_row w ws k row) (k * w + i) 0) w j 0 b ∙ sets_in ws (k * w) row j 0 (omega arith) (omega arith)

  -- the others are as they were
  pub put_other : (j : ℕ) → (j ≡ k → ⊥) → row_at w (put_row w ws k row) j ≡ row_at w ws j
  put_other j e =
      ext_get_or 0 (row_at w (put_row w ws k row) j) (row_at w ws j) (tab_length _ 0 w ∙ sym (tab_length _ 0 w))
      λ i b. one i (subst⁻¹ (λ (m : ℕ). i < m) (sym (tab_length (λ i. get_or (put_row w ws k row) (j * w + i) 0) 0 w)) b)
    where
      word : (i : ℕ) → i < w → get_or (put_row w ws k row) (j * w + i) 0 ≡ get_or ws (j * w + i) 0
      word i b = ⊎_elim (λ (h : j < k). sets_low ws (k * w) row (j * w + i) 0 (omega (arith, below w j k h)))
          (λ (h : k < j). sets_high ws (k * w) row (j * w + i) 0 (omega (arith, below w k j h))) (apart j k e)

      one : (i : ℕ) → i < w → get_or (row_at w (put_row w ws k row) j) i 0 ≡ get_or (row_at w ws j) i 0
      one i b = tab_at (λ i. get_or (put_row w ws k row) (j * w + i) 0) w i 0 b ∙ (word i b ∙ sym (tab_at (λ i. get_or ws (j * w + i) 0) w i 0 b))

  -- all rows, one put
  pub put_rows : (n : ℕ) → n * w ≤ length ws → rows_of w (put_row w ws k row) n ≡ set (rows_of w ws n) k row
  put_rows n h =
      tab_set (row_at w ws) (row_at w (put_row w ws k row)) n k row (λ b. put_same (omega (arith, below w k n b))) (λ j b e. put_other j e)

-- the rows as any other kind of thing
module _ {A : Type 0} (f : List ℕ → A) (w : ℕ) where
  abbrev pub view_of : List ℕ → ℕ → List A
  view_of ws n = map f (rows_of w ws n)

  pub view_length : (ws : List ℕ) (n : ℕ) → length (view_of ws n) ≡ n
  view_length ws n = length-map (rows_of w ws n) f ∙ tab_length (row_at w ws) 0 n

  pub view_get : (ws : List ℕ) (n k : ℕ) (d : A) → k < n → get_or (view_of ws n) k d ≡ f (row_at w ws k)
  view_get ws n k d h = get_or_in (rows_of w ws n) k (subst⁻¹ (λ (m : ℕ). k < m) (tab_length (row_at w ws) 0 n) h) ∙ ap f (tab_at (row_at w ws) n k [] h)
    where
      get_or_in : (l : List (List ℕ)) (i : ℕ) → i < length l → get_or (map f l) i d ≡ f (get_or l i [])
      get_or_in [] i h = absurd (omega arith)
      get_or_in (x ∷ l) zero h = refl
      get_or_in (x ∷ l) (suc i) h = get_or_in l i (omega arith)

  pub view_past : (ws : List ℕ) (n k : ℕ) (d : A) → n ≤ k → get_or (view_of ws n) k d ≡ d
  view_past ws n k d h = get_or-eq_default (view_of ws n) d (rw view_length h)

  pub view_put : (ws : List ℕ) (n k : ℕ) (row : List ℕ) (a : A) → length row ≡ w → n * w ≤ length ws → f row ≡ a
      → view_of (put_row w ws k row) n ≡ set (view_of ws n) k a
  view_put ws n k row a l h e = ap (map f) (put_rows w ws k row l n h) ∙ (map_set f (rows_of w ws n) k row ∙ ap (set (view_of ws n) k) e)

-- things written as rows, one behind the other
module _ {A : Type 0} (g : A → List ℕ) (w : ℕ) (long : (a : A) → length (g a) ≡ w) where
  unfoldable pub flat : List A → List ℕ
  flat [] = []
  flat (a ∷ l) = g a ++ flat l

  pub flat_length : (l : List A) → length (flat l) ≡ length l * w
  unfolding flat
  flat_length [] = let e : 0 * w ≡ 0 = omega arith in sym e
  flat_length (a ∷ l) = rw (length-append, flat_length l, long a) (omega (arith, add-mul 1 (length l) w))

  pub flat_set : (l : List A) (k : ℕ) (a : A) → k < length l → flat (set l k a) ≡ put_row w (flat l) k (g a)
  unfolding flat
  flat_set [] k a h = absurd (omega arith)
  flat_set (x ∷ l) zero a h =
      let e : 0 * w ≡ 0 = omega arith in
      let f : 0 + length (g a) ≡ length (g x) = omega (arith, long a, long x) in
      rw e (sym (sets-eq (g a) (g x ++ flat l) 0 (rw length-append (omega (arith, long a, long x))) ∙ rw (f, drop-append_seam (g x) (flat l))))
  flat_set (x ∷ l) (suc k) a h =
      let e : suc k * w ≡ length (g x) + k * w = omega (arith, add-mul 1 k w, long x) in
      rw (e, sets_right (g x) (flat l) (k * w) (g a)) (ap (g x ++◌) (flat_set l k a (omega arith)))

  -- the words of one of them
  flat_get : (l : List A) (k j : ℕ) (d : A) → k < length l → j < w → get_or (flat l) (k * w + j) 0 ≡ get_or (g (get_or l k d)) j 0
  unfolding flat
  flat_get [] k j d h b = absurd (omega arith)
  flat_get (x ∷ l) zero j d h b = let e : 0 * w + j ≡ j = omega arith in rw e (get_or-append (g x) (flat l) 0 j (omega (arith, long x)))
  flat_get (x ∷ l) (suc k) j d h b =
      let e : suc k * w + j ≡ length (g x) + (k * w + j) = omega (arith, add-mul 1 k w, long x) in
      rw e (get_or-append-add (g x) (flat l) (k * w + j) 0 ∙ flat_get l k j d (omega arith) b)

  pub flat_row : (l : List A) (k : ℕ) (d : A) → k < length l → row_at w (flat l) k ≡ g (get_or l k d)
  flat_row l k d h =
      ext_get_or 0 (row_at w (flat l) k) (g (get_or l k d)) (tab_length _ 0 w ∙ sym (long (get_or l k d)))
      λ j b. one j (subst⁻¹ (λ (m : ℕ). j < m) (sym (tab_length (λ i. get_or (flat l) (k * w + i) 0) 0 w)) b)
    where
      one : (j : ℕ) → j < w → get_or (row_at w (flat l) k) j 0 ≡ get_or (g (get_or l k d)) j 0
      one j b = tab_at (λ i. get_or (flat l) (k * w + i) 0) w j 0 b ∙ flat_get l k j d h b
