-- The numbers of a table are what is read back from the image of their counts and rows: every count, and every field of every row of every kind.
-- Assumes nothing.
use mathlib.Core.Path.{◌≡◌, refl, sym, ap, ◌∙◌}
use mathlib.Core.Logic.{◌⊎◌, inl, inr}
use mathlib.Core.List.{List, [], ◌++◌, append-nil}
use Prim.Native.Nat.{ℕ, zero, suc, ◌+◌, ◌*◌, ◌^◌, ◌≤◌, ◌<◌}
use native.Mathlib.Nat.{mul-le-mul_right, zero-mul, le_of_eq}
use native.Mathlib.Omega.{arith}
use lib.ListN.{length, length-append}
use Rattle.lists.specs.Tests.{below?}
use Rattle.table_rows.specs.Bytes.{Image, be, be_bytes}
use Rattle.table_rows.specs.Kinds.{kinds, kind_of, kind_count, head_bytes, count, place}
use Rattle.table_rows.specs.Rows.{row_place}
use Rattle.table_rows.specs.Fields.{field_table, fields_of, width_of, offset_of, field_of}
use Rattle.byte_writer.proofs.NumberLaws.{number_length, number_read, read_behind, read_among}
use Rattle.table_writer.specs.Writer.{image_of, count_bytes}
use Rattle.table_writer.specs.Numbers.{number_at, row_number, counts_in, all_counts, row_bytes, kind_rows, count_in, rows_before, rows_in, all_rows}
use Rattle.table_writer.proofs.RoundTrip.{count_back, field_back}

-- a place behind the first bytes, and one among them
module _ (a b : List ℕ) (w p : ℕ) where
  behind : (q : ℕ) → p ≡ length a + q → be w (a ++ b) p ≡ be w b q
  behind q e = ap (be w (a ++ b)) e ∙ read_behind a b w q

-- a number's own bytes
own : (w n : ℕ) → n < 256 ^ w → be w (be_bytes w n) 0 ≡ n
own w n h = ap (λ l. be w l 0) (sym (append-nil (be_bytes w n))) ∙ number_read w n [] h

-- the last, or one before
last? : (k m : ℕ) → k < suc m → (k < m) ⊎ (k ≡ m)
last? k m h = go (below? k m)
  where
    go : (k < m) ⊎ (m ≤ k) → (k < m) ⊎ (k ≡ m)
    go (inl l) = inl l
    go (inr l) = inr (omega arith)

-- ---- counts

module _ (ns : List ℕ) where
  counts_length : (m : ℕ) → length (counts_in ns m) ≡ 2 * m
  unfolding counts_in
  counts_length zero = refl
  counts_length (suc m) = rw (length-append, counts_length m, number_length 2 (number_at ns m)) (omega arith)

  count_at : (m k : ℕ) → k < m → number_at ns k < 256 ^ 2 → be 2 (counts_in ns m) (2 * k) ≡ number_at ns k
  unfolding counts_in
  count_at zero k l h = absurd (omega arith)
  count_at (suc m) k l h = go (last? k m l) λ g. count_at m k g h
    where
      go : (k < m) ⊎ (k ≡ m) → (k < m → be 2 (counts_in ns m) (2 * k) ≡ number_at ns k) → be 2 (counts_in ns m ++ be_bytes 2 (number_at ns m)) (2 * k) ≡ number_at ns k
      go (inl g) r = read_among (counts_in ns m) (be_bytes 2 (number_at ns m)) 2 (2 * k) (let z = counts_length m in omega (arith, z, g)) ∙ r g
      go (inr g) r =
          behind (counts_in ns m) (be_bytes 2 (number_at ns m)) 2 (2 * k) 0 (let z = counts_length m in omega (arith, z, g)) ∙
          (ap (λ x. be 2 (be_bytes 2 (number_at ns x)) 0) (sym g) ∙ own 2 (number_at ns k) h)

-- ---- a row

-- the fields fill it
pub fields_fill : (k : ℕ) → (fields_of k).first + ((fields_of k).second + (fields_of k).third) ≡ (kind_of k).width
unfolding fields_of field_table kind_of kinds
fields_fill zero = refl
fields_fill (suc zero) = refl
fields_fill (suc (suc zero)) = refl
fields_fill (suc (suc (suc zero))) = refl
fields_fill (suc (suc (suc (suc zero)))) = refl
fields_fill (suc (suc (suc (suc (suc zero))))) = refl
fields_fill (suc (suc (suc (suc (suc (suc zero)))))) = refl
fields_fill (suc (suc (suc (suc (suc (suc (suc zero))))))) = refl
fields_fill (suc (suc (suc (suc (suc (suc (suc (suc zero)))))))) = refl
fields_fill (suc (suc (suc (suc (suc (suc (suc (suc (suc k))))))))) = refl

module _ (k : ℕ) (ns : List ℕ) where
  abbrev width : ℕ
  width = (kind_of k).width

  row_length : (j : ℕ) → length (row_bytes k ns j) ≡ width
  unfolding row_bytes
  row_length j =
      let n = row_number ns j in
      rw (length-append, length-append, number_length (fields_of k).first (n 0), number_length (fields_of k).second (n 1), number_length (fields_of k).third (n 2)) (fields_fill k)

  -- field f of it
  field_at : (j f : ℕ) → f < 3 → row_number ns j f < 256 ^ width_of (fields_of k) f → be (width_of (fields_of k) f) (row_bytes k ns j) (offset_of (fields_of k) f) ≡ row_number ns j f
  unfolding row_bytes
  field_at j zero l h = number_read (fields_of k).first (row_number ns j 0) _ h
  field_at j (suc zero) l h =
      behind (be_bytes (fields_of k).first (row_number ns j 0)) _ (fields_of k).second (fields_of k).first 0
      (let z = number_length (fields_of k).first (row_number ns j 0) in omega (arith, z)) ∙ number_read (fields_of k).second (row_number ns j 1) _ h
  field_at j (suc (suc zero)) l h =
      behind (be_bytes (fields_of k).first (row_number ns j 0)) _ (fields_of k).third ((fields_of k).first + (fields_of k).second) (fields_of k).second
      (let z = number_length (fields_of k).first (row_number ns j 0) in omega (arith, z)) ∙
      (behind (be_bytes (fields_of k).second (row_number ns j 1)) _ (fields_of k).third (fields_of k).second 0
      (let z = number_length (fields_of k).second (row_number ns j 1) in omega (arith, z)) ∙ own (fields_of k).third (row_number ns j 2) h)
  field_at j (suc (suc (suc f))) l h = absurd (omega arith)

  -- ---- the rows of a kind

  kind_length : (j n : ℕ) → length (kind_rows k ns j n) ≡ n * width
  unfolding kind_rows
  kind_length j zero = sym (zero-mul width)
  kind_length j (suc n) = rw (length-append, kind_length j n, row_length (j + n)) (omega arith)

  row_at : (w o : ℕ) → o + w ≤ width → (j n i : ℕ) → i < n → be w (kind_rows k ns j n) (i * width + o) ≡ be w (row_bytes k ns (j + i)) o
  unfolding kind_rows
  row_at w o f j zero i l = absurd (omega arith)
  row_at w o f j (suc n) i l = go (last? i n l) λ g. row_at w o f j n i g
    where
      go : (i < n) ⊎ (i ≡ n) → (i < n → be w (kind_rows k ns j n) (i * width + o) ≡ be w (row_bytes k ns (j + i)) o) →
          be w (kind_rows k ns j n ++ row_bytes k ns (j + n)) (i * width + o) ≡ be w (row_bytes k ns (j + i)) o
      go (inl g) r =
          read_among (kind_rows k ns j n) (row_bytes k ns (j + n)) w (i * width + o)
          (let z = kind_length j n in let y : suc i * width ≤ n * width = mul-le-mul_right width g in omega (arith, z, y, f)) ∙ r g
      go (inr g) r =
          let e : i * width + o ≡ length (kind_rows k ns j n) + o = ap (λ x. x * width + o) g ∙ ap (λ x. x + o) (sym (kind_length j n)) in
          behind (kind_rows k ns j n) (row_bytes k ns (j + n)) w (i * width + o) o e ∙ ap (λ x. be w (row_bytes k ns (j + x)) o) (sym g)

-- ---- the rows of all kinds

module _ (counts ns : List ℕ) where
  abbrev rows_of_kind : ℕ → List ℕ
  rows_of_kind k = kind_rows k ns (rows_before counts k) (count_in counts k)

  abbrev up_to : ℕ → ℕ
  up_to k = length (rows_in counts ns k)

  up_next : (k : ℕ) → up_to (suc k) ≡ up_to k + count_in counts k * (kind_of k).width
  unfolding rows_in
  up_next k = length-append (rows_in counts ns k) (rows_of_kind k) ∙ ap (λ x. up_to k + x) (kind_length k ns (rows_before counts k) (count_in counts k))

  up_more : (k m : ℕ) → k < m → up_to (suc k) ≤ up_to m
  up_more k zero l = absurd (omega arith)
  up_more k (suc m) l = go (last? k m l) λ g. up_more k m g
    where
      go : (k < m) ⊎ (k ≡ m) → (k < m → up_to (suc k) ≤ up_to m) → up_to (suc k) ≤ up_to (suc m)
      go (inl g) r = let z = up_next m in omega (arith, z, r g)
      go (inr g) r = le_of_eq (ap (λ x. up_to (suc x)) g)

  kind_at : (w q k m : ℕ) → k < m → q + w ≤ count_in counts k * (kind_of k).width → be w (rows_in counts ns m) (up_to k + q) ≡ be w (rows_of_kind k) q
  unfolding rows_in
  kind_at w q k zero l h = absurd (omega arith)
  kind_at w q k (suc m) l h = go (last? k m l) λ g. kind_at w q k m g h
    where
      go : (k < m) ⊎ (k ≡ m) → (k < m → be w (rows_in counts ns m) (up_to k + q) ≡ be w (rows_of_kind k) q) →
          be w (rows_in counts ns m ++ rows_of_kind m) (up_to k + q) ≡ be w (rows_of_kind k) q
      go (inl g) r =
          read_among (rows_in counts ns m) (rows_of_kind m) w (up_to k + q) (let z = up_more k m g in let y = up_next k in omega (arith, z, y, h)) ∙ r g
      go (inr g) r = behind (rows_in counts ns m) (rows_of_kind m) w (up_to k + q) q (ap (λ x. up_to x + q) g) ∙ ap (λ x. be w (rows_of_kind x) q) (sym g)

-- ---- the image of the numbers

module _ (ns : List ℕ) where
  abbrev pub counts : List ℕ
  counts = all_counts ns

  abbrev pub image_in : Image
  image_in = image_of counts (all_rows counts ns)

  nine : length counts ≡ count_bytes
  nine = counts_length ns kind_count

  counted : (k : ℕ) → k < kind_count → count image_in k ≡ count_in counts k
  unfolding count_in
  counted k l = count_back counts (all_rows counts ns) nine k l

  -- "the same counts"
  pub count_kept : (k : ℕ) → k < kind_count → number_at ns k < 256 ^ 2 → count image_in k ≡ number_at ns k
  count_kept k l h = count_back counts (all_rows counts ns) nine k l ∙ count_at ns kind_count k l h

  places : (k : ℕ) → k ≤ kind_count → place image_in k ≡ head_bytes + up_to counts ns k
  unfolding place rows_in
  places zero l = refl
  places (suc k) l =
      ap (λ p. p + count image_in k * (kind_of k).width) (places k (omega arith)) ∙
      (ap (λ n. head_bytes + up_to counts ns k + n * (kind_of k).width) (counted k (omega arith)) ∙ (let z = up_next counts ns k in omega (arith, z)))

  -- "and rows": field f of row i of the kind k is the number that was given for it
  pub field_kept : (k i f : ℕ) → k < kind_count → i < count image_in k → f < 3 → row_number ns (rows_before counts k + i) f < 256 ^ width_of (fields_of k) f →
      field_of image_in k i f ≡ row_number ns (rows_before counts k + i) f
  unfolding field_of row_place
  field_kept k i f l g m h =
      let w = width_of (fields_of k) f in
      let o = offset_of (fields_of k) f in
      let n = count_in counts k in
      let j = rows_before counts k in
      let inside : o + w ≤ (kind_of k).width = within f m in
      let few : i < n = rw (counted k l) at g in
      let rows_end : suc i * (kind_of k).width ≤ n * (kind_of k).width = mul-le-mul_right (kind_of k).width few in
      field_back counts (all_rows counts ns) nine w k i o (up_to counts ns k + (i * (kind_of k).width + o)) (let z = places k (omega arith) in omega (arith, z)) ∙
      (kind_at counts ns w (i * (kind_of k).width + o) k kind_count l (omega (arith, rows_end, inside)) ∙
      (row_at k ns w o inside j n i few ∙ field_at k ns (j + i) f m h))
    where
      within : (f : ℕ) → f < 3 → offset_of (fields_of k) f + width_of (fields_of k) f ≤ (kind_of k).width
      within zero m = let z = fields_fill k in omega (arith, z)
      within (suc zero) m = let z = fields_fill k in omega (arith, z)
      within (suc (suc f)) m = let z = fields_fill k in omega (arith, z)
