-- The rows in use, saved and put back, are the rows as given: each part lies at its array's front, and blanks behind it are zeros. Assumes nothing.
use mathlib.Core.Path.{◌≡◌, refl, ap, ◌∙◌, sym}
use mathlib.Core.List.{List, [], ◌∷◌, ◌++◌, append_assoc}
use Prim.Native.Nat.{ℕ, zero, suc, ◌+◌, ◌*◌, ◌≤◌}
use native.Mathlib.Omega.{arith}
use native.Mathlib.Nat.{le_trans, add-mul, mul-le-mul_right}
use lib.ListN.{length, take, drop, replicate, replicate-append-replicate, length-drop}
use lib.Seq.{paste, length-paste, take-paste, take_at, drop_at, take-take, take-add, drop-drop, length-take-le}
use Rattle.lists.specs.Rows.{flat, flat_length, tab}
use Rattle.lists.specs.Held as H
use Rattle.table_rows.specs.Bytes.{Image}
use Rattle.store_words.specs.Entries.{room_for_entries, blank_value, blank_bucket}
use Rattle.store_words.specs.Words.{value_words, bucket_words, decode_value, encode_value, long_value, decode_bucket, encode_bucket, long_bucket}
use Rattle.machine.specs.State.{State}
use Rattle.state_events.specs.Slots as slot
use Rattle.state_events.specs.Slots.{room_for_events, slot_words}
use Rattle.state_scopes.specs.Scopes as scope
use Rattle.state_scopes.specs.Scopes.{most_scopes, scope_words}
use Rattle.state_room.specs.declared.Ledger.{Ledger}
use Rattle.state_room.specs.Padded.{padded, padded_none, padded_take}
use Rattle.state_room.specs.PartRows.{spare_room}
use Rattle.state_room.specs.Holds.{Rows, Holds, Held, most_scopes_lem}
use Rattle.call_transition.specs.Saving.{Few, Fit, fronts_of, saved_in}
use Rattle.call_transition.specs.declared.Fronts.{Fronts}

-- ---- parts one behind the other

-- one more
pub saved_next : (s : List ℕ) (a : ℕ) (from : List ℕ) (n : ℕ) {front next : List ℕ} → a + n ≤ length s → n ≤ length from → take a s ≡ front → next ≡ paste s a from n →
    take (a + n) next ≡ front ++ take n from
saved_next s a from n r l e q = ap (take (a + n)) q ∙ take-paste s a from n (omega (arith, r)) l ∙ ap (λ p. p ++ take n from) e

-- the first of them, and those behind it
module _ (l f g : List ℕ) (n m : ℕ) (e : take (n + m) l ≡ f ++ g) (k : length f ≡ n) where
  first_of : take n l ≡ f
  first_of = sym (take-take n (n + m) l (omega arith)) ∙ ap (take n) e ∙ take_at f g n k

  rest_of : take m (drop n l) ≡ g
  rest_of = sym (drop_at (take n l) (take m (drop n l)) n (ap length first_of ∙ k)) ∙ ap (drop n) (sym (take-add n m l) ∙ e) ∙ drop_at f g n k

-- ---- a part with blanks behind it

padded_append : (p q : List ℕ) (m : ℕ) → padded 0 (length p + m) (p ++ q) ≡ p ++ padded 0 m q
unfolding padded
padded_append [] q m = let e : 0 + m ≡ m = omega arith in rw e
padded_append (x ∷ p) q m = let e : suc (length p) + m ≡ suc (length p + m) = omega arith in rw e (ap (x ∷◌) (padded_append p q m))

module _ {A : Type 0} (decode : List ℕ → A) (encode : A → List ℕ) (w n : ℕ) (long : (a : A) → length (encode a) ≡ w) (blank : A) (zeros : encode blank ≡ replicate w 0) where
  flat_padded : (m : ℕ) (l : List A) → flat encode w long (padded blank m l) ≡ padded 0 (m * w) (flat encode w long l)
  unfolding flat padded
  flat_padded zero l = let e : 0 * w ≡ 0 = omega arith in rw e
  flat_padded (suc m) [] =
      let e : suc m * w ≡ w + m * w = omega (arith, add-mul 1 m w) in
      rw (zeros, flat_padded m [], e, padded_none {A = ℕ} 0 (m * w), padded_none {A = ℕ} 0 (w + m * w)) (replicate-append-replicate w (m * w) 0)
  flat_padded (suc m) (x ∷ l) =
      let e : suc m * w ≡ length (encode x) + m * w = omega (arith, add-mul 1 m w, long x) in
      rw (flat_padded m l, e) (sym (padded_append (encode x) (flat encode w long l) (m * w)))

  -- its words, and zeros behind them, are the array
  given_back : (ws : List ℕ) (l : List A) (k : ℕ) → H.Held decode encode w n long ws (padded blank n l) → length l ≡ k → k ≤ n → padded 0 (n * w) (take (k * w) ws) ≡ ws
  given_back ws l k h e f =
      let words = flat encode w long l in
      let q : ws ≡ padded 0 (n * w) words = H.held_words decode encode w n long ws (padded blank n l) h ∙ flat_padded n l in
      let m : length words ≡ k * w = flat_length encode w long l ∙ ap (λ i. i * w) e in
      let r : k * w ≤ n * w = mul-le-mul_right w f in
      ap (λ x. padded 0 (n * w) (take (k * w) x)) q ∙
      ap (λ i. padded 0 (n * w) (take i (padded 0 (n * w) words))) (sym m) ∙
      ap (padded 0 (n * w)) (padded_take 0 (n * w) words (omega (arith, m, r))) ∙
      sym q

-- ---- the rows

module _ (img : Image) (r : Rows) (k : Held img r) where
  abbrev s : State
  s = k.state

  abbrev h : Holds img s r
  h = k.holds

  abbrev f : Fronts
  f = fronts_of img r.ledger

  pub rows_few : Few img r.ledger
  rows_few =
      record {
        scopes = most_scopes_lem img h.table;
        waiting = rw h.queued.waiting h.few;
        values = rw h.stored.some_values (le_trans h.fits.values h.fits.room);
        buckets = rw h.stored.some_buckets (le_trans h.fits.buckets h.fits.room);
      }

  pub scopes_long : length r.scopes ≡ most_scopes * scope_words
  scopes_long = H.whole_long scope.decode scope.encode scope_words most_scopes scope.encode_long r.scopes h.scoped.whole

  pub events_long : length r.events ≡ room_for_events * slot_words
  events_long = H.whole_long slot.decode slot.encode slot_words room_for_events slot.encode_long r.events h.queued.held.whole

  pub values_long : length r.values ≡ room_for_entries * value_words
  values_long = H.whole_long decode_value encode_value value_words room_for_entries long_value r.values h.stored.values.whole

  pub buckets_long : length r.buckets ≡ room_for_entries * bucket_words
  buckets_long = H.whole_long decode_bucket encode_bucket bucket_words room_for_entries long_bucket r.buckets h.stored.buckets.whole

  scopes_back : padded 0 (most_scopes * scope_words) (take f.scopes r.scopes) ≡ r.scopes
  unfolding scope.encode scope.marks_word
  scopes_back = given_back scope.decode scope.encode scope_words most_scopes scope.encode_long scope.blank refl r.scopes s.scopes _ h.scoped h.scopes_long rows_few.scopes

  events_back : padded 0 (room_for_events * slot_words) (take f.events r.events) ≡ r.events
  unfolding slot.encode slot.head_word slot.steps_word tab
  events_back =
      given_back slot.decode slot.encode slot_words room_for_events slot.encode_long slot.blank refl r.events s.waiting _ h.queued.held (sym h.queued.waiting) rows_few.waiting

  values_back : padded 0 (room_for_entries * value_words) (take f.values r.values) ≡ r.values
  unfolding encode_value
  values_back =
      given_back decode_value encode_value value_words room_for_entries long_value blank_value refl r.values s.store.values _ h.stored.values (sym h.stored.some_values) rows_few.values

  buckets_back : padded 0 (room_for_entries * bucket_words) (take f.buckets r.buckets) ≡ r.buckets
  unfolding encode_bucket
  buckets_back =
      given_back decode_bucket encode_bucket bucket_words room_for_entries long_bucket blank_bucket refl r.buckets s.store.buckets _ h.stored.buckets (sym h.stored.some_buckets)
      rows_few.buckets

  -- what holds their fronts holds the rows
  fronts_saved : (g : Fronts) → g ≡ f → Fit g → (ws : List ℕ) →
      take (g.scopes + g.events + g.values + g.buckets) ws ≡ take g.scopes r.scopes ++ take g.events r.events ++ take g.values r.values ++ take g.buckets r.buckets →
      saved_in f r.ledger ws ≡ r
  unfolding saved_in
  fronts_saved g i fit ws e =
      let a = g.scopes in
      let b = g.events in
      let c = g.values in
      let d = g.buckets in
      let xs = take a r.scopes in
      let es = take b r.events in
      let vs = take c r.values in
      let bs = take d r.buckets in
      let lx : length xs ≡ a = length-take-le a r.scopes (omega (arith, fit.scopes, scopes_long)) in
      let le : length es ≡ b = length-take-le b r.events (omega (arith, fit.events, events_long)) in
      let lv : length vs ≡ c = length-take-le c r.values (omega (arith, fit.values, values_long)) in
      let q : a + (b + (c + d)) ≡ a + b + c + d = omega arith in
      let e₁ : take (a + (b + (c + d))) ws ≡ xs ++ (es ++ (vs ++ bs)) = ap (λ n. take n ws) q ∙ e ∙ append_assoc (xs ++ es) vs bs ∙ append_assoc xs es (vs ++ bs) in
      let e₂ = rest_of ws xs (es ++ (vs ++ bs)) a (b + (c + d)) e₁ lx in
      let e₃ = rest_of (drop a ws) es (vs ++ bs) b (c + d) e₂ le in
      let e₄ = rest_of (drop b (drop a ws)) vs bs c d e₃ lv in
      let x : take a ws ≡ xs = first_of ws xs (es ++ (vs ++ bs)) a (b + (c + d)) e₁ lx in
      let y : take b (drop a ws) ≡ es = first_of (drop a ws) es (vs ++ bs) b (c + d) e₂ le in
      let z : take c (drop (a + b) ws) ≡ vs = ap (take c) (sym (drop-drop b a ws)) ∙ first_of (drop b (drop a ws)) vs bs c d e₃ lv in
      let u : take d (drop (a + b + c) ws) ≡ bs = ap (take d) (sym (drop-drop c (a + b) ws) ∙ ap (drop c) (sym (drop-drop b a ws))) ∙ e₄ in
      ap (λ p. saved_in p r.ledger ws) (sym i) ∙ rw (x, y, z, u, i, scopes_back, events_back, values_back, buckets_back)

  -- and the four copies hold their fronts
  pub saved_is : (g : Fronts) → g ≡ f → Fit g → (s₀ : List ℕ) {s₁ s₂ s₃ s₄ : List ℕ} → spare_room ≤ length s₀ → s₁ ≡ paste s₀ 0 r.scopes g.scopes →
      s₂ ≡ paste s₁ g.scopes r.events g.events → s₃ ≡ paste s₂ (g.scopes + g.events) r.values g.values →
      s₄ ≡ paste s₃ (g.scopes + g.events + g.values) r.buckets g.buckets → saved_in f r.ledger s₄ ≡ r
  saved_is g i fit s₀ {s₁} {s₂} {s₃} {s₄} room p q u v =
      let a = g.scopes in
      let b = g.events in
      let c = g.values in
      let d = g.buckets in
      let kx : a ≤ length r.scopes = omega (arith, fit.scopes, scopes_long) in
      let ke : b ≤ length r.events = omega (arith, fit.events, events_long) in
      let kv : c ≤ length r.values = omega (arith, fit.values, values_long) in
      let kb : d ≤ length r.buckets = omega (arith, fit.buckets, buckets_long) in
      let all : a + b + c + d ≤ length s₀ = omega (arith, fit.scopes, fit.events, fit.values, fit.buckets, room) in
      let l₁ : length s₁ ≡ length s₀ = ap length p ∙ length-paste s₀ 0 r.scopes a (omega (arith, all)) kx in
      let l₂ : length s₂ ≡ length s₀ = ap length q ∙ length-paste s₁ a r.events b (omega (arith, all, l₁)) ke ∙ l₁ in
      let l₃ : length s₃ ≡ length s₀ = ap length u ∙ length-paste s₂ (a + b) r.values c (omega (arith, all, l₂)) kv ∙ l₂ in
      let z : a ≡ 0 + a = omega arith in
      let e₁ : take a s₁ ≡ take a r.scopes = ap (λ n. take n s₁) z ∙ saved_next s₀ 0 r.scopes a (omega (arith, all)) kx refl p in
      let e₂ = saved_next s₁ a r.events b (omega (arith, all, l₁)) ke e₁ q in
      let e₃ = saved_next s₂ (a + b) r.values c (omega (arith, all, l₂)) kv e₂ u in
      fronts_saved g i fit s₄ (saved_next s₃ (a + b + c) r.buckets d (omega (arith, all, l₃)) kb e₃ v)

-- ---- and back

zeros_behind : (p : List ℕ) (n : ℕ) → length p ≤ n → p ++ drop (length p) (replicate n 0) ≡ padded 0 n p
unfolding padded
zeros_behind [] n h = sym (padded_none 0 n)
zeros_behind (x ∷ p) zero h = absurd (omega arith)
zeros_behind (x ∷ p) (suc n) h = ap (x ∷◌) (zeros_behind p n (omega arith))

front_back : (n : ℕ) (l : List ℕ) (a k : ℕ) {out : List ℕ} → a + k ≤ length l → k ≤ n → out ≡ paste (replicate n 0) 0 (drop a l) k → out ≡ padded 0 n (take k (drop a l))
front_back n l a k r h e =
    let m : length (take k (drop a l)) ≡ k = length-take-le k (drop a l) (omega (arith, r, length-drop a l)) in
    let q : 0 + k ≡ length (take k (drop a l)) = omega (arith, m) in
    e ∙ ap (λ i. take k (drop a l) ++ drop i (replicate n 0)) q ∙ zeros_behind (take k (drop a l)) n (omega (arith, m, h))

pub all_back : (f g : Fronts) → g ≡ f → Fit g → (l : Ledger) (ws : List ℕ) {xs es vs bs : List ℕ} → spare_room ≤ length ws →
    xs ≡ paste (replicate (most_scopes * scope_words) 0) 0 ws g.scopes →
    es ≡ paste (replicate (room_for_events * slot_words) 0) 0 (drop g.scopes ws) g.events →
    vs ≡ paste (replicate (room_for_entries * value_words) 0) 0 (drop (g.scopes + g.events) ws) g.values →
    bs ≡ paste (replicate (room_for_entries * bucket_words) 0) 0 (drop (g.scopes + g.events + g.values) ws) g.buckets →
    record { scopes = xs; events = es; values = vs; buckets = bs; ledger = l } ≡ saved_in f l ws
unfolding saved_in
all_back f g i fit l ws room x e v b =
    let a = g.scopes + g.events in
    let all : a + g.values + g.buckets ≤ length ws = omega (arith, fit.scopes, fit.events, fit.values, fit.buckets, room) in
    rw (
      front_back (most_scopes * scope_words) ws 0 g.scopes (omega (arith, all)) fit.scopes x,
      front_back (room_for_events * slot_words) ws g.scopes g.events (omega (arith, all)) fit.events e,
      front_back (room_for_entries * value_words) ws a g.values (omega (arith, all)) fit.values v,
      front_back (room_for_entries * bucket_words) ws (a + g.values) g.buckets (omega (arith, all)) fit.buckets b,
    )
    (ap (λ p. saved_in p l ws) i)
