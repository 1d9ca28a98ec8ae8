-- What the two word functions go by, and what others may ask of slots in rows. Assumes nothing.
use Rattle.std.specs.Int.{from_bool}
use Rattle.std.proofs.Common.{append_assoc}
use mathlib.Core.Bool.{Bool, true, false}
use mathlib.Core.Path.{◌≡◌, refl, sym, ap, ◌∙◌}
use mathlib.Core.List.{List, ◌++◌, append-nil}
use Prim.Native.Nat.{ℕ, zero, suc, ◌+◌, ◌*◌, ◌/◌, ◌%◌, ◌<◌, ◌≤◌}
use native.Mathlib.Omega.{arith}
use native.Mathlib.Nat.{mod-eq_of_lt}
use borrow.Rule.Slice.PartMut.{put_mid}
use lib.ListN.{length, get_or, set, replicate, take, drop, drop_of_length-le}
use Rattle.std.proofs.lemmas.List.{length-take-le, length-drop, get_or-take, get_or-drop, drop-drop}
use lib.Seq.{sets, sets-eq, ext_get_or, get_or-append-add}
use Rattle.lists.specs.Tests.{bit_of, bit_small, bit_back}
use Rattle.lists.specs.Rows.{tab, tab_length, tab_at, row_at, put_row, stored}
use Rattle.lists.specs.Held as H
use Rattle.key_set.specs.Sets.{word_count}
use Rattle.machine.specs.State.{Event}
use Rattle.state_events.specs.Slots.{room_for_events, slot_words, blank, numbers_of, head_word, steps_word, encode, decode, encode_long, events_of, Whole, Held, IsDue}
use Rattle.state_events.specs.declared.Due.{Due}

-- what is known of an event in the code
pub record Proper (e : Event) : Type 0 where
  pub queue : e.queue < 65536
  pub microstep : e.tag.microstep < 4294967296
  pub action : e.action < 65536
  pub stored : e.stored.microstep < 4294967296
  pub reactions : length e.reactions ≡ word_count

-- a number of three flags above two halves
module _ (q a t c n : ℕ) (hq : q < 65536) (ha : a < 65536) (ht : t < 2) (hc : c < 2) (hn : n < 2) where
  packed : ℕ
  packed = q + a * 65536 + t * 4294967296 + c * 8589934592 + n * 17179869184

  packed_queue : packed % 65536 ≡ q
  unfolding packed
  packed_queue = omega arith

  packed_action : packed / 65536 % 65536 ≡ a
  unfolding packed
  packed_action = omega arith

  packed_terminal : packed / 4294967296 % 2 ≡ t
  unfolding packed
  packed_terminal = omega arith

  packed_control : packed / 8589934592 % 2 ≡ c
  unfolding packed
  packed_control = omega arith

  packed_network : packed / 17179869184 % 2 ≡ n
  unfolding packed
  packed_network = omega arith

-- words that stand behind others, read one by one
words_behind : (p ws : List ℕ) {n : ℕ} → length ws ≡ n → tab (λ j. get_or (p ++ ws) (length p + j) 0) 0 n ≡ ws
words_behind p ws {n} e = sym (ext_get_or 0 ws _ (e ∙ sym (tab_length _ 0 n)) λ j h. sym (tab_at _ n j 0 (omega (arith, e)) ∙ get_or-append-add p ws j 0))

words_back : (ws : List ℕ) {n : ℕ} → length ws ≡ n → tab (λ j. get_or ws j 0) 0 n ≡ ws
words_back ws {n} e = sym (ext_get_or 0 ws _ (e ∙ sym (tab_length _ 0 n)) λ j h. sym (tab_at _ n j 0 (omega (arith, e))))

-- what was written is read again
pub decode_encode : (e : Event) → Proper e → decode (encode e) ≡ e
unfolding decode encode head_word steps_word packed
decode_encode e p =
    let t = bit_of e.terminal in
    let c = bit_of e.control in
    let n = bit_of e.network in
    let ht : t < 2 = bit_small e.terminal in
    let hc : c < 2 = bit_small e.control in
    let hn : n < 2 = bit_small e.network in
    let low : steps_word e % 4294967296 ≡ e.tag.microstep = omega (arith, p.microstep) in
    let over : steps_word e / 4294967296 ≡ e.stored.microstep = omega (arith, p.microstep) in
    let high : steps_word e / 4294967296 % 4294967296 ≡ e.stored.microstep = rw over (mod-eq_of_lt p.stored) in
    rw (
      packed_queue e.queue e.action t c n p.queue p.action ht hc hn,
      packed_action e.queue e.action t c n p.queue p.action ht hc hn,
      bit_back e.terminal (packed_terminal e.queue e.action t c n p.queue p.action ht hc hn),
      bit_back e.control (packed_control e.queue e.action t c n p.queue p.action ht hc hn),
      bit_back e.network (packed_network e.queue e.action t c n p.queue p.action ht hc hn),
      low,
      high,
      words_back e.reactions p.reactions,
      words_behind (numbers_of e) e.reactions p.reactions,
    )

-- ---- words put one by one

-- j of n words were put, from place i on
pub record Put (l : List ℕ) (i n : ℕ) (f : ℕ → ℕ) (j : ℕ) (out : List ℕ) : Type 0 where
  pub few : j ≤ n
  pub is : out ≡ sets l i (tab f 0 j)

one_more : (l : List ℕ) (i : ℕ) (f : ℕ → ℕ) (s j : ℕ) → set (sets l i (tab f s j)) (i + j) (f (s + j)) ≡ sets l i (tab f s (suc j))
unfolding tab
one_more l i f s zero = let a : i + 0 ≡ i = omega arith in let b : s + 0 ≡ s = omega arith in rw (a, b)
one_more l i f s (suc j) =
    let a : i + suc j ≡ suc i + j = omega arith in
    let b : s + suc j ≡ suc s + j = omega arith in
    rw (a, b) (one_more (set l i (f s)) (suc i) f (suc s) j)

module _ (l : List ℕ) (i n : ℕ) (f : ℕ → ℕ) where
  pub put_none : Put l i n f 0 l
  unfolding tab
  put_none = record { few = omega arith; is = refl }

  pub put_more : {j at v : ℕ} {out : List ℕ} → Put l i n f j out → j < n → at ≡ i + j → v ≡ f j → Put l i n f (j + 1) (set out at v)
  put_more {j} h b e q =
      let a : j + 1 ≡ suc j = omega arith in
      let z : 0 + j ≡ j = omega arith in
      record { few = omega arith; is = rw (h.is, e, q, a) (rw z at (one_more l i f 0 j)) }

  put_all : {j : ℕ} {out : List ℕ} → Put l i n f j out → n ≤ j → out ≡ sets l i (tab f 0 n)
  put_all {j} h b = let e : j ≡ n = omega (arith, h.few) in rw (← e) h.is

-- those of a list
pub put_list : (l : List ℕ) (i n : ℕ) (ws : List ℕ) {j : ℕ} {out : List ℕ} → Put l i n (λ k. get_or ws k 0) j out → n ≤ j → length ws ≡ n → out ≡ sets l i ws
put_list l i n ws h b e = put_all l i n _ h b ∙ ap (sets l i) (words_back ws e)

-- up to the end
sets_last : (l : List ℕ) (i : ℕ) (vs : List ℕ) → i + length vs ≡ length l → sets l i vs ≡ take i l ++ vs
sets_last l i vs e = sets-eq vs l i (omega arith) ∙ rw (drop_of_length-le l {i = i + length vs} (omega arith), append-nil)

-- a whole array
module _ (l : List ℕ) (n : ℕ) (f : ℕ → ℕ) where
  pub fill_more : {j v : ℕ} {out : List ℕ} → Put l 0 n f j out → j < n → v ≡ f j → Put l 0 n f (j + 1) (set out j v)
  fill_more h b q = put_more l 0 n f h b (omega arith) q

  pub fill_all : {j : ℕ} {out : List ℕ} → Put l 0 n f j out → n ≤ j → length l ≡ n → out ≡ tab f 0 n
  fill_all h b e = put_all l 0 n f h b ∙ sets_last l 0 (tab f 0 n) (omega (arith, tab_length f 0 n, e))

-- ---- words that are copied

module _ (ws : List ℕ) (b : ℕ) {n m : ℕ} (e : m ≡ n) (h : b + n ≤ length ws) where
  -- n of them, from b on
  pub words_at : take m (drop b ws) ≡ tab (λ j. get_or ws (b + j) 0) 0 n
  words_at = rw e (ext_get_or 0 (take n (drop b ws)) _ (long ∙ sym (tab_length _ 0 n)) λ j i. one j (omega (arith, long)))
    where
      long : length (take n (drop b ws)) ≡ n
      long = length-take-le n (drop b ws) (rw length-drop (omega arith))

      one : (j : ℕ) → j < n → get_or (take n (drop b ws)) j 0 ≡ get_or (tab (λ j. get_or ws (b + j) 0) 0 n) j 0
      one j i = get_or-take n (drop b ws) j 0 i ∙ (get_or-drop b ws j 0 ∙ sym (tab_at _ n j 0 i))

  -- n others in their place
  pub words_put : {vs new : List ℕ} → new ≡ vs → length vs ≡ n → put_mid b m ws new ≡ sets ws b vs
  words_put {vs} p l = rw (e, p, ← l, drop-drop, ← append_assoc) (sym (sets-eq vs ws b (omega arith)))

-- an event's words: its numbers, then its set's words
pub encoded : (e : Event) {out : List ℕ} → Proper e → out ≡ numbers_of e ++ e.reactions → (out ≡ encode e) × (decode out ≡ e)
unfolding encode
encoded e {out} p q = (is, ap decode is ∙ decode_encode e p)
  where
    is : out ≡ encode e
    is = q ∙ ap (λ x. numbers_of e ++ x) (sym (words_back e.reactions p.reactions))

-- a flag's number
pub bit_is : (b : Bool) → from_bool b ≡ bit_of b
bit_is true = refl
bit_is false = refl

-- ---- the returns of the functions on slots

module _ (ws : List ℕ) (k : ℕ) where
  pub read_past : {r : Event} → r ≡ blank → room_for_events ≤ k → r ≡ get_or (events_of ws) k blank
  read_past e h = e ∙ sym (H.thing_past decode encode slot_words room_for_events encode_long ws k blank h)

  pub read_there : {r : Event} {row : List ℕ} → k < room_for_events → r ≡ decode row → row ≡ row_at slot_words ws k → r ≡ get_or (events_of ws) k blank
  read_there h e q = e ∙ (ap decode q ∙ sym (H.thing_get decode encode slot_words room_for_events encode_long ws k blank h))

  pub due_there :
      {d : Due} → k < room_for_events → d.queue ≡ get_or ws (k * slot_words) 0 % 65536 → d.tag.0 ≡ get_or ws (k * slot_words + 1) 0 →
      d.tag.1 ≡ get_or ws (k * slot_words + 2) 0 % 4294967296 → IsDue d (get_or (events_of ws) k blank)
  unfolding decode tab
  due_there h q o m =
      let t = read_there h refl refl in
      let z : k * slot_words + 0 ≡ k * slot_words = omega arith in
      record { queue = q ∙ rw z at (ap (λ e. e.queue) t); tag = rw (o, m) (ap (λ e. e.tag) t) }

  module _ (s : Event) (h : Whole ws) where
    pub put_past : room_for_events ≤ k → Held ws (set (events_of ws) k s)
    put_past b = H.held_past decode encode slot_words room_for_events encode_long ws k s h b

    pub put_there :
        {out row : List ℕ} → k < room_for_events → (row ≡ encode s) × (decode row ≡ s) → out ≡ put_row slot_words ws k row → Held out (set (events_of ws) k s)
    put_there b e o = rw (o, e.0) (H.held_put decode encode slot_words room_for_events encode_long ws k s h (ap decode (sym e.0) ∙ e.1) b)

-- ---- the returns of `copy_slot` and `blank_rows`

pub copied :
    (ws : List ℕ) (from to : ℕ) {out row : List ℕ} → Whole ws → from < room_for_events → to < room_for_events →
    row ≡ row_at slot_words ws from → out ≡ put_row slot_words ws to row →
    Held out (set (events_of ws) to (get_or (events_of ws) from blank))
copied ws from to {out} {row} h f t e o =
    H.held_copy decode encode slot_words room_for_events encode_long ws from to blank h f t (o ∙ (ap (put_row slot_words ws to) e ∙ sym (stored ws (to * slot_words) (row_at slot_words ws from))))

pub blank_held : Held (replicate (room_for_events * slot_words) 0) (replicate room_for_events blank)
unfolding decode encode head_word steps_word tab
blank_held =
    record {
      whole = H.whole_zero decode encode slot_words room_for_events encode_long blank refl refl;
      things = H.zero_things decode encode slot_words room_for_events encode_long blank refl refl (room_for_events * slot_words);
    }

pub events_long : (ws : List ℕ) → length (events_of ws) ≡ room_for_events
events_long ws = H.things_length decode encode slot_words room_for_events encode_long ws
