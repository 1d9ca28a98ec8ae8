-- The words of each fact from what the calls answered, and what is left of a list as a loop goes over it. Assumes nothing.
use Prim.Native.Nat.{ℕ, zero, suc, ◌+◌, ◌≤◌, ◌<◌}
use mathlib.Core.Path.{◌≡◌, sym, ap, ◌∙◌}
use mathlib.Core.Bool.{Bool, cond}
use mathlib.Core.List.{List, [], ◌∷◌, ◌++◌, append_assoc, append-nil}
use native.Mathlib.Omega.{arith}
use native.Mathlib.Numerals.{add-one}
use lib.Dec.{ltb}
use lib.ListN.{length, get_or, take, drop, drop_of_length-le}
use lib.Seq.{drop-cons, take_all}
use borrow.Author.Tests.{eq-eqb, ne_eqb, lt-ltb, le-ltb}
use Rattle.lists.specs.Tests.{bit_of}
use Rattle.tags.specs.Tags.{Tag, Answer, MappedAnswer, to_local, to_global, tag_only, held_in}
use Rattle.machine.specs.State.{root}
use Rattle.state_scopes.specs.Scopes.{Scope, blank}
use Rattle.table_rows.specs.Kinds.{reaction}
use Rattle.day_lines.specs.Text.{text, decimal}
use Rattle.byte_writer.specs.Written.{Written}
use Rattle.byte_writer.proofs.WrittenLaws.{written_then, written_as}
use Rattle.day_telling.specs.Facts.{found, offset_in, microstep_in, scope_place, place_words, scope_words, local_words, lack, no_lack, lacking_reaction, words_text, fact_text}

-- ---- tags on the two scales

pub scope_place_is :
    (s : Scope) (q : ℕ) (t : Tag) {g : MappedAnswer} {f o m x y : ℕ} {b : Bool} → g ≡ to_global s.clock t → f ≡ found (tag_only g) →
    o ≡ offset_in (tag_only g) → m ≡ microstep_in (tag_only g) → x ≡ bit_of s.active → b ≡ held_in g → y ≡ bit_of b → (q ∷ t.offset ∷ t.microstep ∷ x ∷ f ∷ o ∷ m ∷ y ∷ []) ≡ scope_place s q t
unfolding scope_place
scope_place_is s q t e f g h i j k = rw (k, j, i, h, g, f, e)

pub place_root : (ss : List Scope) (q : ℕ) (t : Tag) → q ≡ root → (q ∷ t.offset ∷ t.microstep ∷ 1 ∷ 1 ∷ t.offset ∷ t.microstep ∷ 0 ∷ []) ≡ place_words ss q t
unfolding place_words
place_root ss q t e = simp (eq-eqb q root e)

pub place_scope : (ss : List Scope) (q : ℕ) (t : Tag) {s : Scope} {r : List ℕ} → (q ≡ root → ⊥) → s ≡ get_or ss q blank → r ≡ scope_place s q t → r ≡ place_words ss q t
unfolding place_words
place_scope ss q t n e h = simp (ne_eqb q root n) (h ∙ ap (λ s. scope_place s q t) e)

pub scope_words_are :
    (i : ℕ) (s : Scope) {u : Scope} {a b d : ℕ} → u ≡ s → a ≡ bit_of u.active → b ≡ bit_of u.ever → d ≡ bit_of u.clock.allowed →
    (i ∷ a ∷ b ∷ d ∷ u.clock.G.offset ∷ u.clock.G.microstep ∷ u.clock.L.offset ∷ u.clock.L.microstep ∷ u.clock.S.offset ∷ u.clock.S.microstep ∷ []) ≡ scope_words i s
unfolding scope_words
scope_words_are i s e f g h = rw (f, g, h, e)

pub local_words_are :
    (i : ℕ) (s : Scope) (t : Tag) {u : Scope} {l : Answer} {f o m : ℕ} → u ≡ s → l ≡ to_local u.clock t → f ≡ found l → o ≡ offset_in l → m ≡ microstep_in l →
    (i ∷ f ∷ o ∷ m ∷ []) ≡ local_words i s t
unfolding local_words
local_words_are i s t e l f g h = rw (f, g, h, l, e)

-- ---- keys that are lacking

module _ (n : ℕ) (ks : List ℕ) (i : ℕ) (h : i < length ks) where
  pub lacking_pass : get_or ks i 0 < n → lacking_reaction n (drop i ks) ≡ lacking_reaction n (drop (i + 1) ks)
  unfolding lacking_reaction
  lacking_pass l = rw (add-one, drop-cons ks i 0 h) (simp (lt-ltb _ _ l))

  pub lacking_here : n ≤ get_or ks i 0 → lacking_reaction n (drop i ks) ≡ lack reaction (get_or ks i 0)
  unfolding lacking_reaction
  lacking_here l = rw (drop-cons ks i 0 h) (simp (le-ltb _ _ l))

pub lacking_none : (n : ℕ) (ks : List ℕ) (i : ℕ) → length ks ≤ i → lacking_reaction n (drop i ks) ≡ no_lack
unfolding lacking_reaction
lacking_none n ks i h = rw (drop_of_length-le ks h)

-- by what the code counted
pub lacking_by : (ks : List ℕ) {n m : ℕ} {r : List ℕ} → n ≡ m → lacking_reaction n ks ≡ r → r ≡ lacking_reaction m ks
lacking_by ks e h = rw (← e) (sym h)

-- x is one of n, or not
module _ {x n m : ℕ} {r : List ℕ} (e : n ≡ m) where
  pub below_yes : {y : List ℕ} (z : List ℕ) → x < n → r ≡ y → r ≡ cond (ltb x m) y z
  below_yes z h k = rw (← e, lt-ltb x n h) k

  pub below_no : {z : List ℕ} (y : List ℕ) → n ≤ x → r ≡ z → r ≡ cond (ltb x m) y z
  below_no y h k = rw (← e, le-ltb x n h) k

-- ---- lines

words_next : (ws : List ℕ) (i : ℕ) → i < length ws → words_text (take i ws) ++ (text " " ++ decimal (get_or ws i 0)) ≡ words_text (take (suc i) ws)
unfolding words_text
words_next [] i h = absurd (omega arith)
words_next (w ∷ ws) zero h = ap (λ l. text " " ++ l) (sym (append-nil (decimal w)))
words_next (w ∷ ws) (suc i) h =
    ap (λ l. text " " ++ l)
    (append_assoc (decimal w) (words_text (take i ws)) (text " " ++ decimal (get_or ws i 0)) ∙ ap (λ l. decimal w ++ l) (words_next ws i (omega arith)))

-- one number more
pub written_word :
    {old : List ℕ} {at : ℕ} {mid : List ℕ} {m : ℕ} {gap : List ℕ} {k : ℕ} {new : List ℕ} {end : ℕ} (ws : List ℕ) (i : ℕ) → i < length ws →
    Written old at (words_text (take i ws)) mid m → Written mid m (text " ") gap k → Written gap k (decimal (get_or ws i 0)) new end →
    Written old at (words_text (take (i + 1) ws)) new end
written_word ws i h u v w = rw add-one (written_as (written_then u (written_then v w)) (words_next ws i h))

pub words_all : {old : List ℕ} {at : ℕ} {new : List ℕ} {end : ℕ} (ws : List ℕ) (i : ℕ) → length ws ≤ i → Written old at (words_text (take i ws)) new end → Written old at (words_text ws) new end
words_all ws i h w = written_as w (ap words_text (take_all i ws h))

pub written_fact :
    {old mid gap new : List ℕ} {m k end : ℕ} (name ws : List ℕ) → Written old 0 name mid m → Written mid m (words_text ws) gap k → Written gap k (text "\n") new end →
    Written old 0 (fact_text name ws) new end
unfolding fact_text
written_fact name ws u v w = written_then u (written_then v w)
