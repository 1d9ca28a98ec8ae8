-- What the word functions of scopes go by. Assumes nothing.
use mathlib.Core.Path.{◌≡◌, refl, sym, ◌∙◌}
use mathlib.Core.Bool.{Bool, true, false}
use mathlib.Core.List.{List}
use Prim.Native.Nat.{ℕ, ◌+◌, ◌*◌, ◌/◌, ◌%◌, ◌<◌, ◌≤◌}
use native.Mathlib.Omega.{arith}
use native.Mathlib.Nat.{mod-eq_of_lt}
use lib.ListN.{length, get_or, set, replicate}
use lib.Seq.{sets, sets-eq}
use borrow.Rule.Slice.PartMut.{put_mid}
use Rattle.std.specs.Int.{from_bool}
use Rattle.std.proofs.Common.{append_assoc}
use Rattle.std.proofs.lemmas.List.{drop-drop}
use Rattle.lists.specs.Lists.{every}
use Rattle.lists.specs.Tests.{bit_of, bit_small, bit_back}
use Rattle.lists.specs.Rows.{tab}
use Rattle.lists.specs.Held as H
use Rattle.table_rows.specs.Bytes.{Image}
use Rattle.table_rows.specs.Kinds.{scope}
use Rattle.table_rows.specs.Limits.{versions, most, limits_fit}
use Rattle.state_scopes.specs.Scopes.{Scope, most_scopes, scope_words, blank, marks_word, encode, decode, encode_long, scopes_of, Whole, Held}

-- what is known of a scope in the code
pub record Proper (s : Scope) : Type 0 where
  pub global : s.clock.G.microstep < 4294967296
  pub local : s.clock.L.microstep < 4294967296
  pub suspended : s.clock.S.microstep < 4294967296

-- three marks in one number
module _ (w a e : ℕ) (hw : w < 2) (ha : a < 2) (he : e < 2) where
  mark_first : (w + a * 2 + e * 4) % 2 ≡ w
  mark_first = omega arith

  mark_second : (w + a * 2 + e * 4) / 2 % 2 ≡ a
  mark_second = omega arith

  mark_third : (w + a * 2 + e * 4) / 4 % 2 ≡ e
  mark_third = omega arith

-- what was written is read again
pub decode_encode : (s : Scope) → Proper s → decode (encode s) ≡ s
unfolding decode encode marks_word
decode_encode s p =
    let hw = bit_small s.clock.allowed in
    let ha = bit_small s.active in
    let he = bit_small s.ever in
    rw (
      bit_back s.clock.allowed (mark_first _ (bit_of s.active) (bit_of s.ever) hw ha he),
      bit_back s.active (mark_second (bit_of s.clock.allowed) _ (bit_of s.ever) hw ha he),
      bit_back s.ever (mark_third (bit_of s.clock.allowed) (bit_of s.active) _ hw ha he),
      mod-eq_of_lt p.global,
      mod-eq_of_lt p.local,
      mod-eq_of_lt p.suspended,
    )

-- words in the place of n others, from b on
words_put : (ws : List ℕ) (b : ℕ) {n m : ℕ} {vs new : List ℕ} → m ≡ n → b + n ≤ length ws → new ≡ vs → length vs ≡ n → put_mid b m ws new ≡ sets ws b vs
words_put ws b {vs = vs} e h p l = rw (e, p, ← l, drop-drop, ← append_assoc) (sym (sets-eq vs ws b (omega arith)))

-- a flag's number
pub bit_is : (b : Bool) → from_bool b ≡ bit_of b
bit_is true = refl
bit_is false = refl

module _ (ws : List ℕ) (k : ℕ) where
  pub read_past : {r : Scope} → r ≡ blank → most_scopes ≤ k → r ≡ get_or (scopes_of ws) k blank
  read_past e h = e ∙ sym (H.thing_past decode encode scope_words most_scopes encode_long ws k blank h)

  pub read_there : k < most_scopes → decode (tab (λ j. get_or ws (k * scope_words + j) 0) 0 scope_words) ≡ get_or (scopes_of ws) k blank
  read_there h = sym (H.thing_get decode encode scope_words most_scopes encode_long ws k blank h)

  module _ (s : Scope) (h : Whole ws) where
    pub put_none : most_scopes ≤ k → Held ws (set (scopes_of ws) k s)
    put_none b = H.held_past decode encode scope_words most_scopes encode_long ws k s h b

    pub put_there :
        {n : ℕ} {new : List ℕ} → Proper s → k < most_scopes → n ≡ scope_words → k * scope_words + scope_words ≤ length ws → new ≡ encode s →
        Held (put_mid (k * scope_words) n ws new) (set (scopes_of ws) k s)
    put_there p b l f e =
        rw (words_put ws (k * scope_words) l f e (encode_long s)) (H.held_put decode encode scope_words most_scopes encode_long ws k s h (decode_encode s p) b)

pub blank_held : Held (replicate (most_scopes * scope_words) 0) (replicate most_scopes blank)
unfolding decode encode marks_word
blank_held =
    record {
      whole = H.whole_zero decode encode scope_words most_scopes encode_long blank refl refl;
      things = H.zero_things decode encode scope_words most_scopes encode_long blank refl refl (most_scopes * scope_words);
    }

-- as many as a table's count allows
pub scopes_fit : (s : Image) → most s scope ≤ most_scopes
unfolding versions every
scopes_fit s = limits_fit (λ l. get_or l.most scope 0) most_scopes tt s
