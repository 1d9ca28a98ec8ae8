-- Laws of what is written one behind the other. Assumes nothing.
use mathlib.Core.Path.{◌≡◌, refl, sym, ap, ◌∙◌}
use mathlib.Core.Logic.{◌⊎◌, inl, inr}
use mathlib.Core.List.{List, [], ◌∷◌, ◌++◌, append_assoc}
use Prim.Native.Nat.{ℕ, suc, ◌+◌, ◌-◌, min, ◌≤◌, ◌<◌}
use native.Mathlib.Omega.{arith}
use native.Mathlib.Numerals.{add-one}
use lib.ListN.{length, take, drop, get_or, set, length-append, take-append-drop}
use Rattle.std.proofs.Common.{drop-drop}
use lib.Seq.{sets, length-sets, sets-eq, paste, take-suc, take_all, take_at, length-take-le}
use borrow.Rule.Slice.PartMut.{put_mid}
use Rattle.lists.specs.Tests.{below?}
use Rattle.lists.specs.Rows.{sets_out}
use Rattle.byte_writer.specs.Written.{Written}

pub sets_append : (l : List ℕ) (i : ℕ) (x y : List ℕ) → sets l i (x ++ y) ≡ sets (sets l i x) (i + length x) y
sets_append l i [] y = let e : i + 0 ≡ i = omega arith in rw e
sets_append l i (a ∷ x) y =
    let e : i + suc (length x) ≡ suc i + length x = omega arith in
    rw e (sets_append (set l i a) (suc i) x y)

module _ {old : List ℕ} {at : ℕ} {x new : List ℕ} {end : ℕ} (w : Written old at x new end) where
  pub written_long : length new ≡ length old
  written_long = rw w.all (length-sets old at x)

  -- there is room for the next, or none at all
  pub written_room : end ≤ length new
  written_room = let l = written_long in omega (arith, w.end_is)

pub written_none : (old : List ℕ) (at : ℕ) → at ≤ length old → Written old at [] old at
written_none old at h = record { all = refl; end_is = omega arith }

-- one more behind what is written
pub written_then : {old : List ℕ} {at : ℕ} {x mid : List ℕ} {m : ℕ} {y new : List ℕ} {end : ℕ}
    → Written old at x mid m → Written mid m y new end → Written old at (x ++ y) new end
written_then {old} {at} {x} {mid} {m} {y} {new} {end} v w =
    let l : length mid ≡ length old = written_long v in
    record { all = w.all ∙ seam (below? (at + length x) (length old)); end_is = rw length-append (omega (arith, v.end_is, w.end_is)) }
  where
    seam : (at + length x < length old) ⊎ (length old ≤ at + length x) → sets mid m y ≡ sets old at (x ++ y)
    seam (inl h) =
        let e : m ≡ at + length x = omega (arith, v.end_is) in
        rw (e, v.all) (sym (sets_append old at x y))
    seam (inr h) =
        let l : length (sets old at x) ≡ length old = length-sets old at x in
        let e : length (sets old at x) ≤ m = omega (arith, v.end_is) in
        let g : length (sets old at x) ≤ at + length x = omega arith in
        rw (v.all, sets_out (sets old at x) m y e, sets_append old at x y) (sym (sets_out (sets old at x) (at + length x) y g))

-- one byte where there is room
pub put_in : (old : List ℕ) (at a : ℕ) → at < length old → Written old at (a ∷ []) (set old at a) (at + 1)
put_in old at a h = record { all = refl; end_is = omega arith }

-- no room is left
pub written_past : (old : List ℕ) (at : ℕ) (x : List ℕ) → at ≤ length old → length old ≤ at → Written old at x old at
written_past old at x h g = record { all = sym (sets_out old at x g); end_is = omega arith }

-- the same bytes, said otherwise
pub written_as : {old : List ℕ} {at : ℕ} {x y new : List ℕ} {end : ℕ} → Written old at x new end → x ≡ y → Written old at y new end
written_as w e = rw (← e) w

-- all that is written from the front on, where it ends before the end
pub written_front : {old x new : List ℕ} {end : ℕ} → Written old 0 x new end → end < length old → take end new ≡ x
written_front {old} {x} {new} {end} w h =
    let e : length x ≡ end = omega (arith, w.end_is) in
    ap (take end) (w.all ∙ sets-eq x old 0 (omega arith)) ∙ take_at x (drop (0 + length x) old) end e

-- bytes for which there is room, over those that stood there
pub written_over : (old : List ℕ) (at k : ℕ) (x y : List ℕ) → y ≡ x → k ≡ length x → at + length x ≤ length old → Written old at x (put_mid at k old y) (at + length x)
written_over old at k x y e f h =
    rw (e, f) (record { all = ap (λ d. take at old ++ (x ++ d)) (drop-drop (length x) at old) ∙ sym (rw append_assoc at (sets-eq x old at h)); end_is = omega arith })

-- the same, the front of a list
pub written_paste : (old : List ℕ) (at : ℕ) (s : List ℕ) (n : ℕ) {end : ℕ} → end ≡ at + n → n ≤ length s → at + n ≤ length old → Written old at (take n s) (paste old at s n) end
written_paste old at s n {end} e g h =
    let l : length (take n s) ≡ n = length-take-le n s g in
    record { all = sym (rw l at (sets-eq (take n s) old at (rw l h))); end_is = rw (l, e) (omega arith) }

-- what there is room for of a text, for the text
pub written_part : {old : List ℕ} {at : ℕ} {new : List ℕ} {end : ℕ} (t : List ℕ) (n : ℕ) → n ≡ min (length t) (length old - at) → at ≤ length old → Written old at (take n t) new end → Written old at t new end
written_part {old} {at} {new} {end} t n e h w = go (below? n (length t))
  where
    go : (n < length t) ⊎ (length t ≤ n) → Written old at t new end
    go (inl g) =
        let l : length (take n t) ≡ n = length-take-le n t (omega arith) in
        let m = written_long w in
        written_as (written_then w (written_past new end (drop n t) (omega (arith, w.end_is)) (omega (arith, w.end_is)))) (take-append-drop n t)
    go (inr g) = written_as w (take_all n t g)

-- the first i of a text, and one more
pub written_next : {old : List ℕ} {at : ℕ} {mid : List ℕ} {m : ℕ} {new : List ℕ} {end : ℕ} (t : List ℕ) (i a : ℕ)
    → i < length t → a ≡ get_or t i 0 → Written old at (take i t) mid m → Written mid m (a ∷ []) new end → Written old at (take (i + 1) t) new end
written_next t i a h e v w = written_as (written_then v w) (rw (e, add-one) (sym (take-suc t i 0 h)))

-- the same where there is room for all of it
pub copied_none : (old : List ℕ) (at : ℕ) (t : List ℕ) → at + length t ≤ length old → Written old at (take 0 t) old (at + 0)
copied_none old at t r = let e : at + 0 ≡ at = omega arith in rw e (written_none old at (omega arith))

pub copied_next : {old : List ℕ} {at : ℕ} {mid : List ℕ} (t : List ℕ) (i : ℕ) → at + length t ≤ length old → i < length t
    → Written old at (take i t) mid (at + i) → Written old at (take (i + 1) t) (set mid (at + i) (get_or t i 0)) (at + (i + 1))
copied_next {old} {at} {mid} t i r h w =
    let l : length mid ≡ length old = written_long w in
    let e : at + i + 1 ≡ at + (i + 1) = omega arith in
    rw (← e) (written_next t i (get_or t i 0) h refl w (put_in mid (at + i) (get_or t i 0) (omega arith)))

pub written_whole : {old : List ℕ} {at : ℕ} {new : List ℕ} {end : ℕ} (t : List ℕ) (i : ℕ) → length t ≤ i → Written old at (take i t) new end → Written old at t new end
written_whole t i h w = written_as w (take_all i t h)
