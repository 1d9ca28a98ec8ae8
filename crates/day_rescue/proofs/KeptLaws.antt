-- Document 02, C-23: "Kept and dropped runs together are the input in order, each byte once." Assumes nothing.
use Prim.Native.Nat.{ℕ, ◌+◌, ◌-◌, ◌≤◌}
use mathlib.Core.Path.{◌≡◌, sym, ap, subst, ◌∙◌}
use mathlib.Core.Logic.{⊎_elim}
use mathlib.Core.List.{List, [], ◌∷◌, ◌++◌, append-nil, append_assoc}
use native.Mathlib.Nat.{le_refl}
use native.Mathlib.Omega.{arith}
use lib.ListN.{length, take, drop, length-drop, length-append, take-append-drop}
use lib.Seq.{take-add, drop-drop, drop-length, length-take-le}
use borrow.Author.Tests.{eq-eqb, ne_eqb}
use Rattle.lists.specs.Tests.{same?}
use Rattle.day_records.specs.Records.{length_at, behind}
use Rattle.day_rescue.specs.declared.Run.{Run}
use Rattle.day_rescue.specs.Rescue.{run, past, longer, listed, Walk, stopped, before, between, walk, rescue_from}
use Rattle.day_rescue.specs.Parts.{without, total, Ordered}
use Rattle.day_rescue.proofs.WalkLaws.{ends_behind, ends_inside, every_walk}

-- all runs of a walk that is at the file's end
abbrev runs_of : Walk → List Run
runs_of w = w.dropped ++ listed w.pending

pub ordered_less : (rs : List Run) (a b end : ℕ) → b ≤ a → Ordered a rs end → Ordered b rs end
unfolding Ordered
ordered_less [] a b end h o = tt
ordered_less (r ∷ rs) a b end h o = (omega (arith, h, o.0), o.1, o.2, o.3)

-- bytes before the first run are kept
pub without_later : (k p : ℕ) (rs : List Run) (s : List ℕ) (end : ℕ) → k ≤ length s → Ordered (p + k) rs end → take k s ++ without (p + k) rs (drop k s) ≡ without p rs s
unfolding without Ordered
without_later k p [] s end h o = take-append-drop k s
without_later k p (r ∷ rs) s end h o =
    let a = r.place - (p + k) in
    let l = o.0 in
    let e : k + a ≡ r.place - p = omega (arith, l) in
    let g : k + (past r - (p + k)) ≡ past r - p = omega (arith, l) in
    sym (append_assoc (take k s) (take a (drop k s)) (without (past r) rs (drop (past r - (p + k)) (drop k s)))) ∙
    (ap (λ x. x ++ without (past r) rs (drop (past r - (p + k)) (drop k s))) (sym (take-add k a s) ∙ ap (λ n. take n s) e) ∙
    ap (λ x. take (r.place - p) s ++ without (past r) rs x) (drop-drop (past r - (p + k)) k s ∙ ap (λ n. drop n s) g))

-- a run that is listed first
module _ (r : Run) (rs : List Run) where
  first_without : (s : List ℕ) (i : ℕ) → r.length ≤ i → without r.place (listed r ++ rs) (drop (i - r.length) s) ≡ without (past r) rs (drop i s)
  unfolding without
  first_without s i h =
      ⊎_elim
      (λ e.
      let p : r.place ≡ past r = omega (arith, e) in
      let g : i - r.length ≡ i = omega (arith, e) in
      rw (eq-eqb r.length 0 e) (ap (λ n. without r.place rs (drop n s)) g ∙ ap (λ n. without n rs (drop i s)) p))
      (λ e.
      let z : r.place - r.place ≡ 0 = omega arith in
      let d : past r - r.place ≡ r.length = omega arith in
      let g : i - r.length + r.length ≡ i = omega (arith, h) in
      rw (ne_eqb r.length 0 e) (rw (z, d) (ap (without (past r) rs) (drop-drop r.length (i - r.length) s ∙ ap (λ n. drop n s) g))))
      (same? r.length 0)

  first_ordered : (end : ℕ) → past r ≤ end → Ordered (past r + 6) rs end → Ordered r.place (listed r ++ rs) end
  unfolding Ordered
  first_ordered end h o =
      ⊎_elim (λ e. rw (eq-eqb r.length 0 e) (ordered_less rs (past r + 6) r.place end (omega arith) o))
      (λ e. rw (ne_eqb r.length 0 e) (omega arith, omega (arith, e), h, o)) (same? r.length 0)

  first_total : total (listed r ++ rs) ≡ r.length + total rs
  unfolding total
  first_total = ⊎_elim (λ e. rw (eq-eqb r.length 0 e) (omega (arith, e))) (λ e. rw (ne_eqb r.length 0 e)) (same? r.length 0)

module _ (s : List ℕ) (start : ℕ) where
  -- from a place on, with a pending run that ends there
  record Parts (i : ℕ) (r : Run) (w : Walk) : Type 0 where
    kept : w.kept ≡ without r.place (runs_of w) (drop (i - r.length) s)
    order : Ordered r.place (runs_of w) (start + length s)
    sum : length w.kept + total (runs_of w) + i ≡ length s + r.length

  parts_stop : (i : ℕ) (r : Run) → i ≡ length s → r.length ≤ i → past r ≡ start + i → Parts i r (stopped i r)
  unfolding without Ordered total
  parts_stop i r e l p =
      let none : drop i s ≡ [] = ap (λ n. drop n s) e ∙ drop-length s in
      let all = append-nil (listed r) in
      record {
        kept = sym (ap (λ x. without r.place x (drop (i - r.length) s)) (sym all) ∙ (first_without r [] s i l ∙ none));
        order = subst (λ x. Ordered r.place x (start + length s)) all (first_ordered r [] (start + length s) (omega (arith, p, e)) tt);
        sum = let t = ap total (sym all) ∙ first_total r [] in omega (arith, t, e);
      }

  parts_keep : (i j : ℕ) (r : Run) (w : Walk) → i + 6 ≤ j → j ≤ length s → r.length ≤ i → past r ≡ start + i → Parts j (run (past r + (j - i)) 0) w →
      Parts i r (before (between s i j) 1 (listed r) w)
  parts_keep i j r w g h l p t =
      let all = append_assoc (listed r) w.dropped (listed w.pending) in
      let o = t.order in
      let k : i + (j - i) ≡ j = omega (arith, g) in
      let z : j ≡ j - 0 = omega arith in
      let d = length-drop i s in
      let later = without_later (j - i) (past r) (runs_of w) (drop i s) (start + length s) (omega (arith, d, g, h)) o in
      let rest : drop (j - i) (drop i s) ≡ drop j s = drop-drop (j - i) i s ∙ ap (λ n. drop n s) k in
      record {
        kept = sym
            (ap (λ x. without r.place x (drop (i - r.length) s)) all ∙ (first_without r (runs_of w) s i l ∙
            (sym later ∙ (ap (λ x. between s i j ++ without (past r + (j - i)) (runs_of w) x) (rest ∙ ap (λ n. drop n s) z) ∙ ap (between s i j ++◌) (sym t.kept)))));
        order = subst (λ x. Ordered r.place x (start + length s)) (sym all)
            (first_ordered r (runs_of w) (start + length s) (omega (arith, p, g, h)) (ordered_less (runs_of w) (past r + (j - i)) (past r + 6) (start + length s) (omega (arith, g)) o));
        sum =
            let a = ap total all ∙ first_total r (runs_of w) in
            let b = length-append (between s i j) w.kept in
            let c = length-take-le (j - i) (drop i s) (omega (arith, d, g, h)) in
            let e = t.sum in
            omega (arith, a, b, c, e, g);
      }

  parts_drop : (i : ℕ) (r : Run) (w : Walk) → Parts (i + 1) (longer r) w → Parts i r w
  parts_drop i r w t =
      let e : i + 1 - (r.length + 1) ≡ i - r.length = omega arith in
      record { kept = rw (← e) t.kept; order = t.order; sum = let a = t.sum in omega (arith, a) }

  parts : (i : ℕ) (r : Run) → i ≤ length s → r.length ≤ i → past r ≡ start + i → Parts i r (walk s (length s) i r)
  parts =
      every_walk s (length s) (le_refl (length s)) (λ i r w. i ≤ length s → r.length ≤ i → past r ≡ start + i → Parts i r w)
      (λ i r h g l p. parts_stop i r (omega (arith, h, g)) l p)
      (λ i r w b f t g l p.
      let k = ends_behind s i f in let n = ends_inside s i f in parts_keep i (behind i (length_at s i)) r w k n l p (t n (omega arith) (omega (arith, p, k))))
      (λ i r w b f t g l p. parts_drop i r w (t (omega (arith, b)) (omega (arith, l)) (omega (arith, p))))

-- ---- all records of a file, its bytes from a place on: what is kept is the file without the runs, these lie in it in order and apart, and together they
-- have all its bytes
pub record EachOnce (place : ℕ) (s : List ℕ) (w : Walk) : Type 0 where
  pub kept : w.kept ≡ without place w.dropped s
  pub order : Ordered place w.dropped (place + length s)
  pub sum : length w.kept + total w.dropped ≡ length s

pub each_once : (place : ℕ) (s : List ℕ) → EachOnce place s (rescue_from place s)
unfolding rescue_from
each_once place s =
    let t = parts s place 0 (run place 0) (omega arith) (omega arith) (omega arith) in
    record { kept = t.kept; order = t.order; sum = let a = t.sum in omega (arith, a) }
