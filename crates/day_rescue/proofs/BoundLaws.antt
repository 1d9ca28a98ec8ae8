-- A piece stays within its bytes and within what is lent to it. Assumes nothing.
use Prim.Native.Nat.{ℕ, ◌+◌, ◌-◌, ◌*◌, ◌≤◌}
use mathlib.Core.Bool.{Bool, true, false, cond}
use mathlib.Core.Path.{◌≡◌, refl, sym, ap, ◌∙◌}
use mathlib.Core.List.{List}
use native.Mathlib.Omega.{arith}
use lib.ListN.{length, drop, length-take, length-append}
use lib.Seq.{length-sets}
use Rattle.day_records.specs.Records.{length_at, behind}
use Rattle.day_rescue.specs.declared.Run.{Run}
use Rattle.day_rescue.specs.declared.Piece.{Piece}
use Rattle.day_rescue.specs.Rescue.{listed, Walk, stopped, walk, closed, run_bytes, roomy, Answered, told, last_place, piecing}
use Rattle.day_rescue.proofs.WalkLaws.{ends_behind, ends_inside, every_walk}
use Rattle.day_rescue.proofs.ListLaws.{run_append, run_long}
use Rattle.day_rescue.proofs.PieceLaws.{Room, room_there, last_inside}

-- a walk from a place: it keeps no more than it passes, and lists three bytes at most for each byte passed
pub record Within (s : List ℕ) (i : ℕ) (w : Walk) : Type 0 where
  pub kept : i + length w.kept ≤ w.at
  pub dropped : 3 * i + length (run_bytes w.dropped) ≤ 3 * w.at
  pub inside : w.at ≤ length s

module _ (s : List ℕ) (end : ℕ) (e : end ≤ length s) where
  stopped_within : (i : ℕ) (r : Run) → i ≤ length s → Within s i (stopped i r)
  unfolding run_bytes
  stopped_within i r h = record { kept = omega arith; dropped = omega arith; inside = h }

  pub walk_within : (i : ℕ) (r : Run) → i ≤ length s → Within s i (walk s end i r)
  walk_within =
      every_walk s end e (λ i r w. i ≤ length s → Within s i w) (λ i r h g. stopped_within i r g)
      (λ i r w b f t g.
      let j = behind i (length_at s i) in
      let m = t (ends_inside s i f) in
      let k = ends_behind s i f in
      let l = length-take (j - i) (drop i s) in
      let d = run_long r in
      let a = ap length (run_append (listed r) w.dropped) ∙ length-append (run_bytes (listed r)) (run_bytes w.dropped) in
      record { kept = rw length-append (omega (arith, m.kept, k, l)); dropped = rw a (omega (arith, m.dropped, k, d)); inside = m.inside })
      (λ i r w b f t g. let m = t (omega (arith, b, e)) in record { kept = omega (arith, m.kept); dropped = omega (arith, m.dropped); inside = m.inside })

-- what a piece comes to, in lent bytes
pub record Bounds (s out list : List ℕ) (q : Answered Piece) : Type 0 where
  pub inside : q.answer.used ≤ length s
  pub few : q.answer.written ≤ q.answer.used
  pub written : q.answer.written ≤ length q.out
  pub listed : q.answer.listed ≤ length q.list
  pub output_long : length q.out ≡ length out
  pub list_long : length q.list ≡ length list

module _ (s out list : List ℕ) where
  told_bounds : (w : Walk) → w.at ≤ length s → length w.kept ≤ w.at → length w.kept ≤ length out → length (run_bytes w.dropped) ≤ length list → Bounds s out list (told w out list)
  told_bounds w i k a b =
      let o = length-sets out 0 w.kept in
      let l = length-sets list 0 (run_bytes w.dropped) in
      record { inside = i; few = k; written = omega (arith, a, o); listed = omega (arith, b, l); output_long = o; list_long = l }

  closed_bounds : (last : Bool) (w : Walk) → Within s 0 w → {r : Run} → Room s r out list → Bounds s out list (told (closed last w) out list)
  closed_bounds false w m room =
      let k = m.kept in
      let d = m.dropped in
      let i = m.inside in
      let o = room.output in
      let l = room.listing in
      told_bounds w i (omega (arith, k)) (omega (arith, k, i, o)) (omega (arith, d, i, l))
  closed_bounds true w m room =
      let k = m.kept in
      let d = m.dropped in
      let i = m.inside in
      let o = room.output in
      let l = room.listing in
      let p = run_long w.pending in
      let a = ap length (run_append w.dropped (listed w.pending)) ∙ length-append (run_bytes w.dropped) (run_bytes (listed w.pending)) in
      told_bounds (closed true w) i (omega (arith, k)) (omega (arith, k, i, o)) (omega (arith, a, d, i, l, p))

  bounds-by : (last : Bool) (r : Run) (b : Bool) → b ≡ roomy (length s) r (length out) (length list) →
      Bounds s out list (cond b (told (closed last (walk s (last_place last (length s)) 0 r)) out list) (told (stopped 0 r) out list))
  unfolding walk run_bytes
  bounds-by last r true e = closed_bounds last _ (walk_within s (last_place last (length s)) (last_inside last refl) 0 r (omega arith)) (room_there s r out list (sym e))
  bounds-by last r false e = told_bounds (stopped 0 r) (omega arith) (omega arith) (omega arith) (omega arith)

  pub piece_bounds : (last : Bool) (r : Run) {q : Answered Piece} → q ≡ piecing s last r out list → Bounds s out list q
  unfolding piecing
  piece_bounds last r e = rw e (bounds-by last r (roomy (length s) r (length out) (length list)) refl)
