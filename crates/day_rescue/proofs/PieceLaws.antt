-- A piece, from turn to turn of its loop. Assumes nothing.
use Prim.Native.Nat.{ℕ, ◌+◌, ◌-◌, ◌*◌, ◌≤◌, ◌<◌}
use mathlib.Core.Bool.{Bool, true, false}
use mathlib.Core.Path.{◌≡◌, sym, ap, ◌∙◌}
use mathlib.Core.Logic.{⊎_elim}
use mathlib.Core.List.{List, [], ◌++◌, append-nil}
use native.Mathlib.Nat.{zero-add, add-zero}
use native.Mathlib.Omega.{arith}
use lib.Dec.{leb}
use lib.ListN.{length, drop, length-take, length-append}
use borrow.Author.Tests.{leb-true}
use Rattle.lists.specs.Tests.{below?, and_left, and_right}
use Rattle.byte_writer.specs.Written.{Written}
use Rattle.byte_writer.proofs.WrittenLaws.{written_none, written_then, written_as}
use Rattle.day_rescue.specs.declared.Run.{Run}
use Rattle.day_rescue.specs.declared.Piece.{Piece}
use Rattle.day_rescue.specs.Rescue.{run, past, listed, Walk, stopped, before, between, walk, closed, run_bytes, list_room}
use Rattle.day_rescue.specs.Rescue.{most_place, roomy, Answered, answered, told as tell, untouched, last_place, piecing}
use Rattle.day_rescue.specs.Places.{Stands, Skipped, Stretched}
use Rattle.day_rescue.proofs.WalkLaws.{walk_stops, walk_passes, before_before}
use Rattle.day_rescue.proofs.ListLaws.{run_append, run_long}

-- what is behind a piece's loop: the room that was tested
pub record Room (s : List ℕ) (r : Run) (out list : List ℕ) : Type 0 where
  pub output : length s ≤ length out
  pub listing : list_room (length s) ≤ length list
  pub places : past r + length s ≤ most_place

pub room_there : (s : List ℕ) (r : Run) (out list : List ℕ) → roomy (length s) r (length out) (length list) ≡ true → Room s r out list
unfolding roomy
room_there s r out list h =
    let a = and_right (leb (length s) (length out)) _ h in
    record {
      output = leb-true _ _ (and_left (leb (length s) (length out)) _ h);
      listing = leb-true _ _ (and_left (leb (list_room (length s)) (length list)) _ a);
      places = leb-true _ _ (and_right (leb (list_room (length s)) (length list)) _ a);
    }

last_before : (last : Bool) (n : ℕ) → last_place last n ≤ n
last_before true n = omega arith
last_before false n = omega arith

pub last_inside : (last : Bool) {e n : ℕ} → e ≡ last_place last n → e ≤ n
last_inside last {e} {n} g = rw g (last_before last n)

before_none : (w : Walk) → w ≡ before [] 0 [] w
before_none w = rw (zero-add w.records)

-- what was kept and dropped so far stands in the output and in the list, and the walk goes on from here
pub record Walked (s : List ℕ) (end : ℕ) (r : Run) (out₀ list₀ out list : List ℕ) (at written told records place many : ℕ) : Type 0 where
  pub kept : List ℕ
  pub dropped : List Run
  pub inside : at ≤ length s
  pub walks : walk s end 0 r ≡ before kept records dropped (walk s end at (run place many))
  pub output : Written out₀ 0 kept out written
  pub listing : Written list₀ 0 (run_bytes dropped) list told
  pub kept_few : length kept ≤ at
  pub listed_few : length (run_bytes dropped) ≤ 3 * at
  pub records_few : records ≤ at
  pub places : place + many ≡ past r + at

module _ (s : List ℕ) (end : ℕ) (e : end ≤ length s) (r : Run) (out₀ list₀ : List ℕ) (room : Room s r out₀ list₀) where
  pub walked_none : Walked s end r out₀ list₀ out₀ list₀ 0 0 0 0 r.place r.length
  unfolding run_bytes
  walked_none =
      record {
        kept = [];
        dropped = [];
        inside = omega arith;
        walks = before_none _;
        output = written_none out₀ 0 (omega arith);
        listing = written_none list₀ 0 (omega arith);
        kept_few = omega arith;
        listed_few = omega arith;
        records_few = omega arith;
        places = omega arith;
      }

  module _ {out list : List ℕ} {at written told records place many : ℕ} (w : Walked s end r out₀ list₀ out list at written told records place many) {next : ℕ} (k : Skipped s end at next) where
    passes : walk s end at (run place many) ≡ walk s end next (run place (many + (next - at)))
    passes =
        let p = k.passed in
        let g : at + (next - at) ≡ next = omega (arith, p.forward) in
        walk_passes s end e (next - at) at (run place many) (rw g k.inside) (rw g p) ∙ ap (λ i. walk s end i (run place (many + (next - at)))) g

    goes_on_lem : walk s end 0 r ≡ before w.kept records w.dropped (walk s end next (run place (many + (next - at))))
    goes_on_lem = w.walks ∙ ap (before w.kept records w.dropped) passes

    -- nothing is kept: the places are at their end
    pub walked_over : {stop n : ℕ} → Stretched s end next stop n → stop ≤ next → Walked s end r out₀ list₀ out list stop written told records place (many + (next - at))
    walked_over {stop} t h =
        let f = t.forward in
        let z : stop ≡ next = omega (arith, f, h) in
        let p = k.passed.forward in
        rw z
        (record {
          kept = w.kept;
          dropped = w.dropped;
          inside = omega (arith, k.inside, e);
          walks = goes_on_lem;
          output = w.output;
          listing = w.listing;
          kept_few = omega (arith, w.kept_few, p);
          listed_few = omega (arith, w.listed_few, p);
          records_few = omega (arith, w.records_few, p);
          places = omega (arith, w.places, p);
        })

    pub walked_on : {stop n : ℕ} → Stretched s end next stop n → next < stop → {out' list' : List ℕ} {written' told' : ℕ} →
        Written list told (run_bytes (listed (run place (many + (next - at))))) list' told' → Written out written (between s next stop) out' written' →
        Walked s end r out₀ list₀ out' list' stop written' told' (records + n) (place + (many + (next - at)) + (stop - next)) 0
    walked_on {stop} {n} t h v u =
        let q = run place (many + (next - at)) in
        let p = k.passed.forward in
        let l = t.long h in
        let b = length-take (stop - next) (drop next s) in
        let g = run_long q in
        let a = run_append w.dropped (listed q) in
        let m = ap length a ∙ length-append (run_bytes w.dropped) (run_bytes (listed q)) in
        record {
          kept = w.kept ++ between s next stop;
          dropped = w.dropped ++ listed q;
          inside = t.inside;
          walks = goes_on_lem ∙ (ap (before w.kept records w.dropped) (t.walks h q) ∙ before_before w.kept (between s next stop) records n w.dropped (listed q) _);
          output = written_then w.output u;
          listing = written_as (written_then w.listing v) (sym a);
          kept_few = rw length-append (omega (arith, w.kept_few, b, p, l));
          listed_few = rw m (omega (arith, w.listed_few, g, p, l));
          records_few = omega (arith, w.records_few, p, t.few);
          places = omega (arith, w.places, p, l);
        }

  module _ {out list : List ℕ} {at written told records place many : ℕ} (w : Walked s end r out₀ list₀ out list at written told records place many) (h : end ≤ at) where
    ends : walk s end 0 r ≡ before w.kept records w.dropped (stopped at (run place many))
    ends = w.walks ∙ ap (before w.kept records w.dropped) (walk_stops s end e at (run place many) h)

    -- all that was kept and listed had room
    pub output_long : written ≡ length w.kept
    output_long = let o = w.output.end_is in let f = w.kept_few in let i = w.inside in let g = room.output in omega (arith, o, f, i, g)

    pub listing_long : told ≡ length (run_bytes w.dropped)
    listing_long = let o = w.listing.end_is in let f = w.listed_few in let i = w.inside in let g = room.listing in omega (arith, o, f, i, g)

    pub walked_out : answered (record { used = at; written = written; listed = told; records = records; pending = run place many }) out list ≡ tell (walk s end 0 r) out₀ list₀
    walked_out = rw (ends, append-nil w.kept, append-nil w.dropped, add-zero records, output_long, listing_long, w.output.all, w.listing.all)

    -- and the last run, at the end of the file
    pub walked_closed : {list' : List ℕ} {told' : ℕ} → Written list told (run_bytes (listed (run place many))) list' told' →
        answered (record { used = at; written = written; listed = told'; records = records; pending = run (place + many) 0 }) out list' ≡ tell (closed true (walk s end 0 r)) out₀ list₀
    walked_closed {list'} {told'} v =
        let q = run place many in
        let a = run_append w.dropped (listed q) in
        let m = ap length a ∙ length-append (run_bytes w.dropped) (run_bytes (listed q)) in
        let all = written_as (written_then w.listing v) (sym a) in
        let f = w.listed_few in
        let i = w.inside in
        let g = room.listing in
        let l = run_long q in
        let o = all.end_is in
        let z : told' ≡ length (run_bytes (w.dropped ++ listed q)) = omega (arith, o, m, f, i, g, l) in
        rw (ends, append-nil w.kept, append-nil w.dropped, add-zero records, output_long, z, w.output.all, all.all)

-- ---- by the room

module _ (s : List ℕ) (last : Bool) (r : Run) (out list : List ℕ) {b : Bool} (e : b ≡ roomy (length s) r (length out) (length list)) where
  pub piece_none : {p : Piece} → b ≡ false → p ≡ untouched r → answered p out list ≡ piecing s last r out list
  unfolding piecing run_bytes
  piece_none h q = rw (q, sym e ∙ h)

  module _ (h : b ≡ true) {end : ℕ} (g : end ≡ last_place last (length s)) {p : Answered Piece} where
    pub piece_last : last ≡ true → p ≡ tell (closed true (walk s end 0 r)) out list → p ≡ piecing s last r out list
    unfolding piecing
    piece_last l q = rw (sym e ∙ h) (q ∙ rw (g, l))

    pub piece_more : last ≡ false → p ≡ tell (walk s end 0 r) out list → p ≡ piecing s last r out list
    unfolding piecing
    piece_more l q = rw (sym e ∙ h) (q ∙ rw (g, l))

-- where nothing more is kept the places are at their end
pub over_end : {s : List ℕ} {end at next stop : ℕ} → Skipped s end at next → (next < end → Stands s next → next < stop) → stop ≤ next → end ≤ next
over_end {s} {end} {at} {next} k f h = ⊎_elim (λ l. let g = f l (k.stands l) in absurd (omega (arith, g, h))) (λ l. l) (below? next end)
