-- `state_queues::put_least` meets its contract: the words that it puts are those of the row. Assumes nothing.
use Prim.Native.Nat.{◌<◌}
use mathlib.Core.List.{[], ◌∷◌}
use mathlib.Core.Path.{◌≡◌}
use native.Mathlib.Nat.{mod-eq_of_lt}
use Rattle.state_queues.specs.Queue.{of_earliest, encode, decode}
use Rattle.state_queues.proofs.HeadLaws.{put_past, put_there}
use borrow.Author.Rules.{rules}
use Rattle.state_queues.proofs.put_least.Goals as goal
use Rattle.state_queues.proofs.put_least.Goals.{in-Some, in-None}

pub returns-then-k-ge-QUEUES : goal.returns-then-k-ge-QUEUES
returns-then-k-ge-QUEUES c = put_past c.args.heads.now c.args.k c.requires _ c.if-k-ge-QUEUES.true

pub returns : goal.returns
unfolding encode decode
returns c =
    let l = of_earliest c.args.least in
    let m = c.match-least in
    let d : decode (encode l) ≡ l =
    elim m.branch [ in-Some w ↦ let h : w.in-Some.t.1 < 4294967296 = search rules in rw (w.in-Some.is, mod-eq_of_lt h) | in-None w ↦ rw w.in-None.is ] in
    let r : m.there.0 ∷ m.there.1 ∷ m.there.2 ∷ [] ≡ encode l =
    elim m.branch [ in-Some w ↦ rw (w.in-Some.is, w.there-is, w.from.ensures) | in-None w ↦ rw (w.in-None.is, w.there-is) ] in
    put_there c.args.heads.now c.args.k c.requires l d (search rules) r
