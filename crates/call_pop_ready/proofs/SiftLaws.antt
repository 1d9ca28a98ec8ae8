-- Taking out and gathering in one loop: the laws of both, side by side. Assumes nothing.
use Rattle.std.specs.Prelude.{Option, Some, None}
use mathlib.Core.Bool.{Bool, true, false}
use mathlib.Core.Path.{◌≡◌, refl, sym, ap, ◌∙◌}
use mathlib.Core.List.{List, [], ◌∷◌, ◌++◌}
use Prim.Native.Nat.{ℕ, ◌+◌, ◌<◌, ◌≤◌}
use native.Mathlib.Omega.{arith}
use lib.ListN.{length, get_or, set, take}
use Rattle.lists.specs.Lists.{lose}
use Rattle.machine.specs.State.{Event, ordinary}
use Rattle.state_events.specs.Slots.{room_for_events}
use Rattle.state_events.specs.Slots.{blank, events_of, Whole, Held}
use Rattle.state_events.proofs.SlotLaws.{events_long}
use Rattle.tags.specs.Views.{of_queue}
use Rattle.tags.specs.declared.QueueTag.{QueueTag}
use Rattle.machine.specs.Heads.{least, least_of}
use Rattle.state_queues.specs.Queue.{one_if, of_earliest, is_lower}
use Rattle.state_queues.proofs.LowLaws.{lower_yes, lower_no, stays_more, goes_more}
use Rattle.state_queues.proofs.TakeLaws as T
use Rattle.call_pop_ready.specs.Gathering.{gathering_of, added_to, Grown}
use Rattle.call_pop_ready.specs.declared.Gathered.{Gathered}
use Rattle.call_pop_ready.proofs.GatherLaws.{grown_none, grown_then, Going, going_none, going_yes, going_no, going_room}

-- the loop has come to event i: w stay, over the front of the rows, k ordinary ones went, what went is gathered, and of queue q's
-- events that stay the lowest is found
pub record Sifting (q : ℕ) (p : Event → Bool) (ws : List ℕ) (n : ℕ) (f : Gathered) (was : List ℕ) (i w k : ℕ) (low : Option QueueTag) (out : List ℕ) (g : Gathered)
    (keys : List ℕ) : Type 0 where
  pub before : i ≤ n
  pub grown : Grown f.actions g.actions was keys
  pub taken : T.Taken p ws i w k out
  pub going : Going p (events_of ws) (gathering_of f was) f.actions i (gathering_of g keys) g.actions
  pub least : of_earliest low ≡ least_of q (lose p (take i (events_of ws)))

pub sifting_none :
    (q : ℕ) (p : Event → Bool) (ws : List ℕ) (n : ℕ) (g : Gathered) (keys : List ℕ) → Whole ws → Sifting q p ws n g keys 0 0 0 None ws g keys
unfolding lose least_of
sifting_none q p ws n g keys h =
    record { before = omega arith; grown = grown_none g.actions keys; taken = T.taken_none p ws h; going = going_none p (events_of ws) (gathering_of g keys) g.actions; least = refl }

module _ {q : ℕ} {p : Event → Bool} {ws : List ℕ} {n : ℕ} {f : Gathered} {was : List ℕ} {i w k : ℕ} {low : Option QueueTag} {out : List ℕ} {g : Gathered} {keys : List ℕ}
    (s : Sifting q p ws n f was i w k low out g keys) where
  pub sifting_room : w ≤ i
  sifting_room = T.taken_room p ws i w k out s.taken

  pub sifting_keys : i < n → f.actions + n ≤ room_for_events → g.actions < room_for_events
  sifting_keys b r = omega (arith, going_room p (events_of ws) (gathering_of f was) f.actions i (gathering_of g keys) g.actions s.going)

  module _ (b : i < n) (o : n ≤ room_for_events) {e : Event} (r : e ≡ get_or (events_of out) i blank) {x : Bool} (t : x ≡ p e) where
    original : e ≡ get_or (events_of ws) i blank
    original = T.original p ws n i w k out b o s.taken e r x t

    inside : i < length (events_of ws)
    inside = let l = events_long ws in omega arith

    pub sifting_goes :
        {y : ℕ} (a : Gathered) (more : List ℕ) → x ≡ true → y ≡ one_if (ordinary e) → y < 2 → gathering_of a more ≡ added_to (gathering_of g keys) e →
        a.actions ≤ g.actions + 1 → Grown g.actions a.actions keys more → Sifting q p ws n f was (i + 1) w (k + y) low out a more
    sifting_goes {y} a more c d z v u m =
        record {
          before = omega arith;
          grown = grown_then s.grown m;
          taken = T.taken_goes p ws n i w k out b o s.taken e r x t y c d z;
          going = going_yes p (events_of ws) (gathering_of f was) f.actions i (gathering_of g keys) g.actions inside s.going e original x t (gathering_of a more) a.actions c v u;
          least = s.least ∙ ap (least_of q) (sym (goes_more (events_of ws) i inside p (rw original at (sym t ∙ c))));
        }

    module _ {next : List ℕ} (c : x ≡ false) (v : Held next (set (events_of out) w (get_or (events_of out) i blank))) {y : Bool} (l : y ≡ is_lower q (of_earliest low) e) where
      one_more : least_of q (lose p (take i (events_of ws)) ++ (e ∷ [])) ≡ least_of q (lose p (take (i + 1) (events_of ws)))
      one_more = ap (least_of q) (rw original (sym (stays_more (events_of ws) i inside p (rw original at (sym t ∙ c)))))

      stays : (new : Option QueueTag) → of_earliest new ≡ least_of q (lose p (take i (events_of ws)) ++ (e ∷ [])) → Sifting q p ws n f was (i + 1) (w + 1) k new next g keys
      stays new m =
          record {
            before = omega arith;
            grown = s.grown;
            taken = T.taken_stays p ws n i w k out b o s.taken e r x t next c v;
            going = going_no p (events_of ws) (gathering_of f was) f.actions i (gathering_of g keys) g.actions inside s.going e original x t c;
            least = m ∙ one_more;
          }

      pub sifting_lower : (new : QueueTag) → of_queue new ≡ e.tag → y ≡ true → Sifting q p ws n f was (i + 1) (w + 1) k (Some new) next g keys
      sifting_lower new d z = stays (Some new) (ap least d ∙ lower_yes q (lose p (take i (events_of ws))) e (of_earliest low) s.least (sym l ∙ z))

      pub sifting_stays : y ≡ false → Sifting q p ws n f was (i + 1) (w + 1) k low next g keys
      sifting_stays z = stays low (lower_no q (lose p (take i (events_of ws))) e (of_earliest low) s.least (sym l ∙ z))
