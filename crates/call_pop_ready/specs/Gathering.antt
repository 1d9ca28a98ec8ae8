-- What a pop gathers, one event at a time: document 01, "Answer: union of reactions, terminal, some ordinary work, network by "or",
-- and each action key once, in order of taking." Assumes nothing.
use Rattle.std.specs.Prelude.{Bool, true, false, cond, ◌||◌, ◌≡◌, List, [], ℕ, ◌+◌, ◌≤◌, length, take, drop, set, eqb}
use Rattle.lists.specs.Lists.{any, foldl, keep, lose, count}
use Rattle.key_set.specs.Sets.{union_of, no_keys, word_count}
use Rattle.tags.specs.Tags.{Tag}
use Rattle.table_rows.specs.Rows.{none}
use Rattle.machine.specs.State.{Event, Scope, ordinary}
use Rattle.machine.specs.Heads.{Ready, add_action, held_at, least_of}
use Rattle.state_queues.specs.Queue.{of_earliest}
use Rattle.call_pop_ready.specs.declared.Gathered.{Gathered}
use Rattle.call_pop_ready.specs.declared.Taken.{Taken}

-- a ready event without its tag
pub record Gathering : Type 0 where
  pub terminal : Bool
  pub work : Bool
  pub network : Bool
  pub held : Bool
  pub reactions : List ℕ
  pub actions : List ℕ

abbrev pub nothing_yet : Gathering
nothing_yet = record { terminal = false; work = false; network = false; held = false; reactions = no_keys word_count; actions = [] }

-- one event more, but for whether it was held back
unfoldable pub added_to : Gathering → Event → Gathering
added_to g e =
    record {
      terminal = g.terminal || e.terminal;
      work = g.work || ordinary e;
      network = g.network || e.network;
      held = g.held;
      reactions = union_of g.reactions e.reactions;
      actions = add_action g.actions e;
    }

-- also held back, if that is so
abbrev pub also_held : Bool → Gathering → Gathering
also_held held g =
    record { terminal = g.terminal; work = g.work; network = g.network; held = g.held || held; reactions = g.reactions; actions = g.actions }

-- one event more, by the scopes' clocks
abbrev pub added_by : List Scope → Gathering → Event → Gathering
added_by ss g e = also_held (held_at ss e.queue e.tag) (added_to g e)

abbrev pub ready_at : Tag → Gathering → Ready
ready_at t g =
    record { tag = t; terminal = g.terminal; work = g.work; network = g.network; held = g.held; reactions = g.reactions; actions = g.actions }

-- the code's: flags, reactions, and how many action keys stand in the array beside it
abbrev pub gathering_of : Gathered → List ℕ → Gathering
gathering_of g actions =
    record {
      terminal = g.terminal;
      work = g.work;
      network = g.network;
      held = g.held;
      reactions = g.reactions.words;
      actions = take g.actions actions;
    }

abbrev pub none_yet : Gathered
none_yet = record { terminal = false; work = false; network = false; held = false; reactions = record { words = no_keys word_count }; actions = 0 }

abbrev pub held_too : Bool → Gathered → Gathered
held_too held g =
    record { terminal = g.terminal; work = g.work; network = g.network; held = g.held || held; reactions = g.reactions; actions = g.actions }

-- how many keys there are after an action, and where it stands
abbrev pub is_new : List ℕ → ℕ → Bool
is_new l a = cond (eqb a none || any (eqb a) l) false true

abbrev pub count_after : List ℕ → ℕ → ℕ → ℕ
count_after keys n a = cond (is_new (take n keys) a) (n + 1) n

abbrev pub keys_after : List ℕ → ℕ → ℕ → List ℕ
keys_after keys n a = cond (is_new (take n keys) a) (set keys n a) keys

-- the lent array with m keys where n stood: as long as it was, and behind them as it was
pub record Grown (n m : ℕ) (was keys : List ℕ) : Type 0 where
  pub more : n ≤ m
  pub long : length keys ≡ length was
  pub behind : drop m keys ≡ drop m was

-- what taking out comes to: the events that go are gathered behind what there was, with no more keys than there may be;
-- how many stay, how many ordinary ones went, and the least tag that queue q has left
pub record Sifted (q : ℕ) (p : Event → Bool) (es : List Event) (g : Gathered) (was : List ℕ) (r : Taken) (keys : List ℕ) : Type 0 where
  pub folds : gathering_of r.gathered keys ≡ foldl added_to (gathering_of g was) (keep p es)
  pub near : r.gathered.actions ≤ g.actions + length (keep p es)
  pub grown : Grown g.actions r.gathered.actions was keys
  pub left : r.count ≡ length (lose p es)
  pub went : r.ordinary ≡ count ordinary (keep p es)
  pub least : of_earliest r.lowest ≡ least_of q (lose p es)
