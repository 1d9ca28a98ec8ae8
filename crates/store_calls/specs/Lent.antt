-- The store that lent rows hold, what a working function asks of them and leaves in them, and its answers. Assumes nothing.
use Rattle.std.specs.Prelude.{◌≡◌, List, ℕ, ◌≤◌, length, take, Some, None, Ok, Err}
use Rattle.std.specs.Prelude as code
use Rattle.lists.specs.Lay.{lay}
use Rattle.lists.specs.Walk.{Result, done, refused}
use Rattle.refusals.specs.declared.Refusal.{Refusal}
use Rattle.refusals.specs.declared.Refusal.TheVariants as R
use Rattle.store_words.specs.Entries.{room_for_entries, blank_value, blank_bucket}
use Rattle.store_words.specs.Words.{values_of, buckets_of, WholeValues, WholeBuckets, HeldValues, HeldBuckets}
use Rattle.store.specs.Store as S
use Rattle.store.specs.Store.{Store}
use Rattle.store_calls.specs.declared.Counts.{Counts}
use Rattle.store_calls.specs.declared.Changed.{Changed}

abbrev pub store_of : List ℕ → List ℕ → Counts → Store
store_of vs bs n = record { values = take n.values (values_of vs); buckets = take n.buckets (buckets_of bs) }

-- what a working function asks of the rows and counts that it is lent: no more are held than the limit, for which there is room
pub record Lent (limit : ℕ) (vs bs : List ℕ) (n : Counts) : Type 0 where
  pub values : WholeValues vs
  pub buckets : WholeBuckets bs
  pub few_values : n.values ≤ limit
  pub few_buckets : n.buckets ≤ limit
  pub room : limit ≤ room_for_entries

-- what it leaves: the store t over the rows vs and bs, of which n were held
pub record Laid (vs bs : List ℕ) (n : Counts) (t : Store) (vs-end bs-end : List ℕ) (m : Counts) : Type 0 where
  pub values : HeldValues vs-end (lay blank_value (values_of vs) t.values n.values)
  pub buckets : HeldBuckets bs-end (lay blank_bucket (buckets_of bs) t.buckets n.buckets)
  pub some_values : m.values ≡ length t.values
  pub some_buckets : m.buckets ≡ length t.buckets

-- ---- answers

-- a value that was asked for, or "nothing"
abbrev pub found_of : code.Option ℕ → S.Found
found_of None = S.nothing
found_of (Some v) = S.found v

-- the next microstep, or none
abbrev pub next_of : code.Option ℕ → S.Found
next_of None = S.nothing
next_of (Some m) = S.found m

abbrev pub told : {A : Type 0} → Result Refusal A → code.Result Unit Refusal
told (done a) = Ok tt
told (refused r) = Err r

-- the store as given where a call is refused
abbrev pub after : Store → Result Refusal Store → Store
after s (done t) = t
after s (refused r) = s

-- refused, since as many are held as may be
abbrev pub overfull : Counts → Changed
overfull n = record { outcome = Err R.Held; held = n }

pub record Did (vs bs : List ℕ) (n : Counts) (r : Result Refusal Store) (vs-end bs-end : List ℕ) (c : Changed) : Type 0 where
  pub outcome : c.outcome ≡ told r
  pub laid : Laid vs bs n (after (store_of vs bs n) r) vs-end bs-end c.held
