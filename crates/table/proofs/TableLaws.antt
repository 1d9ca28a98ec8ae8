-- What an accepted image has, as facts for later crates: one law for each rule of document 01, read off `Table`. Assumes nothing.
use mathlib.Core.Path.{◌≡◌, refl, sym, ap, ◌∙◌}
use mathlib.Core.Logic.{◌≢◌, ◌⊎◌, inl, inr, ⊎_elim}
use mathlib.Core.Bool.{Bool, true, false, not, cond, ◌&&◌, ◌||◌}
use Prim.Native.Nat.{ℕ, ◌≤◌, ◌<◌}
use native.Mathlib.Nat.{zero-add}
use native.Mathlib.Omega.{arith}
use lib.Dec.{ltb, leb, eqb, lit<}
use lib.ListN.{length, get_or}
use borrow.Author.Tests.{ltb-true, ltb-false, leb-true, eqb-true, eqb-false, eq-eqb, not-true, not-false}
use Rattle.lists.specs.Tests.{and_left, and_right, same?}
use Rattle.lists.specs.Lists.{every, every_at}
use Rattle.lists.specs.Scan.{scan_all}
use Rattle.lists.specs.Every.{no_way}
use Rattle.tags.specs.Tags.{within}
use Rattle.table_rows.specs.Bytes.{Image, be}
use Rattle.table_rows.specs.Kinds.{kind_of, kind_count, head_bytes, count, count_place, place, scope, reactor, mode, reaction, action, trigger, startup, reset, timer}
use Rattle.table_rows.specs.Limits.{versions, most, limits_fit}
use Rattle.table_rows.specs.Rows.{none, row_place, field, parent, scope_reactor, scope_mode, root_scope, initial_mode, mode_scope, mode_reactor, level, action_scope, logical}
use Rattle.table_rows.specs.Rows.{trigger_action, trigger_reaction, startup_scope, startup_action, startup_reaction, reset_scope, reset_reaction, timer_action}
use Rattle.table_rows.specs.Lineage.{in_subtree, under, subtree_end}
use Rattle.table.specs.Rules.{key, key_fields, key_exists, keys_exist, parent_rule, agrees, scope_rule, initial_rule, reactor_rule}
use Rattle.table.specs.Rules.{mode_rule, max_level, reaction_rule, action_rule, timer_tag, timer_rule, own_rule, row_rule}
use Rattle.table.specs.Check.{version, wrong_length, count_fits, bad_count, bad_row, kind_fits, bad_kind, check_rows, check}
use Rattle.table.specs.Table.{Table}
use Rattle.table.specs.Check.{Checked}
use Rattle.std.specs.Prelude.{Ok, Err}
use Rattle.table.specs.declared.ImageRefusal.{ImageRefusal}
use Rattle.table.specs.declared.ImageRefusal.TheVariants.{Length, Version, Short, Count, Unfilled, Row}

-- ---- from the check to the table

refused : {P : Type 0} (r : ImageRefusal) → ◌≡◌ {A = Checked} (Err r) (Ok tt) → P
refused r e = cc

-- a test that did not refuse
pub passed : {P : Type 0} (b : Bool) (r : ImageRefusal) (a : Checked) → cond b (Err r) a ≡ Ok tt → (b ≡ false → a ≡ Ok tt → P) → P
passed true r a e k = refused r e
passed false r a e k = k refl e

rows_kept : (s : Image) → check_rows s ≡ Ok tt → (k i : ℕ) → k < kind_count → i < count s k → row_rule s k i ≡ true
unfolding check_rows bad_kind kind_fits bad_row
rows_kept s e k i l m =
    passed (ltb (bad_kind s) kind_count) (Row (row_place s (bad_kind s) (bad_row s (bad_kind s)))) (Ok tt) e λ h q.
    let kept = rw zero-add at (scan_all (kind_fits s) kind_count 0 (ltb-false _ _ h) k l) in
    rw zero-add at (scan_all (row_rule s k) (count s k) 0 (rw (zero-add (count s k)) (leb-true _ _ kept)) i m)

pub table_of : (s : Image) → check s ≡ Ok tt → Table s
unfolding check bad_count
table_of s e =
    passed (wrong_length s) Length _ e λ a e.
    passed (not (eqb (be 1 s 4) version)) Version _ e λ b e.
    passed (ltb (length s) head_bytes) Short _ e λ c e.
    passed (ltb (bad_count s) kind_count) (Count (count_place (bad_count s))) _ e λ d e.
    passed (not (eqb (place s kind_count) (length s))) Unfilled _ e λ f e.
    record {
      versioned = eqb-true _ _ (not-false _ b);
      long = ltb-false _ _ c;
      counts = λ k l. rw zero-add at (scan_all (count_fits s) kind_count 0 (ltb-false _ _ d) k l);
      filled = eqb-true _ _ (not-false _ f);
      rules = rows_kept s e;
    }

-- ---- tests that hold

either : (a b : Bool) → (a || b) ≡ true → (a ≡ true) ⊎ (b ≡ true)
either true b e = inl refl
either false b e = inr e

second : (a b : Bool) → a ≡ false → (a || b) ≡ true → b ≡ true
second true b h e = cc
second false b h e = e

-- a scope that names a mode
pub record Named (s : Image) (i : ℕ) : Type 0 where
  pub exists : scope_mode s i < count s mode
  pub child : parent s i ≡ none → ⊥
  pub named_back : mode_scope s (scope_mode s i) ≡ i
  pub same_reactor : mode_reactor s (scope_mode s i) ≡ scope_reactor s i
  pub under_root : under s (root_scope s (scope_reactor s i)) i ≡ true

-- a reactor with an initial mode
pub record Initial (s : Image) (r : ℕ) : Type 0 where
  pub exists : initial_mode s r < count s mode
  pub own : mode_reactor s (initial_mode s r) ≡ r

module _ (s : Image) (t : Table s) where
  -- ---- "Most", and no fewer than the least

  pub count_least : (k : ℕ) → k < kind_count → (kind_of k).least ≤ count s k
  unfolding count_fits
  count_least k l = leb-true _ _ (and_left _ _ (t.counts k l))

  pub count_most : (k : ℕ) → k < kind_count → count s k ≤ most s k
  unfolding count_fits
  count_most k l = leb-true _ _ (and_right (leb (kind_of k).least (count s k)) _ (t.counts k l))

  -- ---- "Every other key must exist."

  kept : (j i : ℕ) → j < length key_fields → (let f = get_or key_fields j (key 0 0 0) in f.kind < kind_count → i < count s f.kind → field 2 s f.kind i f.offset < count s f.names)
  unfolding row_rule keys_exist key_exists
  kept j i h l m =
      let f = get_or key_fields j (key 0 0 0) in
      let e = every_at (key_exists s f.kind i) key_fields j (key 0 0 0) h (and_left _ _ (t.rules f.kind i l m)) in
      ltb-true _ _ (second (not (eqb f.kind f.kind)) _ (ap not (eq-eqb f.kind f.kind refl)) e)

  module _ (i : ℕ) where
    pub scope_reactor_lem : i < count s scope → scope_reactor s i < count s reactor
    unfolding key_fields
    scope_reactor_lem l = kept 0 i (lit< tt) (lit< tt) l

    pub reactor_root : i < count s reactor → root_scope s i < count s scope
    unfolding key_fields
    reactor_root l = kept 1 i (lit< tt) (lit< tt) l

    pub mode_scope_lem : i < count s mode → mode_scope s i < count s scope
    unfolding key_fields
    mode_scope_lem l = kept 2 i (lit< tt) (lit< tt) l

    pub mode_reactor_lem : i < count s mode → mode_reactor s i < count s reactor
    unfolding key_fields
    mode_reactor_lem l = kept 3 i (lit< tt) (lit< tt) l

    pub action_scope_lem : i < count s action → action_scope s i < count s scope
    unfolding key_fields
    action_scope_lem l = kept 4 i (lit< tt) (lit< tt) l

    pub trigger_action_lem : i < count s trigger → trigger_action s i < count s action
    unfolding key_fields
    trigger_action_lem l = kept 5 i (lit< tt) (lit< tt) l

    pub trigger_reaction_lem : i < count s trigger → trigger_reaction s i < count s reaction
    unfolding key_fields
    trigger_reaction_lem l = kept 6 i (lit< tt) (lit< tt) l

    pub startup_scope_lem : i < count s startup → startup_scope s i < count s scope
    unfolding key_fields
    startup_scope_lem l = kept 7 i (lit< tt) (lit< tt) l

    pub startup_action_lem : i < count s startup → startup_action s i < count s action
    unfolding key_fields
    startup_action_lem l = kept 8 i (lit< tt) (lit< tt) l

    pub startup_reaction_lem : i < count s startup → startup_reaction s i < count s reaction
    unfolding key_fields
    startup_reaction_lem l = kept 9 i (lit< tt) (lit< tt) l

    pub reset_scope_lem : i < count s reset → reset_scope s i < count s scope
    unfolding key_fields
    reset_scope_lem l = kept 10 i (lit< tt) (lit< tt) l

    pub reset_reaction_lem : i < count s reset → reset_reaction s i < count s reaction
    unfolding key_fields
    reset_reaction_lem l = kept 11 i (lit< tt) (lit< tt) l

    pub timer_action_lem : i < count s timer → timer_action s i < count s action
    unfolding key_fields
    timer_action_lem l = kept 12 i (lit< tt) (lit< tt) l

  -- ---- what else a row of each kind keeps

  own : (k i : ℕ) → k < kind_count → i < count s k → own_rule s k i ≡ true
  unfolding row_rule
  own k i l m = and_right (keys_exist s k i) _ (t.rules k i l m)

  module _ (i : ℕ) where
    scope_rule_lem : i < count s scope → scope_rule s i ≡ true
    unfolding own_rule
    scope_rule_lem l = own scope i (lit< tt) l

    -- "a parent is lower than its scope"
    pub parent_lower : i < count s scope → (parent s i ≡ none) ⊎ (parent s i < i)
    unfolding scope_rule parent_rule
    parent_lower l = go (either _ _ (and_left _ _ (scope_rule_lem l)))
      where
        go : (eqb (parent s i) none ≡ true) ⊎ (ltb (parent s i) i ≡ true) → (parent s i ≡ none) ⊎ (parent s i < i)
        go (inl e) = inl (eqb-true _ _ e)
        go (inr e) = inr (ltb-true _ _ e)

    named_of : agrees s i (parent s i) (scope_reactor s i) (scope_mode s i) ≡ true → Named s i
    unfolding agrees
    named_of e =
        let m = scope_mode s i in
        let e1 = and_right (ltb m (count s mode)) _ e in
        let e2 = and_right (not (eqb (parent s i) none)) _ e1 in
        let e3 = and_right (eqb (mode_scope s m) i) _ e2 in
        record {
          exists = ltb-true _ _ (and_left _ _ e);
          child = eqb-false _ _ (not-true _ (and_left _ _ e1));
          named_back = eqb-true _ _ (and_left _ _ e2);
          same_reactor = eqb-true _ _ (and_left _ _ e3);
          under_root = and_right (eqb (mode_reactor s m) (scope_reactor s i)) _ e3;
        }

    -- "a scope with a mode has a parent", "a mode and its scope agree on each other and on the reactor, and the scope lies strictly under the reactor's root scope"
    pub scope_named : i < count s scope → (scope_mode s i ≡ none) ⊎ Named s i
    unfolding scope_rule
    scope_named l = go (either _ _ (and_right (parent_rule s i) _ (scope_rule_lem l)))
      where
        go : (eqb (scope_mode s i) none ≡ true) ⊎ (agrees s i (parent s i) (scope_reactor s i) (scope_mode s i) ≡ true) → (scope_mode s i ≡ none) ⊎ Named s i
        go (inl e) = inl (eqb-true _ _ e)
        go (inr e) = inr (named_of e)

    -- "an initial mode is of that reactor"
    pub initial_mode_lem : i < count s reactor → (initial_mode s i ≡ none) ⊎ Initial s i
    unfolding own_rule reactor_rule initial_rule
    initial_mode_lem l = go (either _ _ (own reactor i (lit< tt) l))
      where
        go : (eqb (initial_mode s i) none ≡ true) ⊎ ((ltb (initial_mode s i) (count s mode) && eqb (mode_reactor s (initial_mode s i)) i) ≡ true) → (initial_mode s i ≡ none) ⊎ Initial s i
        go (inl e) = inl (eqb-true _ _ e)
        go (inr e) = inr (record { exists = ltb-true _ _ (and_left _ _ e); own = eqb-true _ _ (and_right (ltb (initial_mode s i) (count s mode)) _ e) })

    -- a mode's scope names it back
    pub mode_back : i < count s mode → scope_mode s (mode_scope s i) ≡ i
    unfolding own_rule mode_rule
    mode_back l = eqb-true _ _ (own mode i (lit< tt) l)

    -- "level is at most 15"
    pub level_most : i < count s reaction → level s i ≤ max_level
    unfolding own_rule reaction_rule
    level_most l = leb-true _ _ (own reaction i (lit< tt) l)

    -- "logical is 0 or 1"
    pub logical_most : i < count s action → logical s i ≤ 1
    unfolding own_rule action_rule
    logical_most l = leb-true _ _ (own action i (lit< tt) l)

    -- "a timer's tag is within limits"
    pub timer_within : i < count s timer → within (timer_tag s i) ≡ true
    unfolding own_rule timer_rule
    timer_within l = own timer i (lit< tt) l

  -- no mode's key is none
  pub mode_some : (m : ℕ) → m < count s mode → m ≡ none → ⊥
  unfolding versions every
  mode_some m l e = omega (arith, count_most mode (lit< tt), limits_fit (λ q. get_or q.most mode 0) none tt s)

  -- the scope of a mode names it, and agrees with it
  pub mode_named : (m : ℕ) → m < count s mode → Named s (mode_scope s m)
  mode_named m l = go (scope_named (mode_scope s m) (mode_scope_lem m l))
    where
      go : (scope_mode s (mode_scope s m) ≡ none) ⊎ Named s (mode_scope s m) → Named s (mode_scope s m)
      go (inl e) = absurd (mode_some m l (sym (mode_back m l) ∙ e))
      go (inr h) = h

  -- it has a parent, and so has every scope in its subtree
  pub mode_child : (m i : ℕ) → m < count s mode → i < count s scope → in_subtree s (mode_scope s m) i ≡ true → parent s i ≡ none → ⊥
  unfolding versions every
  mode_child m i l k h e = ⊎_elim self below (same? i (mode_scope s m))
    where
      self : i ≡ mode_scope s m → ⊥
      self q = (mode_named m l).child (rw q at e)

      below : i ≢ mode_scope s m → ⊥
      below n = no_way (subtree_end s (mode_scope s m) i n (sym e) (omega (arith, count_most scope (lit< tt), limits_fit (λ q. get_or q.most scope 0) none tt s)) ∙ h)
