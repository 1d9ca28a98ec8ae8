-- What the next call ends of an entry, and what it leaves: the laws of `Ended`. Assumes nothing.
use Rattle.std.specs.Prelude.{ℕ, suc, ◌<◌, ◌≤◌, ◌&&◌, ◌≡◌, List, ltb, leb, eqb}
use Rattle.std.proofs.Math.Bool.{true, false}
use Rattle.std.proofs.Math.Path.{refl}
use Rattle.std.proofs.Common.{◌∙◌, arith}
use Rattle.std.proofs.Math.Decide.{dec_lt}
use borrow.Author.Tests.{lt-ltb, le-ltb, le-leb, lt-leb, leb-false, eq-eqb}
use Rattle.lists.specs.Tests.{and_no, lt_eqb, gt_eqb, gt_ltb}
use Rattle.lists.specs.Every.{by_test, no_way, not_both}
use Rattle.table_rows.specs.Bytes.{Image}
use Rattle.machine.specs.State.{Event}
use Rattle.machine.specs.Machine.{Call, pop, ok}
use Rattle.machine_history.specs.Deeds.{takes_in}
use Rattle.machine_history.specs.History.{most_turns, Fate, waits, popped, dropped, Entry, call_at, outcome, deed_at}
use Rattle.machine_history.specs.History.{is_waiting, is_taken, is_dropped, open_at, open_in, waits_at, waits_in, pop_takes, reset_drops}
use Rattle.machine_history.specs.History.{Fated, Ended, Right}
use Rattle.machine_history.specs.Marks.{fated, entry}
use Rattle.machine_history.specs.Pops.{not_taken}

module _ (img : Image) (cs : List Call) (n : ℕ) where
  -- an entry as the call at place n leaves it
  abbrev pub AtPop : Entry → ℕ → Type 0
  AtPop x r = is_taken n r x.fate ≡ (waits_in n r x && pop_takes img cs n r x.event)

  abbrev pub AtReset : Entry → Type 0
  AtReset x = is_dropped n x.fate ≡ (waits_at n x && reset_drops img cs n x.event)

  -- one call more
  pub ended_more : (x : Entry) → Ended img cs n x → ((r : ℕ) → AtPop x r) → AtReset x → Ended img cs (suc n) x
  ended_more x e p d = record { by_pop = λ m r l. pop_at_lem m r l (dec_lt m n); by_reset = λ m l. reset_at m l (dec_lt m n) }
    where
      pop_at_lem : (m r : ℕ) → m < suc n → Dec (m < n) → is_taken m r x.fate ≡ (waits_in m r x && pop_takes img cs m r x.event)
      pop_at_lem m r l (yes k) = e.by_pop m r k
      pop_at_lem m r l (no k) = let z : m ≡ n = omega arith in rw z (p r)

      reset_at : (m : ℕ) → m < suc n → Dec (m < n) → is_dropped m x.fate ≡ (waits_at m x && reset_drops img cs m x.event)
      reset_at m l (yes k) = e.by_reset m k
      reset_at m l (no k) = let z : m ≡ n = omega arith in rw z d

  -- an entry that had its fate before, or that the call does not touch
  pub past_pop : (x : Entry) (r : ℕ) → Fated img cs n x.by x.event x.fate → (is_waiting x.fate ≡ true → pop_takes img cs n r x.event ≡ false) → AtPop x r
  unfolding waits_in
  past_pop x r f h = go x.fate f h
    where
      go : (g : Fate) → Fated img cs n x.by x.event g → (is_waiting g ≡ true → pop_takes img cs n r x.event ≡ false) →
          is_taken n r g ≡ ((ltb x.by n && open_in n r g) && pop_takes img cs n r x.event)
      go waits f h = rw (h refl, and_no (ltb x.by n && true))
      go (popped m q) f h = rw (lt_eqb m n f.before, gt_ltb n m f.before, and_no (ltb x.by n))
      go (dropped m) f h = rw (lt-leb n m f.before, and_no (ltb x.by n))

  pub past_reset : (x : Entry) → Fated img cs n x.by x.event x.fate → (is_waiting x.fate ≡ true → reset_drops img cs n x.event ≡ false) → AtReset x
  unfolding waits_at
  past_reset x f h = go x.fate f h
    where
      go : (g : Fate) → Fated img cs n x.by x.event g → (is_waiting g ≡ true → reset_drops img cs n x.event ≡ false) →
          is_dropped n g ≡ ((ltb x.by n && open_at n g) && reset_drops img cs n x.event)
      go waits f h = rw (h refl, and_no (ltb x.by n && true))
      go (popped m q) f h = rw (lt-leb n m f.before, and_no (ltb x.by n))
      go (dropped m) f h = rw (lt_eqb m n f.before, lt-leb n m f.before, and_no (ltb x.by n))

  -- a new entry
  pub ended_new : (e : Event) → Ended img cs (suc n) (entry n e)
  unfolding waits_in waits_at
  ended_new e = record { by_pop = λ m r l. rw (le-ltb n m (omega arith)); by_reset = λ m l. rw (le-ltb n m (omega arith)) }

  -- an entry that gets its fate now: nothing is new before it
  pub ended_popped : (x : Entry) (r : ℕ) → is_waiting x.fate ≡ true → Ended img cs n x → Ended img cs n (fated x (popped n r))
  unfolding waits_in waits_at
  ended_popped x r w e = go x.fate w e
    where
      go : (g : Fate) → is_waiting g ≡ true → Ended img cs n (fated x g) → Ended img cs n (fated x (popped n r))
      go waits w e = record { by_pop = λ m q l. rw (gt_eqb n m l, lt-ltb m n l) (e.by_pop m q l); by_reset = λ m l. rw (le-leb m n (omega arith)) (e.by_reset m l) }
      go (popped m q) w e = no_way w
      go (dropped m) w e = no_way w

  pub ended_dropped : (x : Entry) → is_waiting x.fate ≡ true → Ended img cs n x → Ended img cs n (fated x (dropped n))
  unfolding waits_in waits_at
  ended_dropped x w e = go x.fate w e
    where
      go : (g : Fate) → is_waiting g ≡ true → Ended img cs n (fated x g) → Ended img cs n (fated x (dropped n))
      go waits w e = record { by_pop = λ m q l. rw (le-leb m n (omega arith)) (e.by_pop m q l); by_reset = λ m l. rw (gt_eqb n m l, le-leb m n (omega arith)) (e.by_reset m l) }
      go (popped m q) w e = no_way w
      go (dropped m) w e = no_way w

  -- the reset that drops it
  pub now_reset : (x : Entry) → x.by < n → reset_drops img cs n x.event ≡ true → AtReset (fated x (dropped n))
  unfolding waits_at
  now_reset x b d = rw (eq-eqb n n refl, lt-ltb x.by n b, le-leb n n (omega arith), d)

  pub no_pop : (x : Entry) → ((r : ℕ) → pop_takes img cs n r x.event ≡ false) → (r : ℕ) → AtPop (fated x (dropped n)) r
  no_pop x h r = rw (h r, and_no (waits_in n r (fated x (dropped n))))

  -- ---- the turns of a pop

  open_later : (r q : ℕ) (f : Fate) → r ≤ q → open_in n r f ≡ false → open_in n q f ≡ false
  open_later r q waits l o = o
  open_later r q (popped m p) l o =
      let z = not_both (ltb n m) (eqb m n && leb r p) o in
      rw z.0 (by_test (eqb m n) (λ e. rw e (lt-leb q p (omega (arith, leb-false r p (rw e at z.1))))) (λ e. rw e))
  open_later r q (dropped m) l o = o

  open_taken : (r : ℕ) (f : Fate) → open_in n r f ≡ false → is_taken n r f ≡ false
  open_taken r waits o = refl
  open_taken r (popped m p) o = not_taken n r (popped m p) (not_both (ltb n m) (eqb m n && leb r p) o).1
  open_taken r (dropped m) o = refl

  -- an entry, after r turns of the pop at place n
  pub record Amid (r : ℕ) (x : Entry) : Type 0 where
    pub before : x.by < n
    pub call : takes_in (deed_at img cs x.by) ≡ true
    pub ok : (outcome img cs x.by).reply ≡ ok
    pub fated : Fated img cs (suc n) x.by x.event x.fate
    pub ended : Ended img cs n x
    pub turns : (q : ℕ) → q < r → AtPop x q
    pub closed : is_waiting x.fate ≡ false → open_in n r x.fate ≡ false
    pub left : is_dropped n x.fate ≡ false

  pub amid_hit :
      (x : Entry) (r : ℕ) → call_at cs n ≡ pop → r ≤ most_turns → Amid r x → is_waiting x.fate ≡ true → pop_takes img cs n r x.event ≡ true →
      Amid (suc r) (fated x (popped n r))
  unfolding waits_in
  amid_hit x r call l a w t =
      record {
        before = a.before;
        call = a.call;
        ok = a.ok;
        fated = record { after = a.before; before = omega arith; call = call; turn = l };
        ended = ended_popped x r w a.ended;
        turns = λ q k. turn_at q k (dec_lt q r);
        closed = λ z. rw (le-ltb n n (omega arith), eq-eqb n n refl) (lt-leb (suc r) r (omega arith));
        left = refl;
      }
    where
      was : (g : Fate) (q : ℕ) → is_waiting g ≡ true → AtPop (fated x g) q → AtPop (fated x waits) q
      was waits q w e = e
      was (popped m p) q w e = no_way w
      was (dropped m) q w e = no_way w

      turn_at : (q : ℕ) → q < suc r → Dec (q < r) → AtPop (fated x (popped n r)) q
      turn_at q k (yes d) = rw (eq-eqb n n refl, gt_eqb r q d, le-ltb n n (omega arith), le-leb q r (omega arith)) (was x.fate q w (a.turns q d))
      turn_at q k (no d) =
          let z : q ≡ r = omega arith in
          rw (z, eq-eqb n n refl, eq-eqb r r refl, le-ltb n n (omega arith), le-leb r r (omega arith), lt-ltb x.by n a.before, t)

  -- no turn from r on takes it
  quiet : (x : Entry) (r q : ℕ) → r ≤ q → Amid r x → (is_waiting x.fate && pop_takes img cs n q x.event) ≡ false → AtPop x q
  unfolding waits_in
  quiet x r q l a z = go x.fate a.closed z
    where
      shut : (g : Fate) → open_in n r g ≡ false → is_taken n q g ≡ ((ltb x.by n && open_in n q g) && pop_takes img cs n q x.event)
      shut g o = rw (open_taken q g (open_later r q g l o), open_later r q g l o, and_no (ltb x.by n))

      go : (g : Fate) → (is_waiting g ≡ false → open_in n r g ≡ false) → (is_waiting g && pop_takes img cs n q x.event) ≡ false →
          is_taken n q g ≡ ((ltb x.by n && open_in n q g) && pop_takes img cs n q x.event)
      go waits c z = rw (z, and_no (ltb x.by n && true))
      go (popped m p) c z = shut (popped m p) (c refl)
      go (dropped m) c z = shut (dropped m) (c refl)

  pub amid_miss : (x : Entry) (r : ℕ) → Amid r x → (is_waiting x.fate && pop_takes img cs n r x.event) ≡ false → Amid (suc r) x
  amid_miss x r a z =
      record {
        before = a.before;
        call = a.call;
        ok = a.ok;
        fated = a.fated;
        ended = a.ended;
        turns = λ q k. turn_at q k (dec_lt q r);
        closed = λ w. open_later r (suc r) x.fate (omega arith) (a.closed w);
        left = a.left;
      }
    where
      turn_at : (q : ℕ) → q < suc r → Dec (q < r) → AtPop x q
      turn_at q k (yes d) = a.turns q d
      turn_at q k (no d) = let y : q ≡ r = omega arith in rw y (quiet x r r (omega arith) a z)

  -- before the first turn, and after the last
  pub amid_first : (x : Entry) → Right img cs n x → Fated img cs (suc n) x.by x.event x.fate → Amid 0 x
  amid_first x r f =
      record {
        before = r.before;
        call = r.call;
        ok = r.ok;
        fated = f;
        ended = r.ended;
        turns = λ q k. absurd (omega arith);
        closed = go x.fate r.fated;
        left = stays x.fate r.fated;
      }
    where
      go : (g : Fate) → Fated img cs n x.by x.event g → is_waiting g ≡ false → open_in n 0 g ≡ false
      go waits f w = w
      go (popped m q) f w = rw (lt_eqb m n f.before, gt_ltb n m f.before)
      go (dropped m) f w = lt-leb n m f.before

      stays : (g : Fate) → Fated img cs n x.by x.event g → is_dropped n g ≡ false
      stays waits f = refl
      stays (popped m q) f = refl
      stays (dropped m) f = lt_eqb m n f.before

  pub amid_last : (x : Entry) (r : ℕ) → Amid r x → ((q : ℕ) → r ≤ q → pop_takes img cs n q x.event ≡ false) → reset_drops img cs n x.event ≡ false → Right img cs (suc n) x
  amid_last x r a over d =
      record {
        before = omega (arith, a.before);
        call = a.call;
        ok = a.ok;
        fated = a.fated;
        ended = ended_more x a.ended (λ q. turn_at q (dec_lt q r)) (a.left ∙ rw (d, and_no (waits_at n x)));
      }
    where
      turn_at : (q : ℕ) → Dec (q < r) → AtPop x q
      turn_at q (yes k) = a.turns q k
      turn_at q (no k) = quiet x r q (omega arith) a (rw (over q (omega arith)) (and_no (is_waiting x.fate)))
