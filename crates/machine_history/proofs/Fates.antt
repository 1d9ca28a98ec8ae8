-- Demand 3 holds of any run of calls from a fresh manager over an accepted table. Assumes nothing else.
use Rattle.std.specs.Prelude.{ℕ, zero, suc, ◌<◌, ◌≤◌, Bool, true, false, cond, ◌&&◌, ◌≡◌, List, [], ◌∷◌, ◌++◌, map, eqb, length, take}
use Rattle.std.proofs.Math.Path.{refl, ap}
use Rattle.std.proofs.Common.{◌∙◌, sym, le_refl}
use Rattle.std.proofs.lemmas.List.{map-append}
use native.Mathlib.Omega.{arith}
use Rattle.std.proofs.Math.Decide.{dec_lt}
use Rattle.std.proofs.Math.Seq.{take-length}
use borrow.Author.Tests.{lt-ltb, lt-leb}
use Rattle.lists.specs.Lists.{keep, count}
use Rattle.table_rows.specs.Bytes.{Image}
use Rattle.table.specs.Check.{is_table}
use Rattle.machine.specs.State.{ordinary, fresh}
use Rattle.machine.specs.Machine.{Call, pop, ordinary_work, number, perform, step, run}
use Rattle.lists.specs.Every.{count_map}
use Rattle.machine_rules_kept.specs.Kept.{rules_tell, own_rules}
use Rattle.machine_rules_kept.specs.Never.{own_performs}
use Rattle.lists.specs.Each.{Each, each_imp, each_at, keep_same}
use Rattle.lists.proofs.Each.{count_keep}
use Rattle.machine_history.specs.Deeds.{bare}
use Rattle.machine_history.specs.History.{most_turns, Fate, waits, popped, dropped, Entry, History, moment}
use Rattle.machine_history.specs.History.{call_at, outcome, new_by, reset_drops, is_waiting, is_dropped, open_at, waits_at, waits_through}
use Rattle.machine_history.specs.History.{taken_by, Fated, Right, Handed, in_order, Told}
use Rattle.machine_history.specs.Marks.{events_of, now_in, waits_blind, names_blind, taken_later}
use Rattle.machine_history.specs.Grown.{bares}
use Rattle.machine_history.specs.Accepted.{by_call}
use Rattle.machine_history.specs.Calls.{After}
use Rattle.machine_history.proofs.Calls.{one_call}
use Rattle.machine_history.specs.Fates.{run_next}

-- ---- places

keep_both : {A B : Type 0} (f : A → B) (p : A → Bool) (q : B → Bool) (l : List A) → map f (keep (λ a. p a && q (f a)) l) ≡ keep q (map f (keep p l))
unfolding keep
keep_both f p q [] = refl
keep_both f p q (a ∷ l) = go (p a) (q (f a)) refl (keep_both f p q l)
  where
    go : (b c : Bool) → q (f a) ≡ c → map f (keep (λ a. p a && q (f a)) l) ≡ keep q (map f (keep p l)) →
        map f (cond (b && c) (a ∷ keep (λ a. p a && q (f a)) l) (keep (λ a. p a && q (f a)) l)) ≡ keep q (map f (cond b (a ∷ keep p l) (keep p l)))
    go true true e r = rw (e, r)
    go true false e r = rw (e, r)
    go false c e r = r

-- ---- after n calls

module _ (img : Image) (table : is_table img ≡ true) (cs : List Call) where
  record Story (n : ℕ) : Type 0 where
    history : History
    order : in_order 0 history ≡ true
    each : Each (Right img cs n) history
    moments : (m : ℕ) → m ≤ n → bares (moment img cs m) ≡ events_of (keep (waits_at m) history)
    made : (m : ℕ) → m < n → events_of (keep (λ x. eqb x.by m) history) ≡ new_by img cs m
    pops : (m : ℕ) → m < n → call_at cs m ≡ pop → Handed img (moment img cs m) (outcome img cs m).reply (taken_by m history)

  -- what waits after n calls has no other fate yet
  at_now : (n : ℕ) (h : History) → Each (Right img cs n) h → events_of (keep (waits_at n) h) ≡ now_in h
  unfolding waits_at
  at_now n h e =
      ap events_of
      (keep_same (waits_at n) (λ x. is_waiting x.fate) h (each_imp (Right img cs n) (λ x. waits_at n x ≡ is_waiting x.fate)
      (λ x r. rw (lt-ltb x.by n r.before) (go x x.fate r.fated)) h e))
    where
      go : (x : Entry) (f : Fate) → Fated img cs n x.by x.event f → open_at n f ≡ is_waiting f
      go x waits r = refl
      go x (popped m q) r = lt-leb n m r.before
      go x (dropped m) r = lt-leb n m r.before

  begun : Story 0
  unfolding keep in_order run fresh
  begun = record { history = []; order = refl; each = tt; moments = λ m l. let z : m ≡ 0 = omega arith in rw z; made = λ m l. absurd (omega arith); pops = λ m l. absurd (omega arith) }

  next : (n : ℕ) → n < length cs → Story n → Story (suc n)
  next n l y = ended (one_call img table cs n y.history (y.moments n (le_refl n) ∙ at_now n y.history y.each) y.each y.order)
    where
      ended : After img cs n y.history → Story (suc n)
      ended a =
          record {
            history = a.history;
            order = a.order;
            each = a.each;
            moments = λ m k. moment_at m k (dec_lt m (suc n));
            made = λ m k. made_at m k (dec_lt m n);
            pops = λ m k. pop_at_lem m k (dec_lt m n);
          }
        where
          moment_at : (m : ℕ) → m ≤ suc n → Dec (m < suc n) → bares (moment img cs m) ≡ events_of (keep (waits_at m) a.history)
          moment_at m k (yes d) = y.moments m (omega arith) ∙ sym (a.later.told (waits_at m) (waits_blind m n (omega arith)))
          moment_at m k (no d) =
              let z : m ≡ suc n = omega arith in
              rw z (ap bares (run_next img cs (fresh img) n l) ∙ (a.now ∙ sym (at_now (suc n) a.history a.each)))

          made_at : (m : ℕ) → m < suc n → Dec (m < n) → events_of (keep (λ x. eqb x.by m) a.history) ≡ new_by img cs m
          made_at m k (yes d) = a.later.told (λ x. eqb x.by m) (names_blind m n d) ∙ y.made m d
          made_at m k (no d) = let z : m ≡ n = omega arith in rw z a.made

          pop_at_lem : (m : ℕ) → m < suc n → Dec (m < n) → call_at cs m ≡ pop → Handed img (moment img cs m) (outcome img cs m).reply (taken_by m a.history)
          pop_at_lem m k (yes d) p = rw (taken_later m n y.history a.history d a.later (suc most_turns)) (y.pops m d p)
          pop_at_lem m k (no d) p = let z : m ≡ n = omega arith in rw z (a.handed (rw z at p))

  up_to : (n : ℕ) → n ≤ length cs → Story n
  up_to zero l = begun
  up_to (suc n) l = next n l (up_to n (omega arith))

  -- ---- what a call accepted

  accepted_at_lem :
      (n : ℕ) (h : History) → n < length cs → in_order 0 h ≡ true → Each (Right img cs (length cs)) h → bares (moment img cs (suc n)) ≡ events_of (keep (waits_at (suc n)) h) →
      bares (outcome img cs n).state ≡ events_of (keep (waits_through n) h) ++ events_of (keep (λ x. eqb x.by n) h)
  accepted_at_lem n h l o e m =
      ap bares (sym (run_next img cs (fresh img) n l)) ∙
      (m ∙ (ap events_of (by_call img cs n (length cs) h 0 o e) ∙ map-append (λ x. x.event) (keep (waits_through n) h) (keep (λ x. eqb x.by n) h)))

  -- ---- what a reset dropped

  dropped_at :
      (n : ℕ) (h : History) → n < length cs → Each (Right img cs (length cs)) h → bares (moment img cs n) ≡ events_of (keep (waits_at n) h) →
      events_of (keep (λ x. is_dropped n x.fate) h) ≡ keep (reset_drops img cs n) (bares (moment img cs n))
  dropped_at n h l e m =
      ap events_of
      (keep_same (λ x. is_dropped n x.fate) (λ x. waits_at n x && reset_drops img cs n x.event) h
      (each_imp (Right img cs (length cs)) (λ x. is_dropped n x.fate ≡ (waits_at n x && reset_drops img cs n x.event)) (λ x r. r.ended.by_reset n l) h e)) ∙
      (keep_both (λ x. x.event) (waits_at n) (reset_drops img cs n) h ∙ ap (keep (reset_drops img cs n)) (sym m))

  -- ---- the reported work

  work_at : (n : ℕ) (h : History) → bares (moment img cs n) ≡ events_of (keep (waits_at n) h) →
      (step img (moment img cs n) ordinary_work).reply ≡ number (count (λ x. waits_at n x && ordinary x.event) h)
  unfolding perform
  work_at n h e =
      let s = moment img cs n in
      ap (λ o. o.reply) (own_performs img table (take n cs) ordinary_work) ∙
      ap number
      ((rules_tell img s (own_rules img table (take n cs))).sound.queued.work ∙
      (sym (count_map bare ordinary ordinary (unfold ordinary in λ e. refl) s.waiting) ∙ (ap (count ordinary) e ∙ count_keep (λ x. x.event) ordinary (waits_at n) h)))

-- "each event ever accepted, pushed by a caller or made by a transition, has been handed out by one pop, or dropped by one reset, or waits in one queue,
-- and only one of these holds. .. The reported ordinary work equals the waiting events that are neither terminal nor control, counted from that history."
pub fates : (img : Image) → is_table img ≡ true → (cs : List Call) → (h : History) × Told img cs h
fates img table cs = told (up_to img table cs (length cs) (le_refl (length cs)))
  where
    told : Story img table cs (length cs) → (h : History) × Told img cs h
    told y = (
      y.history,
      record {
        order = y.order;
        made = y.made;
        fate = λ k d l. each_at (Right img cs (length cs)) y.history d k l y.each;
        waiting = y.moments;
        accepted = λ n l. accepted_at_lem img table cs n y.history l y.order y.each (y.moments (suc n) l);
        still = ap (λ l. bares (run img (fresh img) l)) (sym (take-length cs)) ∙ (y.moments (length cs) (le_refl (length cs)) ∙ at_now img table cs (length cs) y.history y.each);
        pops = y.pops;
        resets = λ n l. dropped_at img table cs n y.history l y.each (y.moments n (omega arith));
        work = λ n l. work_at img table cs n y.history (y.moments n l);
      },
    )
