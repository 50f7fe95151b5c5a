-- Each step keeps the rule.
use Rattle.std.proofs.Common.{◌≡◌, ◌≢◌, ⊎_elim, ℕ, zero, suc, ◌≤◌, ◌==◌, ◌||◌, Bool, true, false, true≢false, nat_le, List, [], ◌∷◌, ◌++◌, length, set, if◌then◌else◌, refl, sym, ap, ◌∙◌, subst, le_refl, le_trans, zero-le, arith, length-append}
use Rattle.std.specs.Prelude.{slice_index}
use Rattle.std.proofs.lemmas.Bool.Decides.{nat_tests}
use mathlib.Core.Option.{some, some-ne-none, some-injective}
use mathlib.Core.List.{IsPrefix}
use lib.ListN.{get_elem?}
use Rattle.crossbeam_utils.specs.Register.{Turns, Forks, Merges}
use Rattle.atomic_table.proofs.Lists.{at_set}
use Rattle.cat_threads.specs.history.Entries.{LogEntry, writes_of, has_session}
use Rattle.cat_threads.specs.history.Rules.{Old, Sight, scribe, caller, nobody, forget, under, noted, recorded, left_part, right_part, Each, OldFits, PassFits, Kept, Compared, Checked, Noted, Recorded, longer, greater, note_of, level, seating, seat_for}
use Rattle.cat_threads.proofs.history.Lists.{prefix_self, prefix_none, prefix_more, each_set, each_snoc, length_set, prefix_shorter, writes_of-other, writes_of-between, handed, handed-here, handed-else, seated_at, seated_at-here, seated_at-else}

off : {A : Type 0} → false ≡ true → A
off e = absurd (true≢false (sym e))

-- a pass that knows nothing fits anything
fits_nobody : (seat : ℕ) (log : List LogEntry) (t : ℕ) (seated : List ℕ) (owner : ℕ → ℕ) (by : ℕ) → PassFits seat log t seated owner by nobody
fits_nobody seat log t seated owner by = record { begins = prefix_none log; below = zero-le; whole = (λ c. off c); mine = (λ s c. off c); before = tt }

pub begins : Kept (0 ∷ 0 ∷ []) (scribe [] 0 [] [] ∷ [])
begins = record { seat = 0; log = []; seated = []; owner = (λ s. 0); counted = refl; strangers = (λ s c. refl); each = one }
  where
    first : PassFits 0 [] 0 [] (λ s. 0) 0 (scribe [] 0 [] [])
    first = record { begins = prefix_none []; below = zero-le; whole = (λ c. (refl, refl, refl, refl)); mine = (λ s c. off c); before = tt }

    one : (by : ℕ) (v : Sight) → get_elem? (scribe [] 0 [] [] ∷ []) by ≡ some v → PassFits 0 [] 0 [] (λ s. 0) by v
    one zero v e = subst (PassFits 0 [] 0 [] (λ s. 0) 0) (some-injective _ _ e) first
    one (suc by) v e = absurd (some-ne-none v (sym e))

-- a fact of each in a list gives another
each_map : {A : Type 0} {P Q : A → Type 0} → ((x : A) → P x → Q x) → (xs : List A) → Each P xs → Each Q xs
each_map f [] h = tt
each_map f (x ∷ xs) h = (f x h.0, each_map f xs h.1)

compared : (log : List LogEntry) (v : Sight) → ((s : ℕ) → has_session s v.own ≡ true → writes_of s log ≡ writes_of s v.list) → (o : Old) → OldFits log v o → Compared v o
compared log v mine o h = record { begins = h.begins; below = h.below; mine = (λ s c. let m = h.mine s c in sym (mine s m.0) ∙ m.1) }

pub checks : (by : ℕ) (v : Sight) → Turns Kept by v (λ x. x) Checked
checks by v words views h at =
    let f = h.each by v at in
    let fits : PassFits h.seat h.log (slice_index words 1) h.seated h.owner by (forget v) = record { begins = f.begins; below = f.below; whole = f.whole; mine = f.mine; before = tt } in (
      forget v,
      record {
        seat = h.seat;
        log = h.log;
        seated = h.seated;
        owner = h.owner;
        counted = h.counted;
        strangers = h.strangers;
        each = each_set (PassFits h.seat h.log (slice_index words 1) h.seated h.owner) views by (forget v) (λ j u apart e. h.each j u e) fits;
      },
      (refl, each_map (compared h.log v (λ s c. (f.mine s c).2)) v.olds f.before, (λ whole. let k = f.whole whole in λ s c. ap (writes_of s) k.1 ∙ h.strangers s (ap (λ (l : List ℕ). has_session s l) (sym k.3) ∙ c))),
    )

-- the number of the session is the entry's, so another pass's session isn't
apart_session : (owner : ℕ → ℕ) (by j s : ℕ) (e : LogEntry) → j ≢ by → owner e.session ≡ by → owner s ≡ j → (b : Bool) → (e.session == s) ≡ b → b ≡ false
apart_session owner by j s e apart mine theirs false is = refl
apart_session owner by j s e apart mine theirs true is = let same : e.session ≡ s = grind (arith, is) in absurd (apart (sym theirs ∙ (ap owner (sym same) ∙ mine)))

pub notes : (by : ℕ) (list : List LogEntry) (t : ℕ) (seated own : List ℕ) (e : LogEntry) (new : List ℕ)
    → has_session e.session own ≡ true → slice_index new 0 ≡ suc (length list) → slice_index new 1 ≡ t
    → Turns Kept by (scribe list t seated own) (λ _. new) (Noted e)
notes by list t seated own e new mine count same words views h at =
    let v = scribe list t seated own in
    let f = h.each by v at in
    let w = noted e v in
    let known = f.whole refl in
    let owned = f.mine e.session mine in
    let log = h.log ++ e ∷ [] in
    let more : list ++ e ∷ [] ≡ log = ap (λ l. l ++ e ∷ []) known.1 in
    let top : t ≡ slice_index new 1 = sym same in
    let was : t ≡ slice_index words 1 = known.2 in (
      w,
      record {
        seat = h.seat;
        log = log;
        seated = h.seated;
        owner = h.owner;
        counted = count ∙ (ap (λ l. suc (length l)) known.1 ∙ omega (arith, length-append h.log (e ∷ [])));
        strangers = (λ s c. writes_of-other s h.log e (stranger h.seated e s owned.1 c (e.session == s) refl) ∙ h.strangers s c);
        each = each_set (PassFits h.seat log (slice_index new 1) h.seated h.owner) views by w
            (λ j u apart at'. let g = h.each j u at' in record {
              begins = prefix_more u.list h.log (e ∷ []) g.begins;
              below = subst (λ (n : ℕ). u.token ≤ n) (sym was ∙ top) g.below;
              whole = (λ c. absurd (apart ((g.whole c).0 ∙ sym known.0)));
              mine = (λ s c. let m = g.mine s c in (m.0, m.1, writes_of-other s h.log e (apart_session h.owner by j s e apart owned.0 m.0 (e.session == s) refl) ∙ m.2));
              before = each_map (λ o (x : OldFits h.log u o). record { begins = x.begins; below = x.below; mine = (λ s c. let m = x.mine s c in (m.0, writes_of-other s h.log e (apart_session h.owner by j s e apart owned.0 (g.mine s m.0).0 (e.session == s) refl) ∙ m.1)) }) u.olds g.before;
            })
            record {
              begins = subst (λ l. IsPrefix (list ++ e ∷ []) l) more (prefix_self (list ++ e ∷ []));
              below = subst (λ (n : ℕ). n ≤ slice_index new 1) (sym top) (le_refl (slice_index new 1));
              whole = (λ c. (known.0, more, top, known.3));
              mine = (λ s c. let m = f.mine s c in (m.0, m.1, ap (writes_of s) (sym more)));
              before = tt;
            };
      },
      refl,
    )
  where
    stranger : (seated : List ℕ) (e : LogEntry) (s : ℕ) → has_session e.session seated ≡ true → has_session s seated ≡ false → (b : Bool) → (e.session == s) ≡ b → b ≡ false
    stranger seated e s p q false is = refl
    stranger seated e s p q true is = let same : e.session ≡ s = grind (arith, is) in off (sym q ∙ (ap (λ n. has_session n seated) (sym same) ∙ p))

pub records : (by : ℕ) (list : List LogEntry) (t : ℕ) (seated own : List ℕ) (new : List ℕ)
    → slice_index new 0 ≡ length list → t ≤ slice_index new 1
    → Turns Kept by (scribe list t seated own) (λ _. new) Recorded
records by list t seated own new count rises words views h at =
    let v = scribe list t seated own in
    let f = h.each by v at in
    let w = recorded (slice_index new 1) v in
    let known = f.whole refl in (
      w,
      record {
        seat = h.seat;
        log = h.log;
        seated = h.seated;
        owner = h.owner;
        counted = count ∙ ap length known.1;
        strangers = h.strangers;
        each = each_set (PassFits h.seat h.log (slice_index new 1) h.seated h.owner) views by w
            (λ j u apart at'. let g = h.each j u at' in record {
              begins = g.begins;
              below = le_trans g.below (subst (λ (n : ℕ). n ≤ slice_index new 1) known.2 rises);
              whole = (λ c. absurd (apart ((g.whole c).0 ∙ sym known.0)));
              mine = g.mine;
              before = g.before;
            })
            record { begins = f.begins; below = le_refl (slice_index new 1); whole = (λ c. (known.0, known.1, refl, known.3)); mine = f.mine; before = tt };
      },
      refl,
    )

-- a pass's sessions go to a new pass: other passes stay as they are
fits_handed : (seat : ℕ) (log : List LogEntry) (t : ℕ) (seated : List ℕ) (owner : ℕ → ℕ) (from to j : ℕ) (u : Sight) → j ≢ from → PassFits seat log t seated owner j u → PassFits seat log t seated (handed owner from to) j u
fits_handed seat log t seated owner from to j u apart f = record { begins = f.begins; below = f.below; whole = f.whole; mine = (λ s c. let m = f.mine s c in (handed-else owner from to s j apart m.0, m.1, m.2)); before = f.before }

-- a caller's pass as a whole
pub takes_whole : (by : ℕ) (v : Sight) → v.scribe ≡ false → Forks Kept by v nobody v
takes_whole by v plain words views h at =
    let f = h.each by v at in
    let n = length views in
    let owner = handed h.owner by n in
    let P = PassFits h.seat h.log (slice_index words 1) h.seated owner in
    record {
      seat = h.seat;
      log = h.log;
      seated = h.seated;
      owner = owner;
      counted = h.counted;
      strangers = h.strangers;
      each = each_snoc P (set views by nobody) n v (sym (length_set views by nobody))
          (λ j u lt e. each_set P views by nobody (λ i y apart at'. fits_handed h.seat h.log (slice_index words 1) h.seated h.owner by n i y apart (h.each i y at')) (fits_nobody h.seat h.log (slice_index words 1) h.seated owner by) j u e)
          record { begins = f.begins; below = f.below; whole = (λ c. off (sym plain ∙ c)); mine = (λ s c. let m = f.mine s c in (handed-here h.owner by n s m.0, m.1, m.2)); before = f.before };
    }

-- the joined pass comes apart
pub parts : (by : ℕ) (v : Sight) → Forks Kept by v (left_part v) (right_part v)
parts by v words views h at =
    let f = h.each by v at in
    let n = length views in
    let owner = handed h.owner by n in
    let P = PassFits h.seat h.log (slice_index words 1) h.seated owner in
    record {
      seat = h.seat;
      log = h.log;
      seated = h.seated;
      owner = owner;
      counted = h.counted;
      strangers = h.strangers;
      each = each_snoc P (set views by (left_part v)) n (right_part v) (sym (length_set views by (left_part v)))
          (λ j u lt e. each_set P views by (left_part v)
          (λ i y apart at'. fits_handed h.seat h.log (slice_index words 1) h.seated h.owner by n i y apart (h.each i y at'))
          record { begins = f.begins; below = f.below; whole = f.whole; mine = (λ s c. off c); before = tt } j u e)
          record { begins = f.begins; below = f.below; whole = (λ c. off c); mine = (λ s c. let m = f.mine s c in (handed-here h.owner by n s m.0, m.1, m.2)); before = tt };
    }

-- a caller's pass goes into the scribe's
pub goes_under : (by : ℕ) (list : List LogEntry) (t : ℕ) (seated : List ℕ) (other : ℕ) (w : Sight) → Merges Kept by (scribe list t seated []) other w (under (scribe list t seated []) w) nobody
goes_under by list t seated other w words views h at apart there =
    let v = scribe list t seated [] in
    let both = under v w in
    let f = h.each by v at in
    let known = f.whole refl in
    let g = ⊎_elim (λ (x : (other ≡ by) × (both ≡ w)). absurd (apart x.0)) (λ (x : (other ≢ by) × (get_elem? views other ≡ some w)). h.each other w x.1) (at_set views by other both w there) in
    let owner = handed h.owner other by in
    let P = PassFits h.seat h.log (slice_index words 1) h.seated owner in
    let fits : P by both = record {
      begins = f.begins;
      below = f.below;
      whole = f.whole;
      mine = (λ s c. let m = g.mine s c in (handed-here h.owner other by s m.0, m.1, ap (writes_of s) (sym known.1)));
      before = (
        record { begins = prefix_self list; below = le_refl t; mine = (λ s c. off c) },
        (
          record { begins = subst (λ l. IsPrefix w.list l) (sym known.1) g.begins; below = subst (λ (n : ℕ). w.token ≤ n) (sym known.2) g.below; mine = (λ s c. (c, (g.mine s c).2)) },
          tt,
        ),
      );
    } in
    record {
      seat = h.seat;
      log = h.log;
      seated = h.seated;
      owner = owner;
      counted = h.counted;
      strangers = h.strangers;
      each = each_set P (set views by both) other nobody
          (λ j u far e. each_set (λ i y. i ≢ other → P i y) views by both (λ i y off' at' far'. fits_handed h.seat h.log (slice_index words 1) h.seated h.owner other by i y far' (h.each i y at')) (λ _. fits) j u e far)
          (fits_nobody h.seat h.log (slice_index words 1) h.seated owner other);
    }

-- what a pass has seen, for another
pub gives_note : (by : ℕ) (v : Sight) → Forks Kept by v v (note_of v)
gives_note by v words views h at =
    let f = h.each by v at in
    let n = length views in
    let P = PassFits h.seat h.log (slice_index words 1) h.seated h.owner in
    record {
      seat = h.seat;
      log = h.log;
      seated = h.seated;
      owner = h.owner;
      counted = h.counted;
      strangers = h.strangers;
      each = each_snoc P (set views by v) n (note_of v) (sym (length_set views by v))
          (λ j u lt e. each_set P views by v (λ i y apart at'. h.each i y at') f j u e)
          record { begins = f.begins; below = f.below; whole = (λ c. off c); mine = (λ s c. off c); before = tt };
    }

-- whether a session is the new one
other_session : (s new : ℕ) (seated : List ℕ) → has_session new seated ≡ false → has_session s seated ≡ true → (b : Bool) → (new == s) ≡ b → b ≡ false
other_session s new seated free there false e = refl
other_session s new seated free there true e = let same : new ≡ s = grind (arith, e) in off (sym free ∙ (ap (λ n. has_session n seated) same ∙ there))

has_more : (s new : ℕ) (seated : List ℕ) → has_session s seated ≡ true → has_session s (new ∷ seated) ≡ true
has_more s new seated there = go (new == s)
  where
    go : (b : Bool) → (b || has_session s seated) ≡ true
    go true = refl
    go false = there

has_fewer : (s new : ℕ) (seated : List ℕ) → has_session s (new ∷ seated) ≡ false → has_session s seated ≡ false
has_fewer s new seated none = go (new == s) none
  where
    go : (b : Bool) → (b || has_session s seated) ≡ false → has_session s seated ≡ false
    go true e = off (sym e)
    go false e = e

has_one : (s new : ℕ) → has_session s (new ∷ []) ≡ true → (new == s) ≡ true
has_one s new there = go (new == s) there
  where
    go : (b : Bool) → (b || false) ≡ true → b ≡ true
    go true e = refl
    go false e = e

-- a session without a pass gets one
seats_one : (by : ℕ) (list : List LogEntry) (t : ℕ) (seated own : List ℕ) (new : ℕ) → has_session new seated ≡ false
    → Forks Kept by (scribe list t seated own) (seating new (scribe list t seated own)) (seat_for new (scribe list t seated own))
seats_one by list t seated own new free words views h at =
    let v = scribe list t seated own in
    let f = h.each by v at in
    let known = f.whole refl in
    let n = length views in
    let owner = seated_at h.owner new n in
    let now = new ∷ seated in
    let left = seating new v in
    let right = seat_for new v in
    let P = PassFits h.seat h.log (slice_index words 1) now owner in
    let free' : has_session new h.seated ≡ false = ap (has_session new) (sym known.3) ∙ free in
    let other = λ (s : ℕ) (there : has_session s h.seated ≡ true). other_session s new h.seated free' there (new == s) refl in
    record {
      seat = h.seat;
      log = h.log;
      seated = now;
      owner = owner;
      counted = h.counted;
      strangers = (λ s c. h.strangers s (ap (has_session s) (sym known.3) ∙ has_fewer s new seated c));
      each = each_snoc P (set views by left) n right (sym (length_set views by left))
          (λ j u lt e. each_set P views by left
          (λ i y apart at'. let g = h.each i y at' in record {
            begins = g.begins;
            below = g.below;
            whole = (λ c. absurd (apart ((g.whole c).0 ∙ sym known.0)));
            mine = (λ s c. let m = g.mine s c in (seated_at-else h.owner new n s i (other s m.1) m.0, has_more s new seated (ap (has_session s) known.3 ∙ m.1), m.2));
            before = g.before;
          })
          record {
            begins = f.begins;
            below = f.below;
            whole = (λ c. (known.0, known.1, known.2, refl));
            mine = (λ s c. let m = f.mine s c in (seated_at-else h.owner new n s by (other s m.1) m.0, has_more s new seated (ap (has_session s) known.3 ∙ m.1), m.2));
            before = tt;
          } j u e)
          record {
            begins = f.begins;
            below = f.below;
            whole = (λ c. off c);
            mine = (λ s c. let is = has_one s new c in (seated_at-here h.owner new n s (new == s) refl is, ap (λ (b : Bool). b || has_session s seated) is, ap (writes_of s) (sym known.1)));
            before = tt;
          };
    }

pub seats : (by : ℕ) (v : Sight) (new : ℕ) → v ≡ scribe v.list v.token v.seated v.own → has_session new v.seated ≡ false → Forks Kept by v (seating new v) (seat_for new v)
seats by v new is free = subst (λ (u : Sight). Forks Kept by u (seating new u) (seat_for new u)) (sym is) (seats_one by v.list v.token v.seated v.own new free)

longer_self : (xs ys zs : List LogEntry) → IsPrefix xs zs → IsPrefix ys zs → IsPrefix xs (longer xs ys) × IsPrefix ys (longer xs ys) × IsPrefix (longer xs ys) zs
longer_self xs ys zs p q = go (nat_le (length xs) (length ys)) refl
  where
    go : (b : Bool) → nat_le (length xs) (length ys) ≡ b → IsPrefix xs (if b then ys else xs) × IsPrefix ys (if b then ys else xs) × IsPrefix (if b then ys else xs) zs
    go true e = let le : length xs ≤ length ys = grind (arith, nat_tests, e) in (prefix_shorter xs ys zs p q le, prefix_self ys, q)
    go false e = let le : length ys ≤ length xs = grind (arith, nat_tests, e) in (prefix_self xs, prefix_shorter ys xs zs q p le, p)

greater_both : (m n t : ℕ) → m ≤ t → n ≤ t → (m ≤ greater m n) × (n ≤ greater m n) × (greater m n ≤ t)
greater_both m n t a b = go (nat_le m n) refl
  where
    go : (c : Bool) → nat_le m n ≡ c → (m ≤ (if c then n else m)) × (n ≤ (if c then n else m)) × ((if c then n else m) ≤ t)
    go true e = let le : m ≤ n = grind (arith, nat_tests, e) in (le, le_refl n, b)
    go false e = let le : n ≤ m = grind (arith, nat_tests, e) in (le_refl m, le, a)

-- a caller's pass with another's note
pub levels : (by : ℕ) (v : Sight) (other : ℕ) (w : Sight) → v.scribe ≡ false → w.own ≡ [] → Merges Kept by v other w (level v w) nobody
levels by v other w plain empty words views h at apart there =
    let both = level v w in
    let f = h.each by v at in
    let g = ⊎_elim (λ (x : (other ≡ by) × (both ≡ w)). absurd (apart x.0)) (λ (x : (other ≢ by) × (get_elem? views other ≡ some w)). h.each other w x.1) (at_set views by other both w there) in
    let l = longer_self v.list w.list h.log f.begins g.begins in
    let k = greater_both v.token w.token (slice_index words 1) f.below g.below in
    let P = PassFits h.seat h.log (slice_index words 1) h.seated h.owner in
    let fits : P by both = record {
      begins = l.2;
      below = k.2;
      whole = (λ c. off (sym plain ∙ c));
      mine = (λ s c. let m = f.mine s c in (m.0, m.1, writes_of-between s v.list (longer v.list w.list) h.log l.0 l.2 m.2));
      before = (
        record { begins = l.0; below = k.0; mine = (λ s c. (c, (f.mine s c).2)) },
        (record { begins = l.1; below = k.1; mine = (λ s c. off (ap (λ (x : List ℕ). has_session s x) (sym empty) ∙ c)) }, tt),
      );
    } in
    record {
      seat = h.seat;
      log = h.log;
      seated = h.seated;
      owner = h.owner;
      counted = h.counted;
      strangers = h.strangers;
      each = each_set P (set views by both) other nobody
          (λ j u far e. each_set P views by both (λ i y near at'. h.each i y at') fits j u e)
          (fits_nobody h.seat h.log (slice_index words 1) h.seated h.owner other);
    }

-- the steps at a view that is known
pub notes_as : (by : ℕ) (v : Sight) (e : LogEntry) (new : List ℕ) → v ≡ scribe v.list v.token v.seated v.own
    → has_session e.session v.own ≡ true → slice_index new 0 ≡ suc (length v.list) → slice_index new 1 ≡ v.token
    → Turns Kept by v (λ _. new) (Noted e)
notes_as by v e new is mine count same = subst (λ (u : Sight). Turns Kept by u (λ _. new) (Noted e)) (sym is) (notes by v.list v.token v.seated v.own e new mine count same)

pub records_as : (by : ℕ) (v : Sight) (new : List ℕ) → v ≡ scribe v.list v.token v.seated v.own
    → slice_index new 0 ≡ length v.list → v.token ≤ slice_index new 1 → Turns Kept by v (λ _. new) Recorded
records_as by v new is count rises = subst (λ (u : Sight). Turns Kept by u (λ _. new) Recorded) (sym is) (records by v.list v.token v.seated v.own new count rises)

pub goes_under_as : (by : ℕ) (v : Sight) (other : ℕ) (w : Sight) → v ≡ scribe v.list v.token v.seated [] → Merges Kept by v other w (under v w) nobody
goes_under_as by v other w is = subst (λ (u : Sight). Merges Kept by u other w (under u w) nobody) (sym is) (goes_under by v.list v.token v.seated other w)

pub levels_as : (by : ℕ) (v : Sight) (other : ℕ) (w : Sight) → v ≡ caller v.list v.token v.own → w.own ≡ [] → Merges Kept by v other w (level v w) nobody
levels_as by v other w is empty = levels by v other w (ap (λ (x : Sight). x.scribe) is) empty
