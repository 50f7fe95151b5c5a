-- What a flush and a write leave.
use Rattle.std.proofs.Common.{◌≡◌, ◌≢◌, ℕ, suc, ◌+◌, ◌≤◌, ◌<◌, List, [], ◌∷◌, ◌++◌, length, map, take, drop, Bool, true, false, cond, not, Option, Some, None, refl, sym, ◌∙◌, ap, subst, arith, append-nil, append_assoc, inl, inr}
use Rattle.std.specs.List.{flat_map, filter, AllByRecursion}
use Rattle.std.proofs.lemmas.List.{take-append-le, drop-append-le, length-take, length-drop}
use Rattle.std.proofs.lemmas.List.Elements.{filter-append}
use Rattle.std.proofs.lemmas.Grind.{flat_map-append}
use Rattle.std.proofs.lemmas.Slice.Eq.{bytes_eq-Decides}
use Rattle.cat_model.specs.Item.{Item, Record}
use Rattle.cat_model.specs.Write.{Write, removes}
use Rattle.cat_model.specs.Table.{without, put_last, after}
use Rattle.cat_model.specs.Files.{Name}
use Rattle.cat_model.proofs.Lists.{All-weaken, All-both, All-kept}
use Rattle.cat_ledger_laws.specs.model.Portions.{Portion, live_records, records_of, all_records, Apart, ArePortions, all_live, live_after, portions_after, Reduced, Merging, portion_window_now, IsMergingOf, IsMerging}
use Rattle.cat_ledger_laws.specs.model.Users.{times, AreUsed}
use Rattle.cat_ledger_laws.specs.model.Ledger.{Ledger, IsPutRecord, IsLedger, IsWholeView, IsWholeCommit, state_of, table_of, names_used, names_of_portion, names_of_view, names_of_commit, names_of_merging, IsPast, NotOf, view_shown, commit_shown}
use Rattle.cat_ledger_laws.specs.model.Calls.{Flushed, wrote}
use Rattle.cat_ledger_laws.specs.model.Laws.{PutsItem, FlushesChangeNoState, WritesAreWritten}
use Rattle.cat_ledger_laws.proofs.model.Users.{All-split, Apart-split, Apart-join, times-append, times-flat, times-four, Four, All-four, All-of_four, recounted}
use Rattle.cat_ledger_laws.proofs.model.Alone.{fresh_apart, source_apart}
use Rattle.cat_ledger_laws.proofs.model.Marked.{marked-all, Full, Reduced-then, Reduced-take, Reduced-drop, Reduced-length, Reduced-after, records-after, rows-after}

-- ---- numbers that are past

pub past_more : (n g n' g' : ℕ) → n ≤ n' → g ≤ g' → (q : Name) → IsPast n g q → IsPast n' g' q
past_more n g n' g' h k (Name.segment m) p = (p.0, omega (arith, p.1))
past_more n g n' g' h k (Name.source m) p = (p.0, omega (arith, p.1))
past_more n g n' g' h k (Name.live m d) p = ((p.0.0, omega (arith, p.0.1)), (p.1.0, omega (arith, p.1.1)))
past_more n g n' g' h k (Name.commit d) p = (p.0, omega (arith, p.1))

pub four_more : (n g n' g' : ℕ) → n ≤ n' → g ≤ g' → (a b c d : List Name) → Four (IsPast n g) a b c d → Four (IsPast n' g') a b c d
four_more n g n' g' h k a b c d f = record {
  portions = All-weaken (IsPast n g) (IsPast n' g') (past_more n g n' g' h k) a f.portions;
  views = All-weaken (IsPast n g) (IsPast n' g') (past_more n g n' g' h k) b f.views;
  commits = All-weaken (IsPast n g) (IsPast n' g') (past_more n g n' g' h k) c f.commits;
  merging = All-weaken (IsPast n g) (IsPast n' g') (past_more n g n' g' h k) d f.merging;
}

pub numbers_past : (n g : ℕ) (ps : List Portion) → AllByRecursion (IsPast n g) (flat_map names_of_portion ps) → AllByRecursion (λ p. p.number < n) ps
numbers_past n g [] a = tt
numbers_past n g (p ∷ ps) a = (a.0.1, numbers_past n g ps a.1.1)

-- ---- a new last portion

module _ (n : ℕ) (rs : List Record) (ps : List Portion) where
  pub new_records : records_of (ps ++ all_live n rs ∷ []) ++ [] ≡ records_of ps ++ rs
  new_records = append-nil (records_of (ps ++ all_live n rs ∷ [])) ∙ flat_map-append live_records ps (all_live n rs ∷ []) ∙ ap (λ l. records_of ps ++ l) (append-nil (live_records (all_live n rs)) ∙ marked-all rs)

  pub new_rows : all_records (ps ++ all_live n rs ∷ []) ++ [] ≡ all_records ps ++ rs
  new_rows = append-nil (all_records (ps ++ all_live n rs ∷ [])) ∙ flat_map-append (λ p. p.records) ps (all_live n rs ∷ []) ∙ ap (λ l. all_records ps ++ l) (append-nil rs)

  length-true : (xs : List Record) → length (map (λ r. true) xs) ≡ length xs
  length-true [] = refl
  length-true (x ∷ xs) = ap suc (length-true xs)

  pub new_portions : ArePortions ps → AllByRecursion (λ p. p.number < n) ps → ArePortions (ps ++ all_live n rs ∷ [])
  new_portions ok low = record {
    lengths = All-both _ ps (all_live n rs ∷ []) ok.lengths (length-true rs, tt);
    numbers = Apart-join (λ p q. p.number ≢ q.number) ps (all_live n rs ∷ []) ok.numbers (tt, tt)
        (All-weaken (λ p. p.number < n) (λ p. AllByRecursion (λ q. p.number ≢ q.number) (all_live n rs ∷ [])) (λ p l. ((λ e. let less : p.number < n = l in omega arith), tt)) ps low);
  }

-- the window stays where portions come after it
pub window_stays : (m : Merging) (ps qs : List Portion) → IsMergingOf ps m → portion_window_now m (ps ++ qs) ≡ portion_window_now m ps
window_stays m ps qs ok =
    let whole : length (take (length m.inputs) (drop m.index ps)) ≡ length m.inputs = Reduced-length m.inputs (portion_window_now m ps) ok.stand in
    let left : length m.inputs ≤ length (drop m.index ps) = omega (arith, whole, length-take (length m.inputs) (drop m.index ps)) in
    let within : m.index ≤ length ps = omega (arith, left, ok.some, length-drop m.index ps) in
    ap (take (length m.inputs)) (drop-append-le m.index ps qs within) ∙ take-append-le (length m.inputs) (drop m.index ps) qs left

merging_stays : (n : ℕ) (rs : List Record) (ps : List Portion) (o : Option Merging) → AllByRecursion (λ q. (k : ℕ) → q ≡ Name.source k → k < n) (names_of_merging o) → IsMerging ps o → IsMerging (ps ++ all_live n rs ∷ []) o
merging_stays n rs ps None low ok = tt
merging_stays n rs ps (Some m) low ok = record {
  some = ok.some;
  stand = subst (Reduced m.inputs) (sym (window_stays m ps (all_live n rs ∷ []) ok)) ok.stand;
  lengths = ok.lengths;
  within = ok.within;
  kept = ok.kept;
  ids = ok.ids;
  free = All-both _ ps (all_live n rs ∷ []) ok.free ((λ e. let less : m.number < n = low.0 m.number refl in omega (arith, e)), tt);
}

sources_low : (n g : ℕ) (q : Name) → IsPast n g q → (k : ℕ) → q ≡ Name.source k → k < n
sources_low n g q p k e = let past : IsPast n g (Name.source k) = subst (IsPast n g) e p in past.1

pub flushed : (l new : Ledger) → IsLedger l → Flushed l new → IsLedger new × (state_of new ≡ state_of l) × (new.buffered ≡ [])
flushed l new ok call =
    let n : ℕ = l.next_segment in
    let p : Portion = all_live n l.buffered in
    let P : Name → Type 0 = IsPast n l.next_generation in
    let views : List Name = flat_map names_of_view l.views in
    let commits : List Name = flat_map names_of_commit l.commits in
    let making : List Name = names_of_merging l.merging in
    let past : Four P (flat_map names_of_portion l.portions) views commits making = All-four P _ _ _ _ ok.fresh in
    let more : Four (IsPast (n + 1) l.next_generation) (flat_map names_of_portion l.portions) views commits making = four_more n l.next_generation (n + 1) l.next_generation (omega arith) (omega arith) _ _ _ _ past in
    let balance : (q : Name) → times q (flat_map names_of_portion (l.portions ++ p ∷ []) ++ (views ++ (commits ++ making))) + times q [] ≡ times q (names_used l) + times q (names_of_portion p) = λ q. omega (
      arith,
      times-flat q names_of_portion l.portions (p ∷ []),
      times-append q (names_of_portion p) [],
      times-four q (flat_map names_of_portion (l.portions ++ p ∷ [])) views commits making,
      times-four q (flat_map names_of_portion l.portions) views commits making,
    ) in
    let new_apart : (o : Option Merging) → AllByRecursion P (names_of_merging o) → NotOf o (Name.segment n) = fresh_apart n l.next_generation in (
      subst IsLedger (sym call.rest) (record {
        portions = new_portions n l.buffered l.portions ok.portions (numbers_past n l.next_generation l.portions past.portions);
        views = ok.views;
        commits = ok.commits;
        generations = ok.generations;
        rows = subst (AllByRecursion (IsPutRecord l.schema l.count)) (sym (new_rows n l.buffered l.portions)) ok.rows;
        rising = subst (Apart (λ r s. r.number < s.number)) (sym (new_rows n l.buffered l.portions)) ok.rising;
        ids = subst (Apart (λ r s. r.item.id ≢ s.item.id)) (sym (new_records n l.buffered l.portions)) ok.ids;
        sound = ok.sound;
        merging = merging_stays n l.buffered l.portions l.merging (All-weaken P (λ q. (k : ℕ) → q ≡ Name.source k → k < n) (sources_low n l.next_generation) making past.merging) ok.merging;
        alone = record {
          portions = subst (AllByRecursion (NotOf l.merging)) (sym (flat_map-append names_of_portion l.portions (p ∷ [])))
              (All-both (NotOf l.merging) (flat_map names_of_portion l.portions) (names_of_portion p ++ []) ok.alone.portions (new_apart l.merging past.merging, (source_apart l.merging n (new_apart l.merging past.merging), tt)));
          views = ok.alone.views;
          commits = ok.alone.commits;
        };
        users = recounted (names_used l) (flat_map names_of_portion (l.portions ++ p ∷ []) ++ (views ++ (commits ++ making))) (names_of_portion p) [] l.users new.users ok.users call.users balance;
        fresh = All-of_four (IsPast (n + 1) l.next_generation) (flat_map names_of_portion (l.portions ++ p ∷ [])) views commits making (record {
          portions = subst (AllByRecursion (IsPast (n + 1) l.next_generation)) (sym (flat_map-append names_of_portion l.portions (p ∷ [])))
              (All-both (IsPast (n + 1) l.next_generation) (flat_map names_of_portion l.portions) (names_of_portion p ++ []) more.portions ((ok.numbers.0, omega arith), ((ok.numbers.0, omega arith), tt)));
          views = more.views;
          commits = more.commits;
          merging = more.merging;
        });
        numbers = (omega arith, ok.numbers.1);
        fits = (ok.fits.0, omega (arith, call.left), ok.fits.2);
      }),
      ap state_of call.rest ∙ (λ i. record { table = new_records n l.buffered l.portions i; count = l.count; views = map view_shown l.views; holds = l.holds; commits = map commit_shown l.commits; taken = l.taken }),
      ap (λ (x : Ledger). x.buffered) call.rest,
    )

pub flushes_change_no_state : FlushesChangeNoState
flushes_change_no_state l new ok (inl h) = (subst IsLedger (sym h.1) ok, ap state_of h.1, ap (λ (x : Ledger). x.buffered) h.1 ∙ h.0)
flushes_change_no_state l new ok (inr h) = flushed l new ok h

-- ---- a write

filter_passes : {X : Type 0} (p : X → Bool) (xs : List X) → AllByRecursion (λ x. p x ≡ true) (filter p xs)
filter_passes p [] = tt
filter_passes p (x ∷ xs) = by (p x) refl (filter_passes p xs)
  where
    by : (b : Bool) → p x ≡ b → AllByRecursion (λ x. p x ≡ true) (filter p xs) → AllByRecursion (λ x. p x ≡ true) (cond b (x ∷ filter p xs) (filter p xs))
    by true e a = (e, a)
    by false e a = a

pub Apart-filter : {X : Type 0} (R : X → X → Type 0) (p : X → Bool) (xs : List X) → Apart R xs → Apart R (filter p xs)
Apart-filter R p [] a = tt
Apart-filter R p (x ∷ xs) a = elim (p x) as (λ b. Apart R (cond b (x ∷ filter p xs) (filter p xs))) [
  | true ↦ (All-kept (R x) p xs a.0, Apart-filter R p xs a.1)
  | false ↦ Apart-filter R p xs a.1
]

put_last-append : (xs ys : List Record) (n : ℕ) (w : Write) → put_last (xs ++ ys) n w ≡ xs ++ put_last ys n w
put_last-append xs ys n (Write.put i) = append_assoc xs ys (record { number = n; item = i } ∷ [])
put_last-append xs ys n (Write.delete id) = refl
put_last-append xs ys n (Write.delete_where q) = refl

All-put_last : (P : Record → Type 0) (rs : List Record) (n : ℕ) (w : Write) → AllByRecursion P rs → ((i : Item) → w ≡ Write.put i → P (record { number = n; item = i })) → AllByRecursion P (put_last rs n w)
All-put_last P rs n (Write.put i) a f = All-both P rs (record { number = n; item = i } ∷ []) a (f i refl, tt)
All-put_last P rs n (Write.delete id) a f = a
All-put_last P rs n (Write.delete_where q) a f = a

Apart-put_last : (R : Record → Record → Type 0) (rs : List Record) (n : ℕ) (w : Write) → Apart R rs → ((i : Item) → w ≡ Write.put i → AllByRecursion (λ r. R r (record { number = n; item = i })) rs) → Apart R (put_last rs n w)
Apart-put_last R rs n (Write.put i) a f = Apart-join R rs (record { number = n; item = i } ∷ []) a (tt, tt) (All-weaken (λ r. R r (record { number = n; item = i })) (λ r. AllByRecursion (R r) (record { number = n; item = i } ∷ [])) (λ r h. (h, tt)) rs (f i refl))
Apart-put_last R rs n (Write.delete id) a f = a
Apart-put_last R rs n (Write.delete_where q) a f = a

not_true : (b : Bool) → not b ≡ true → b ≡ false
not_true true e = sym e
not_true false e = refl

other_id : (i : Item) (r : Record) → not (removes (Write.put i) r.item) ≡ true → r.item.id ≢ i.id
other_id i r e same = let yes : removes (Write.put i) r.item ≡ true = (bytes_eq-Decides i.id r.item.id).1 (sym same) in let no : false ≡ true = sym (not_true _ e) ∙ yes in cc

pub written_table : (l : Ledger) (w : Write) → table_of (wrote l w) ≡ after (table_of l) (l.count + 1) w
written_table l w =
    ap (λ rs. rs ++ put_last (without l.buffered w) (l.count + 1) w) (records-after w l.portions)
    ∙ sym (put_last-append (without (records_of l.portions) w) (without l.buffered w) (l.count + 1) w)
    ∙ ap (λ rs. put_last rs (l.count + 1) w) (sym (filter-append (λ r. not (removes w r.item)) (records_of l.portions) l.buffered))

portions_less : (w : Write) (ps : List Portion) → Reduced ps (portions_after w ps)
portions_less w ps = Reduced-after w ps

all_reduced : (P : Portion → Type 0) (ps qs : List Portion) → ((p q : Portion) → q.number ≡ p.number → P p → P q) → Reduced ps qs → AllByRecursion P ps → AllByRecursion P qs
all_reduced P [] [] f h a = tt
all_reduced P [] (q ∷ qs) f h a = absurd h
all_reduced P (p ∷ ps) [] f h a = absurd h
all_reduced P (p ∷ ps) (q ∷ qs) f h a = (f p q h.0 a.0, all_reduced P ps qs f h.3 a.1)

live_length : (w : Write) (bs : List Bool) (rs : List Record) → length (live_after w bs rs) ≡ length bs
live_length w [] rs = refl
live_length w (b ∷ bs) [] = refl
live_length w (b ∷ bs) (r ∷ rs) = ap suc (live_length w bs rs)

portions_written : (w : Write) (ps : List Portion) → ArePortions ps → ArePortions (portions_after w ps)
portions_written w ps ok = record { lengths = lengths ps ok.lengths; numbers = numbers ps ok.numbers }
  where
    lengths : (ps : List Portion) → Full ps → Full (portions_after w ps)
    lengths [] a = tt
    lengths (p ∷ ps) a = (live_length w p.live p.records ∙ a.0, lengths ps a.1)

    numbers : (ps : List Portion) → Apart (λ p q. p.number ≢ q.number) ps → Apart (λ p q. p.number ≢ q.number) (portions_after w ps)
    numbers [] a = tt
    numbers (p ∷ ps) a = (all_reduced (λ q. p.number ≢ q.number) ps (portions_after w ps) (λ x y e h k. h (k ∙ e)) (portions_less w ps) a.0, numbers ps a.1)

names_written : (w : Write) (ps : List Portion) → flat_map names_of_portion (portions_after w ps) ≡ flat_map names_of_portion ps
names_written w [] = refl
names_written w (p ∷ ps) = ap (λ ns. names_of_portion p ++ ns) (names_written w ps)

merging_written : (w : Write) (ps : List Portion) (o : Option Merging) → IsMerging ps o → IsMerging (portions_after w ps) o
merging_written w ps None ok = tt
merging_written w ps (Some m) ok = record {
  some = ok.some;
  stand = Reduced-then m.inputs (portion_window_now m ps) (portion_window_now m (portions_after w ps)) ok.stand (Reduced-take (length m.inputs) _ _ (Reduced-drop m.index ps (portions_after w ps) (portions_less w ps)));
  lengths = ok.lengths;
  within = ok.within;
  kept = ok.kept;
  ids = ok.ids;
  free = all_reduced (λ p. p.number ≢ m.number) ps (portions_after w ps) (λ p q e h k. h (sym e ∙ k)) (portions_less w ps) ok.free;
}

pub writes_are_written : WritesAreWritten
writes_are_written l w ok room fits =
    let rows : AllByRecursion (IsPutRecord l.schema l.count) (all_records l.portions) × AllByRecursion (IsPutRecord l.schema l.count) l.buffered = All-split (IsPutRecord l.schema l.count) (all_records l.portions) l.buffered ok.rows in
    let later : (r : Record) → IsPutRecord l.schema l.count r → IsPutRecord l.schema (l.count + 1) r = λ r h. record { positive = h.positive; seen = omega (arith, h.seen); item = h.item } in
    let R : Record → Record → Type 0 = λ r s. r.number < s.number in
    let rising = Apart-split R (all_records l.portions) l.buffered ok.rising in
    let rest : List Record = without l.buffered w in
    let same : all_records (portions_after w l.portions) ++ put_last rest (l.count + 1) w ≡ put_last (all_records l.portions ++ rest) (l.count + 1) w =
    ap (λ rs. rs ++ put_last rest (l.count + 1) w) (rows-after w l.portions) ∙ sym (put_last-append (all_records l.portions) rest (l.count + 1) w) in
    let kept_rows : AllByRecursion (IsPutRecord l.schema l.count) (all_records l.portions ++ rest) = All-both _ (all_records l.portions) rest rows.0 (All-kept _ _ l.buffered rows.1) in (
      record {
        portions = portions_written w l.portions ok.portions;
        views = All-weaken (IsWholeView l.schema l.count) (IsWholeView l.schema (l.count + 1)) (λ v h. (omega (arith, h.0), h.1)) l.views ok.views;
        commits = All-weaken (IsWholeCommit l.schema l.count) (IsWholeCommit l.schema (l.count + 1)) (λ c h. (omega (arith, h.0), h.1)) l.commits ok.commits;
        generations = ok.generations;
        rows = subst (AllByRecursion (IsPutRecord l.schema (l.count + 1))) (sym same)
            (All-put_last (IsPutRecord l.schema (l.count + 1)) (all_records l.portions ++ rest) (l.count + 1) w (All-weaken (IsPutRecord l.schema l.count) (IsPutRecord l.schema (l.count + 1)) later _ kept_rows)
            (λ i e. record { positive = omega arith; seen = omega arith; item = subst (PutsItem l.schema) e fits }));
        rising = subst (Apart R) (sym same)
            (Apart-put_last R (all_records l.portions ++ rest) (l.count + 1) w
            (Apart-join R (all_records l.portions) rest rising.0 (Apart-filter R _ l.buffered rising.1) (All-weaken (λ r. AllByRecursion (R r) l.buffered) (λ r. AllByRecursion (R r) rest) (λ r a. All-kept (R r) _ l.buffered a) (all_records l.portions) rising.2))
            (λ i e. All-weaken (IsPutRecord l.schema l.count) (λ r. r.number < l.count + 1) (λ r h. omega (arith, h.seen)) _ kept_rows));
        ids = subst (Apart (λ r s. r.item.id ≢ s.item.id)) (sym (written_table l w))
            (Apart-put_last (λ r s. r.item.id ≢ s.item.id) (without (table_of l) w) (l.count + 1) w (Apart-filter (λ r s. r.item.id ≢ s.item.id) _ (table_of l) ok.ids)
            (λ i e. All-weaken (λ r. not (removes w r.item) ≡ true) (λ r. r.item.id ≢ i.id) (λ r h. other_id i r (subst (λ v. not (removes v r.item) ≡ true) e h)) _ (filter_passes (λ r. not (removes w r.item)) (table_of l))));
        sound = ok.sound;
        merging = merging_written w l.portions l.merging ok.merging;
        alone = record { portions = subst (AllByRecursion (NotOf l.merging)) (sym (names_written w l.portions)) ok.alone.portions; views = ok.alone.views; commits = ok.alone.commits };
        users = subst (λ ns. AreUsed l.users (ns ++ (flat_map names_of_view l.views ++ (flat_map names_of_commit l.commits ++ names_of_merging l.merging)))) (sym (names_written w l.portions)) ok.users;
        fresh = subst (λ ns. AllByRecursion (IsPast l.next_segment l.next_generation) (ns ++ (flat_map names_of_view l.views ++ (flat_map names_of_commit l.commits ++ names_of_merging l.merging)))) (sym (names_written w l.portions)) ok.fresh;
        numbers = ok.numbers;
        fits = (omega (arith, room), ok.fits.1, ok.fits.2);
      },
      (λ i. record { table = written_table l w i; count = l.count + 1; views = map view_shown l.views; holds = l.holds; commits = map commit_shown l.commits; taken = l.taken }),
    )
