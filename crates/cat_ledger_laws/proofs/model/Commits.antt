-- What commits and snapshots leave, and what an opened commit is.
use Rattle.std.proofs.Common.{◌≡◌, ◌≢◌, ℕ, zero, suc, ◌+◌, ◌<◌, List, [], ◌∷◌, ◌++◌, map, Bool, true, false, cond, ◌&&◌, ◌||◌, Option, Some, None, refl, sym, ◌∙◌, ap, ap₂, subst, arith, append-nil, inl, inr}
use Rattle.std.specs.Prelude.{ltb, ◌==◌, ◌⊎◌, AllPairs, option_to_list}
use Rattle.std.specs.List.{flat_map, filter, last_or, AllByRecursion}
use Rattle.std.proofs.lemmas.Bool.Decides.{nat_tests, eqb_tells}
use Rattle.std.proofs.lemmas.List.{map-append}
use Rattle.std.proofs.lemmas.List.Elements.{All-from_recursion}
use Rattle.std.proofs.lemmas.List.Kept.{AllPairs-cons}
use Rattle.std.proofs.lemmas.Grind.{flat_map-append}
use Rattle.cat_model.specs.Item.{Record}
use Rattle.cat_model.specs.Files.{Name}
use Rattle.cat_model.specs.View.{selected}
use Rattle.cat_model.specs.State.{Commit, newest_of, newest_told, is_below, snapshots_in, stays_kept, commits_kept, commit_now, IsSound, is_newest}
use Rattle.cat_model.proofs.Lists.{All-weaken, All-both, All-kept}
use Rattle.cat_model.proofs.Commits.{newest-pushed, filter_last, is_newest-self}
use Rattle.cat_ledger_laws.specs.model.Portions.{Portion, records_of, all_records, lives_of, Apart, Merging, IsMerging}
use Rattle.cat_ledger_laws.specs.model.Users.{times}
use Rattle.cat_model.specs.CommitFile.{live_names}
use Rattle.cat_ledger_laws.specs.model.Ledger.{Listed, LedgerCommit, IsPutRecord, AreWhole, IsLedger, IsWholeView, IsWholeCommit, portions_in, state_of, table_of, names_used, names_of_portion, names_of_view, names_of_listed, names_of_commit, names_of_merging, IsPast, NotOf, IsAlone, view_shown, commit_shown}
use Rattle.cat_ledger_laws.specs.model.Calls.{all_alive, same_live, portion_file_in, portion_file_for, listed_in, newest_listed, commit_of, commits_that, commits_not, newest_in}
use Rattle.cat_ledger_laws.specs.model.Laws.{CommitsAreKept, SnapshotsAreTaken, SnapshotsAreGiven, OpenedAreFresh}
use Rattle.cat_ledger_laws.proofs.model.Alone.{nobody_alone}
use Rattle.cat_ledger_laws.proofs.model.Marked.{All-marked, Apart-marked, Apart-kept, records-marked}
use Rattle.cat_ledger_laws.proofs.model.Users.{All-split, Apart-join, times-append, times-flat, times-four, Four, All-four, All-of_four, recounted}
use Rattle.cat_ledger_laws.proofs.model.Flushes.{four_more}
use Rattle.cat_ledger_laws.proofs.model.Views.{map-filter, times-parted, All-flat_kept, whole_now}

-- ---- the newest commit

abbrev Rising : LedgerCommit → LedgerCommit → Type 0
Rising c d = c.generation < d.generation

last_below : (g : ℕ) (o : Option ℕ) (ks : List ℕ) → is_below o g ≡ true → AllByRecursion (λ k. k < g) ks → is_below (last_or o ks) g ≡ true
last_below g o [] h a = h
last_below g o (k ∷ ks) h a = last_below g (Some k) ks (let less : k < g = a.0 in grind (arith, nat_tests)) a.1

generations_low : (n g : ℕ) (cs : List LedgerCommit) → AllByRecursion (IsPast n g) (flat_map names_of_commit cs) → AllByRecursion (λ k. k < g) (map (λ (c : Commit). c.generation) (map commit_shown cs))
generations_low n g [] a = tt
generations_low n g (c ∷ cs) a = let r = All-split (IsPast n g) (names_of_commit c) (flat_map names_of_commit cs) a in (r.0.0.1, generations_low n g cs r.1)

-- a commit of the next generation is above all others
rise_to : (n g : ℕ) (c : LedgerCommit) → c.generation ≡ g → (cs : List LedgerCommit) → AllByRecursion (IsPast n g) (flat_map names_of_commit cs) → AllByRecursion (λ d. AllByRecursion (Rising d) (c ∷ [])) cs
rise_to n g c e [] a = tt
rise_to n g c e (d ∷ cs) a = let r = All-split (IsPast n g) (names_of_commit d) (flat_map names_of_commit cs) a in let less : d.generation < g = r.0.0.1 in ((omega (arith, e), tt), rise_to n g c e cs r.1)

pub newest_all : (P : Name → Type 0) (o : Option LedgerCommit) (cs : List LedgerCommit) → AllByRecursion P (flat_map names_of_listed (listed_in o)) → AllByRecursion P (flat_map names_of_commit cs) → AllByRecursion P (flat_map names_of_listed (listed_in (last_or o cs)))
newest_all P o [] h a = h
newest_all P o (c ∷ cs) h a = let r = All-split P (names_of_commit c) (flat_map names_of_commit cs) a in newest_all P (Some c) cs r.0.1 r.1

-- ---- the portions and names of a commit of now

module _ (xs : List Listed) (g : ℕ) where
  listed : Portion → Listed
  listed p = record { portion = p; file = portion_file_for xs g p }

  pub portions_listed : (ps : List Portion) → map (λ (x : Listed). x.portion) (map (λ p. record { portion = p; file = portion_file_for xs g p }) ps) ≡ ps
  portions_listed [] = refl
  portions_listed (p ∷ ps) = ap (λ l. p ∷ l) (portions_listed ps)

file_past : (n g : ℕ) (xs : List Listed) (p : Portion) → AllByRecursion (IsPast n g) (flat_map names_of_listed xs) → portion_file_in xs p < g + 1
file_past n g [] p a = omega arith
file_past n g (x ∷ xs) p a =
    let r = All-split (IsPast n g) (names_of_listed x) (flat_map names_of_listed xs) a in
    by ((x.portion.number == p.number) && same_live x.portion.live p.live) (own (x.file == 0) (eqb_tells x.file 0) r.0.1.1) (file_past n g xs p r.1)
  where
    own : (b : Bool) → (((x.file == 0) ≡ true) × (x.file ≡ 0)) ⊎ (((x.file == 0) ≡ false) × (x.file ≢ 0)) → AllByRecursion (IsPast n g) (live_names x.portion.number x.file) → x.file < g + 1
    own b (inl e) h = omega (arith, e.1)
    own b (inr e) h = let k : AllByRecursion (IsPast n g) (cond false [] (Name.live x.portion.number x.file ∷ [])) = subst (λ c. AllByRecursion (IsPast n g) (cond c [] (Name.live x.portion.number x.file ∷ []))) e.0 h in let less : x.file < g = k.0.1.1 in omega arith

    by : (b : Bool) → x.file < g + 1 → portion_file_in xs p < g + 1 → cond b x.file (portion_file_in xs p) < g + 1
    by true h k = h
    by false h k = k

pub file_for_past : (n g : ℕ) (xs : List Listed) (p : Portion) → AllByRecursion (IsPast n g) (flat_map names_of_listed xs) → portion_file_for xs g p < g + 1
file_for_past n g xs p a = by (all_alive p.live) (portion_file_in xs p == 0) (file_past n g xs p a)
  where
    by : (b c : Bool) → portion_file_in xs p < g + 1 → cond b 0 (cond c g (portion_file_in xs p)) < g + 1
    by true c h = omega arith
    by false true h = omega arith
    by false false h = h

some_file : (f : ℕ) → f ≢ 0 → 0 < f
some_file zero some = absurd (some refl)
some_file (suc f) some = omega arith

names_listed : (n g : ℕ) (xs : List Listed) (ps : List Portion) → AllByRecursion (IsPast n g) (flat_map names_of_listed xs) → AllByRecursion (IsPast n g) (flat_map names_of_portion ps)
    → AllByRecursion (IsPast n (g + 1)) (flat_map names_of_listed (map (λ p. record { portion = p; file = portion_file_for xs g p }) ps))
names_listed n g xs [] a h = tt
names_listed n g xs (p ∷ ps) a h = (h.0, (h.1.0, All-both (IsPast n (g + 1)) (live_names p.number (portion_file_for xs g p)) _ (own (portion_file_for xs g p == 0) (eqb_tells (portion_file_for xs g p) 0)) (names_listed n g xs ps a h.1.1)))
  where
    own : (b : Bool) → ((b ≡ true) × (portion_file_for xs g p ≡ 0)) ⊎ ((b ≡ false) × (portion_file_for xs g p ≢ 0)) → AllByRecursion (IsPast n (g + 1)) (cond b [] (Name.live p.number (portion_file_for xs g p) ∷ []))
    own true e = tt
    own false (inl e) = absurd (let no : false ≡ true = e.0 in cc)
    own false (inr e) = ((h.0, (some_file (portion_file_for xs g p) e.1, file_for_past n g xs p a)), tt)

commit_apart : (o : Option Merging) (g : ℕ) → NotOf o (Name.commit g)
commit_apart None g = tt
commit_apart (Some m) g = tt

live_apart : (o : Option Merging) (n d : ℕ) → NotOf o (Name.segment n) → NotOf o (Name.live n d)
live_apart None n d h = tt
live_apart (Some m) n d h = h

listed_apart : (o : Option Merging) (xs : List Listed) (g : ℕ) (ps : List Portion) → AllByRecursion (NotOf o) (flat_map names_of_portion ps)
    → AllByRecursion (NotOf o) (flat_map names_of_listed (map (λ p. record { portion = p; file = portion_file_for xs g p }) ps))
listed_apart o xs g [] h = tt
listed_apart o xs g (p ∷ ps) h = (h.0, (h.1.0, All-both (NotOf o) (live_names p.number (portion_file_for xs g p)) _ (own (portion_file_for xs g p == 0)) (listed_apart o xs g ps h.1.1)))
  where
    own : (b : Bool) → AllByRecursion (NotOf o) (cond b [] (Name.live p.number (portion_file_for xs g p) ∷ []))
    own true = tt
    own false = (live_apart o p.number (portion_file_for xs g p) h.0, tt)

-- ---- COMMIT

pub commits_are_kept : CommitsAreKept
commits_are_kept text l new ok empty call =
    let g : ℕ = l.next_generation in
    let P : Name → Type 0 = IsPast l.next_segment g in
    let Q : Name → Type 0 = IsPast l.next_segment (g + 1) in
    let stays : ℕ → Bool = stays_kept l.taken (Some g) in
    let c : LedgerCommit = commit_of text l in
    let cs : List LedgerCommit = commits_that stays l.commits ++ c ∷ [] in
    let portions : List Name = flat_map names_of_portion l.portions in
    let views : List Name = flat_map names_of_view l.views in
    let making : List Name = names_of_merging l.merging in
    let past : Four P portions views (flat_map names_of_commit l.commits) making = All-four P _ _ _ _ ok.fresh in
    let more : Four Q portions views (flat_map names_of_commit l.commits) making = four_more l.next_segment g l.next_segment (g + 1) (omega arith) (omega arith) _ _ _ _ past in
    let given : List Name = flat_map names_of_commit (commits_not stays l.commits) in
    let balance : (q : Name) → times q (portions ++ (views ++ (flat_map names_of_commit cs ++ making))) + times q given ≡ times q (names_used l) + times q (names_of_commit c) = λ q. omega (
      arith,
      times-parted q names_of_commit (λ c. stays c.generation) l.commits,
      times-flat q names_of_commit (commits_that stays l.commits) (c ∷ []),
      times-append q (names_of_commit c) [],
      times-four q portions views (flat_map names_of_commit cs) making,
      times-four q portions views (flat_map names_of_commit l.commits) making,
    ) in
    let its : portions_in c ≡ l.portions = portions_listed (newest_listed l.commits) g l.portions in
    let table : table_of l ≡ records_of l.portions = ap (λ rs. records_of l.portions ++ rs) empty ∙ append-nil (records_of l.portions) in
    let shown : Commit = record { generation = g; text = text; token = l.count; table = table_of l } in
    let same : commit_shown c ≡ shown = λ i. record { generation = g; text = text; token = l.count; table = (ap records_of its ∙ sym table) i } in
    let old : List Commit = map commit_shown l.commits in
    let pushed : newest_of (old ++ shown ∷ []) ≡ Some g = newest-pushed old shown in
    let p : Option ℕ → Commit → Bool = λ o x. is_newest o x.generation || ltb 0 (snapshots_in l.taken x.generation) in
    let yes : p (Some g) shown ≡ true = ap (λ b. b || ltb 0 (snapshots_in l.taken g)) (is_newest-self g) in
    let kept : map commit_shown cs ≡ commits_kept l.taken (old ++ shown ∷ []) =
    map-append commit_shown (commits_that stays l.commits) (c ∷ [])
    ∙ ap₂ (λ (a : List Commit) (b : Commit). a ++ b ∷ []) (map-filter commit_shown (p (Some g)) l.commits) same
    ∙ sym (filter_last (p (Some g)) old shown yes)
    ∙ ap (λ o. filter (p o) (old ++ shown ∷ [])) (sym pushed) in (
      subst IsLedger (sym call.rest) (record {
        portions = ok.portions;
        views = ok.views;
        commits = All-both (IsWholeCommit l.schema l.count) (commits_that stays l.commits) (c ∷ []) (All-kept (IsWholeCommit l.schema l.count) _ l.commits ok.commits) ((omega arith, subst (AreWhole l.schema l.count) (sym its) (whole_now l ok empty)), tt);
        generations = Apart-join Rising (commits_that stays l.commits) (c ∷ []) (Apart-kept Rising (λ c. stays c.generation) l.commits ok.generations) (tt, tt)
            (All-kept (λ d. AllByRecursion (Rising d) (c ∷ [])) (λ c. stays c.generation) l.commits (rise_to l.next_segment g c refl l.commits past.commits));
        rows = ok.rows;
        rising = ok.rising;
        ids = ok.ids;
        sound = ok.sound;
        merging = ok.merging;
        alone = record {
          portions = ok.alone.portions;
          views = ok.alone.views;
          commits = subst (AllByRecursion (NotOf l.merging)) (sym (flat_map-append names_of_commit (commits_that stays l.commits) (c ∷ [])))
              (All-both (NotOf l.merging) (flat_map names_of_commit (commits_that stays l.commits)) (names_of_commit c ++ []) (All-flat_kept (NotOf l.merging) names_of_commit (λ c. stays c.generation) l.commits ok.alone.commits)
              (All-both (NotOf l.merging) (names_of_commit c) [] (commit_apart l.merging g, listed_apart l.merging (newest_listed l.commits) g l.portions ok.alone.portions) tt));
        };
        users = recounted (names_used l) (portions ++ (views ++ (flat_map names_of_commit cs ++ making))) (names_of_commit c) given l.users new.users ok.users call.users balance;
        fresh = All-of_four Q portions views (flat_map names_of_commit cs) making (record {
          portions = more.portions;
          views = more.views;
          commits = subst (AllByRecursion Q) (sym (flat_map-append names_of_commit (commits_that stays l.commits) (c ∷ [])))
              (All-both Q (flat_map names_of_commit (commits_that stays l.commits)) (names_of_commit c ++ []) (All-flat_kept Q names_of_commit (λ c. stays c.generation) l.commits more.commits)
              (All-both Q (names_of_commit c) [] ((ok.numbers.1, omega arith), names_listed l.next_segment g (newest_listed l.commits) l.portions (newest_all P None l.commits tt past.commits) past.portions) tt));
          merging = more.merging;
        });
        numbers = (ok.numbers.0, omega arith);
        fits = (ok.fits.0, ok.fits.1, omega (arith, call.left));
      }),
      ap state_of call.rest ∙ (λ i. record { table = table_of l; count = l.count; views = map view_shown l.views; holds = l.holds; commits = kept i; taken = l.taken }),
      last_below g None (map (λ (x : Commit). x.generation) old) refl (generations_low l.next_segment g l.commits past.commits),
    )

-- ---- SNAP and UNSNAP

pub snapshots_are_taken : SnapshotsAreTaken
snapshots_are_taken g l new ok call = (
  subst IsLedger (sym call.rest) (record {
    portions = ok.portions;
    views = ok.views;
    commits = ok.commits;
    generations = ok.generations;
    rows = ok.rows;
    rising = ok.rising;
    ids = ok.ids;
    sound = ok.sound;
    merging = ok.merging;
    alone = ok.alone;
    users = ok.users;
    fresh = ok.fresh;
    numbers = ok.numbers;
    fits = ok.fits;
  }),
  record { taken = call.taken; rest = ap state_of call.rest },
)

pub snapshots_are_given : SnapshotsAreGiven
snapshots_are_given g l new ok call =
    let P : Name → Type 0 = IsPast l.next_segment l.next_generation in
    let stays : ℕ → Bool = stays_kept new.taken (newest_in l.commits) in
    let cs : List LedgerCommit = commits_that stays l.commits in
    let portions : List Name = flat_map names_of_portion l.portions in
    let views : List Name = flat_map names_of_view l.views in
    let making : List Name = names_of_merging l.merging in
    let past : Four P portions views (flat_map names_of_commit l.commits) making = All-four P _ _ _ _ ok.fresh in
    let given : List Name = flat_map names_of_commit (commits_not stays l.commits) in
    let balance : (q : Name) → times q (portions ++ (views ++ (flat_map names_of_commit cs ++ making))) + times q given ≡ times q (names_used l) + times q [] = λ q. omega (
      arith,
      times-parted q names_of_commit (λ c. stays c.generation) l.commits,
      times-four q portions views (flat_map names_of_commit cs) making,
      times-four q portions views (flat_map names_of_commit l.commits) making,
    ) in
    let kept : map commit_shown cs ≡ commits_kept new.taken (map commit_shown l.commits) = map-filter commit_shown (λ (x : Commit). stays x.generation) l.commits in (
      subst IsLedger (sym call.rest) (record {
        portions = ok.portions;
        views = ok.views;
        commits = All-kept (IsWholeCommit l.schema l.count) _ l.commits ok.commits;
        generations = Apart-kept Rising (λ c. stays c.generation) l.commits ok.generations;
        rows = ok.rows;
        rising = ok.rising;
        ids = ok.ids;
        sound = ok.sound;
        merging = ok.merging;
        alone = record { portions = ok.alone.portions; views = ok.alone.views; commits = All-flat_kept (NotOf l.merging) names_of_commit (λ c. stays c.generation) l.commits ok.alone.commits };
        users = recounted (names_used l) (portions ++ (views ++ (flat_map names_of_commit cs ++ making))) [] given l.users new.users ok.users call.users balance;
        fresh = All-of_four P portions views (flat_map names_of_commit cs) making (record { portions = past.portions; views = past.views; commits = All-flat_kept P names_of_commit (λ c. stays c.generation) l.commits past.commits; merging = past.merging });
        numbers = ok.numbers;
        fits = ok.fits;
      }),
      record { taken = call.taken; rest = ap state_of call.rest ∙ (λ i. record { table = table_of l; count = l.count; views = map view_shown l.views; holds = l.holds; commits = kept i; taken = new.taken }) },
    )

-- ---- opening

pub AllPairs-from_Apart : {X : Type 0} (R : X → X → Type 0) (xs : List X) → Apart R xs → AllPairs R xs
AllPairs-from_Apart R [] a = λ i j d l m. absurd (omega (arith, m))
AllPairs-from_Apart R (x ∷ xs) a = AllPairs-cons R x xs (All-from_recursion (R x) xs a.0) (AllPairs-from_Apart R xs a.1)

pub opened_are_fresh : OpenedAreFresh
opened_are_fresh c l its whole told =
    let rows : all_records l.portions ++ l.buffered ≡ all_records (portions_in c) = ap₂ (λ (a : List Portion) (b : List Record). all_records a ++ b) its.portions its.buffered ∙ append-nil (all_records (portions_in c)) in
    let table : table_of l ≡ records_of (portions_in c) = ap₂ (λ (a : List Portion) (b : List Record). records_of a ++ b) its.portions its.buffered ∙ append-nil (records_of (portions_in c)) in
    let now_whole : AreWhole l.schema l.count l.portions = subst (λ ps. AreWhole l.schema l.count ps) (sym its.portions) (subst (λ n. AreWhole l.schema n (portions_in c)) (sym its.count) whole) in
    let now_rows : AllByRecursion (IsPutRecord l.schema l.count) (all_records l.portions ++ l.buffered) = subst (AllByRecursion (IsPutRecord l.schema l.count)) (sym rows) (subst (λ n. AllByRecursion (IsPutRecord l.schema n) (all_records (portions_in c))) (sym its.count) whole.rows) in
    let one_view : map view_shown l.views ≡ record { token = l.count; table = table_of l } ∷ [] =
    ap (map view_shown) its.views ∙ (λ i. record { token = l.count; table = (ap records_of its.portions ∙ sym table) i } ∷ []) in
    let ok : IsLedger l = record {
      portions = now_whole.portions;
      views = subst (AllByRecursion (IsWholeView l.schema l.count)) (sym its.views) ((omega arith, now_whole), tt);
      commits = subst (AllByRecursion (IsWholeCommit l.schema l.count)) (sym its.commits) ((omega (arith, its.count), whole), tt);
      generations = subst (Apart Rising) (sym its.commits) (tt, tt);
      rows = now_rows;
      rising = subst (Apart (λ r s. r.number < s.number)) (sym rows) whole.rising;
      ids = subst (Apart (λ r s. r.item.id ≢ s.item.id)) (sym table) whole.ids;
      sound = subst (λ vs. IsSound vs l.holds) (sym one_view) (subst (IsSound (record { token = l.count; table = table_of l } ∷ [])) (sym its.holds) (record { some_view = omega arith; held = λ t h. absurd (let no : false ≡ true = h in cc) }));
      merging = subst (IsMerging l.portions) (sym its.merging) tt;
      alone = subst (λ o. IsAlone o l.portions l.views l.commits) (sym its.merging) (nobody_alone l.portions l.views l.commits);
      users = told.users;
      fresh = told.fresh;
      numbers = told.numbers;
      fits = told.fits;
    } in
    let live : records_of (portions_in c) ≡ selected (lives_of (portions_in c)) (all_records (portions_in c)) = sym (records-marked (portions_in c) whole.portions.lengths) in
    let live_rows : AllByRecursion (IsPutRecord l.schema l.count) (table_of l) = subst (AllByRecursion (IsPutRecord l.schema l.count)) (sym (table ∙ live))
    (All-marked (IsPutRecord l.schema l.count) (lives_of (portions_in c)) (all_records (portions_in c)) (subst (λ n. AllByRecursion (IsPutRecord l.schema n) (all_records (portions_in c))) (sym its.count) whole.rows)) in
    let live_rising : Apart (λ r s. r.number < s.number) (table_of l) = subst (Apart (λ r s. r.number < s.number)) (sym (table ∙ live))
    (Apart-marked (λ r s. r.number < s.number) (lives_of (portions_in c)) (all_records (portions_in c)) whole.rising) in (
      ok,
      record {
        is_start = λ schema. record {
          rising = AllPairs-from_Apart _ (table_of l) live_rising;
          positive = All-from_recursion _ (table_of l) (All-weaken _ _ (λ r h. h.positive) (table_of l) live_rows);
          seen = All-from_recursion _ (table_of l) (All-weaken _ _ (λ r h. h.seen) (table_of l) live_rows);
          distinct = AllPairs-from_Apart _ (table_of l) ok.ids;
        };
        one_view = one_view;
        no_hold = its.holds;
        commits = ap (map commit_shown) its.commits ∙ (λ i. record { generation = c.generation; text = c.text; token = sym its.count i; table = sym table i } ∷ [])
            ∙ sym (ap (λ cs. map (commit_now (state_of l)) (option_to_list (newest_told (map commit_shown cs)))) its.commits);
        no_snapshot = its.taken;
      },
      table,
    )
