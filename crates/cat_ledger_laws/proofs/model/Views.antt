-- What recording a view and pruning leave.
use Rattle.std.proofs.Common.{◌≡◌, ◌≢◌, ℕ, suc, ◌+◌, ◌<◌, List, [], ◌∷◌, ◌++◌, length, map, Bool, true, false, cond, not, ◌&&◌, ◌||◌, refl, sym, ◌∙◌, ap, subst, arith, append-nil, inl, inr}
use Rattle.std.specs.Prelude.{ltb, ◌==◌}
use Rattle.std.specs.List.{flat_map, filter, list_any, AllByRecursion}
use Rattle.std.proofs.lemmas.Bool.Decides.{eqb_tells}
use Rattle.std.proofs.lemmas.List.{length-append, map-append}
use Rattle.std.proofs.lemmas.Grind.{flat_map-append}
use Rattle.cat_model.specs.Files.{Name}
use Rattle.cat_model.specs.Run.{greatest, pruned}
use Rattle.cat_model.specs.Limits.{view_limit}
use Rattle.cat_model.specs.State.{RecordedTable, Hold, tokens, has_view, held_in, views_without_least_free, views_recorded, views_pruned, refreshed, IsSound}
use Rattle.cat_model.proofs.Lists.{filter_alike, All-both, All-each, All-kept, list_any-append}
use Rattle.cat_model.proofs.Runs.{pruned_has, has_some}
use Rattle.cat_ledger_laws.specs.model.Portions.{records_of, all_records, Apart}
use Rattle.cat_ledger_laws.specs.model.Users.{times}
use Rattle.cat_ledger_laws.specs.model.Ledger.{Ledger, RecordedView, IsPutRecord, AreWhole, IsLedger, IsWholeView, state_of, table_of, names_used, names_of_portion, names_of_view, names_of_commit, names_of_merging, IsPast, NotOf, view_shown, commit_shown}
use Rattle.cat_ledger_laws.specs.model.Calls.{tokens_in, has_recorded, stays_full, stays_pruned, stays_recorded, views_that, views_not, recorded_view_now, RecordsNow}
use Rattle.cat_ledger_laws.specs.model.Laws.{ViewsAreRecorded, ViewsArePruned}
use Rattle.cat_ledger_laws.proofs.model.Users.{All-split, All-flat, times-append, times-flat, times-four, Four, All-four, All-of_four, recounted}

-- ---- filters under a map

pub map-filter : {X Y : Type 0} (f : X → Y) (p : Y → Bool) (xs : List X) → map f (filter (λ x. p (f x)) xs) ≡ filter p (map f xs)
map-filter f p [] = refl
map-filter f p (x ∷ xs) = elim (p (f x)) as (λ b. map f (cond b (x ∷ filter (λ x. p (f x)) xs) (filter (λ x. p (f x)) xs)) ≡ cond b (f x ∷ filter p (map f xs)) (filter p (map f xs))) [
  | true ↦ ap (λ l. f x ∷ l) (map-filter f p xs)
  | false ↦ map-filter f p xs
]

pub any-map : {X Y : Type 0} (f : X → Y) (p : Y → Bool) (xs : List X) → list_any p (map f xs) ≡ list_any (λ x. p (f x)) xs
any-map f p [] = refl
any-map f p (x ∷ xs) = ap (λ b. p (f x) || b) (any-map f p xs)

pub length-map : {X Y : Type 0} (f : X → Y) (xs : List X) → length (map f xs) ≡ length xs
length-map f [] = refl
length-map f (x ∷ xs) = ap suc (length-map f xs)

filter-true : {X : Type 0} (xs : List X) → filter (λ x. true) xs ≡ xs
filter-true [] = refl
filter-true (x ∷ xs) = ap (λ l. x ∷ l) (filter-true xs)

-- the names of those that stay and of those that go are the names of all
pub times-parted : {X : Type 0} (q : Name) (f : X → List Name) (p : X → Bool) (xs : List X) → times q (flat_map f (filter p xs)) + times q (flat_map f (filter (λ x. not (p x)) xs)) ≡ times q (flat_map f xs)
times-parted q f p [] = refl
times-parted q f p (x ∷ xs) =
    let rest : times q (flat_map f (filter p xs)) + times q (flat_map f (filter (λ x. not (p x)) xs)) ≡ times q (flat_map f xs) = times-parted q f p xs in
    let all : times q (f x ++ flat_map f xs) ≡ times q (f x) + times q (flat_map f xs) = times-append q (f x) (flat_map f xs) in
    elim (p x) as (λ b. times q (flat_map f (cond b (x ∷ filter p xs) (filter p xs))) + times q (flat_map f (cond (not b) (x ∷ filter (λ x. not (p x)) xs) (filter (λ x. not (p x)) xs))) ≡ times q (flat_map f (x ∷ xs))) [
      | true ↦ omega (arith, rest, all, times-append q (f x) (flat_map f (filter p xs)))
      | false ↦ omega (arith, rest, all, times-append q (f x) (flat_map f (filter (λ x. not (p x)) xs)))
    ]

pub All-unflat : {X Y : Type 0} (P : Y → Type 0) (f : X → List Y) (xs : List X) → AllByRecursion P (flat_map f xs) → AllByRecursion (λ x. AllByRecursion P (f x)) xs
All-unflat P f [] a = tt
All-unflat P f (x ∷ xs) a = let r : AllByRecursion P (f x) × AllByRecursion P (flat_map f xs) = All-split P (f x) (flat_map f xs) a in (r.0, All-unflat P f xs r.1)

pub All-flat_kept : {X Y : Type 0} (P : Y → Type 0) (f : X → List Y) (p : X → Bool) (xs : List X) → AllByRecursion P (flat_map f xs) → AllByRecursion P (flat_map f (filter p xs))
All-flat_kept P f p xs a = All-flat P f (filter p xs) (All-kept (λ x. AllByRecursion P (f x)) p xs (All-unflat P f xs a))

-- ---- views as they show

pub has-shown : (vs : List RecordedView) (t : ℕ) → has_view (map view_shown vs) t ≡ has_recorded vs t
has-shown vs t = any-map view_shown (λ v. v.token == t) vs

pub tokens-shown : (vs : List RecordedView) → tokens (map view_shown vs) ≡ tokens_in vs
tokens-shown [] = refl
tokens-shown (v ∷ vs) = ap (λ ts. v.token ∷ ts) (tokens-shown vs)

stays_at : (stays : ℕ → Bool) (vs : List RecordedView) (t : ℕ) → stays t ≡ true → has_recorded vs t ≡ true → has_recorded (views_that stays vs) t ≡ true
stays_at stays [] t k h = h
stays_at stays (v ∷ vs) t k h = elim (eqb_tells v.token t) [
  | inl e ↦ let yes : stays v.token ≡ true = ap stays e.1 ∙ k in rw (yes, e.0) refl
  | inr e ↦ let rest : has_recorded (views_that stays vs) t ≡ true = stays_at stays vs t k (rw e.0 at h) in
      elim (stays v.token) as (λ b. has_recorded (cond b (v ∷ views_that stays vs) (views_that stays vs)) t ≡ true) [ true ↦ rw (e.0, rest) refl | false ↦ rest ]
]

or_any : (a b : Bool) → b ≡ true → (a || b) ≡ true
or_any true b e = refl
or_any false b e = e

pub or_left : (a b : Bool) → a ≡ true → (a || b) ≡ true
or_left true b e = refl
or_left false b e = absurd (let no : false ≡ true = e in cc)

-- what is held keeps its view
held_stay : (stays : ℕ → Bool) (vs : List RecordedView) (hs : List Hold) → IsSound (map view_shown vs) hs → ((t : ℕ) → held_in hs t ≡ true → stays t ≡ true) → (t : ℕ) → held_in hs t ≡ true → has_recorded (views_that stays vs) t ≡ true
held_stay stays vs hs ok f t h = stays_at stays vs t (f t h) (sym (has-shown vs t) ∙ ok.held t h)

-- ---- a view of now

-- where nothing waits, the list is a table at the number of writes
pub whole_now : (l : Ledger) → IsLedger l → l.buffered ≡ [] → AreWhole l.schema l.count l.portions
whole_now l ok empty =
    let rows : all_records l.portions ++ l.buffered ≡ all_records l.portions = ap (λ rs. all_records l.portions ++ rs) empty ∙ append-nil (all_records l.portions) in
    let table : table_of l ≡ records_of l.portions = ap (λ rs. records_of l.portions ++ rs) empty ∙ append-nil (records_of l.portions) in
    record {
      portions = ok.portions;
      rows = subst (AllByRecursion (IsPutRecord l.schema l.count)) rows ok.rows;
      rising = subst (Apart (λ r s. r.number < s.number)) rows ok.rising;
      ids = subst (Apart (λ r s. r.item.id ≢ s.item.id)) table ok.ids;
    }

full_shown : (held : ℕ → Bool) (vs : List RecordedView) → views_without_least_free held (map view_shown vs) ≡ map view_shown (filter (λ v. stays_full held (tokens_in vs) v.token) vs)
full_shown held vs =
    filter_alike _ (λ (v : RecordedTable). stays_full held (tokens_in vs) v.token) (map view_shown vs)
    (All-each _ (λ (v : RecordedTable). ap (λ b. held v.token || b) (any-map view_shown (λ u. not (held u.token) && ltb u.token v.token) vs ∙ sym (any-map (λ (u : RecordedView). u.token) (λ u. not (held u) && ltb u v.token) vs))) _)
    ∙ sym (map-filter view_shown (λ (v : RecordedTable). stays_full held (tokens_in vs) v.token) vs)

recorded_room : (held : ℕ → Bool) (vs : List RecordedView) (b : Bool) → map view_shown (filter (λ v. b || stays_full held (tokens_in vs) v.token) vs) ≡ cond b (map view_shown vs) (views_without_least_free held (map view_shown vs))
recorded_room held vs true = ap (map view_shown) (filter-true vs)
recorded_room held vs false = sym (full_shown held vs)

recorded_shown : (l : Ledger) → has_recorded l.views l.count ≡ false
    → map view_shown (views_that (stays_recorded (held_in l.holds) (tokens_in l.views)) l.views ++ recorded_view_now l ∷ []) ≡ views_recorded (held_in l.holds) (map view_shown l.views) (record { token = l.count; table = records_of l.portions })
recorded_shown l none =
    let held : ℕ → Bool = held_in l.holds in
    let vs : List RecordedTable = map view_shown l.views in
    let few : ltb (length (tokens_in l.views)) view_limit ≡ ltb (length vs) view_limit = ap (λ n. ltb n view_limit) (length-map (λ (v : RecordedView). v.token) l.views ∙ sym (length-map view_shown l.views)) in
    map-append view_shown (views_that (stays_recorded held (tokens_in l.views)) l.views) (recorded_view_now l ∷ [])
    ∙ ap (λ us. us ++ view_shown (recorded_view_now l) ∷ []) (recorded_room held l.views (ltb (length (tokens_in l.views)) view_limit) ∙ ap (λ b. cond b vs (views_without_least_free held vs)) few)
    ∙ sym (ap (λ b. cond b vs (cond (ltb (length vs) view_limit) vs (views_without_least_free held vs) ++ view_shown (recorded_view_now l) ∷ [])) (has-shown l.views l.count ∙ none))

recorded_already : (l : Ledger) (v : RecordedTable) → v.token ≡ l.count → has_recorded l.views l.count ≡ true → map view_shown l.views ≡ views_recorded (held_in l.holds) (map view_shown l.views) v
recorded_already l v e some =
    sym (ap (λ b. cond b (map view_shown l.views) (cond (ltb (length (map view_shown l.views)) view_limit) (map view_shown l.views) (views_without_least_free (held_in l.holds) (map view_shown l.views)) ++ v ∷ []))
    (ap (has_view (map view_shown l.views)) e ∙ has-shown l.views l.count ∙ some))

records_now : (l new : Ledger) → IsLedger l → l.buffered ≡ [] → has_recorded l.views l.count ≡ false → RecordsNow l new → IsLedger new × (state_of new ≡ refreshed (state_of l))
records_now l new ok empty none call =
    let P : Name → Type 0 = IsPast l.next_segment l.next_generation in
    let stays : ℕ → Bool = stays_recorded (held_in l.holds) (tokens_in l.views) in
    let vs : List RecordedView = views_that stays l.views ++ recorded_view_now l ∷ [] in
    let portions : List Name = flat_map names_of_portion l.portions in
    let commits : List Name = flat_map names_of_commit l.commits in
    let making : List Name = names_of_merging l.merging in
    let past : Four P portions (flat_map names_of_view l.views) commits making = All-four P _ _ _ _ ok.fresh in
    let given : List Name = flat_map names_of_view (views_not stays l.views) in
    let balance : (q : Name) → times q (portions ++ (flat_map names_of_view vs ++ (commits ++ making))) + times q given ≡ times q (names_used l) + times q (names_of_view (recorded_view_now l)) = λ q. omega (
      arith,
      times-parted q names_of_view (λ v. stays v.token) l.views,
      times-flat q names_of_view (views_that stays l.views) (recorded_view_now l ∷ []),
      times-append q (names_of_view (recorded_view_now l)) [],
      times-four q portions (flat_map names_of_view vs) commits making,
      times-four q portions (flat_map names_of_view l.views) commits making,
    ) in
    let table : table_of l ≡ records_of l.portions = ap (λ rs. records_of l.portions ++ rs) empty ∙ append-nil (records_of l.portions) in
    let shown : map view_shown vs ≡ views_recorded (held_in l.holds) (map view_shown l.views) (record { token = l.count; table = table_of l }) =
    recorded_shown l none ∙ ap (λ rs. views_recorded (held_in l.holds) (map view_shown l.views) (record { token = l.count; table = rs })) (sym table) in (
      subst IsLedger (sym call.rest) (record {
        portions = ok.portions;
        views = All-both (IsWholeView l.schema l.count) (views_that stays l.views) (recorded_view_now l ∷ []) (All-kept (IsWholeView l.schema l.count) _ l.views ok.views) ((omega arith, whole_now l ok empty), tt);
        commits = ok.commits;
        generations = ok.generations;
        rows = ok.rows;
        rising = ok.rising;
        ids = ok.ids;
        sound = record {
          some_view = omega (arith, length-map view_shown vs, length-append (views_that stays l.views) (recorded_view_now l ∷ []));
          held = λ t h. has-shown vs t ∙ list_any-append (λ v. v.token == t) (views_that stays l.views) (recorded_view_now l ∷ []) ∙ or_left _ _ (held_stay stays l.views l.holds ok.sound (λ u k. or_any (ltb (length (tokens_in l.views)) view_limit) _ (or_left _ _ k)) t h);
        };
        merging = ok.merging;
        alone = record {
          portions = ok.alone.portions;
          views = subst (AllByRecursion (NotOf l.merging)) (sym (flat_map-append names_of_view (views_that stays l.views) (recorded_view_now l ∷ []) ∙ ap (λ ns. flat_map names_of_view (views_that stays l.views) ++ ns) (append-nil (names_of_view (recorded_view_now l)))))
              (All-both (NotOf l.merging) (flat_map names_of_view (views_that stays l.views)) (names_of_view (recorded_view_now l)) (All-flat_kept (NotOf l.merging) names_of_view (λ v. stays v.token) l.views ok.alone.views) ok.alone.portions);
          commits = ok.alone.commits;
        };
        users = recounted (names_used l) (portions ++ (flat_map names_of_view vs ++ (commits ++ making))) (names_of_view (recorded_view_now l)) given l.users new.users ok.users call.users balance;
        fresh = All-of_four P portions (flat_map names_of_view vs) commits making (record {
          portions = past.portions;
          views = subst (AllByRecursion P) (sym (flat_map-append names_of_view (views_that stays l.views) (recorded_view_now l ∷ []) ∙ ap (λ ns. flat_map names_of_view (views_that stays l.views) ++ ns) (append-nil (names_of_view (recorded_view_now l)))))
              (All-both P (flat_map names_of_view (views_that stays l.views)) (names_of_view (recorded_view_now l)) (All-flat_kept P names_of_view (λ v. stays v.token) l.views past.views) past.portions);
          commits = past.commits;
          merging = past.merging;
        });
        numbers = ok.numbers;
        fits = ok.fits;
      }),
      ap state_of call.rest ∙ (λ i. record { table = table_of l; count = l.count; views = shown i; holds = l.holds; commits = map commit_shown l.commits; taken = l.taken }),
    )

pub views_are_recorded : ViewsAreRecorded
views_are_recorded l new ok empty call = by (has_recorded l.views l.count) refl call
  where
    by : (b : Bool) → has_recorded l.views l.count ≡ b → cond b (new ≡ l) (RecordsNow l new) → IsLedger new × (state_of new ≡ refreshed (state_of l))
    by true e same = (
      subst IsLedger (sym same) ok,
      ap state_of same ∙ (λ i. record { table = table_of l; count = l.count; views = recorded_already l (record { token = l.count; table = table_of l }) refl e i; holds = l.holds; commits = map commit_shown l.commits; taken = l.taken }),
    )
    by false e now = records_now l new ok empty e now

-- ---- PRUNE

pub pruned_shown : (held : ℕ → Bool) (n : ℕ) (vs : List RecordedView) → map view_shown (views_that (stays_pruned held n (tokens_in vs)) vs) ≡ views_pruned held n (map view_shown vs)
pruned_shown held n vs =
    map-filter view_shown (λ (v : RecordedTable). stays_pruned held n (tokens_in vs) v.token) vs
    ∙ ap (λ ts. filter (λ (v : RecordedTable). stays_pruned held n ts v.token) (map view_shown vs)) (sym (tokens-shown vs))

some_stays : (held : ℕ → Bool) (n : ℕ) (vs : List RecordedView) → 0 < length vs → 0 < length (views_that (stays_pruned held n (tokens_in vs)) vs)
some_stays held n vs h =
    let same : tokens_in (views_that (stays_pruned held n (tokens_in vs)) vs) ≡ pruned held n (tokens_in vs) = map-filter (λ (v : RecordedView). v.token) (stays_pruned held n (tokens_in vs)) vs in
    let some : 0 < length (pruned held n (tokens_in vs)) = has_some _ (greatest (tokens_in vs)) (pruned_has held n (tokens_in vs) (omega (arith, h, length-map (λ (v : RecordedView). v.token) vs))) in
    omega (arith, some, ap length same, length-map (λ (v : RecordedView). v.token) (views_that (stays_pruned held n (tokens_in vs)) vs))

pub views_are_pruned : ViewsArePruned
views_are_pruned n l new ok call =
    let P : Name → Type 0 = IsPast l.next_segment l.next_generation in
    let stays : ℕ → Bool = stays_pruned (held_in l.holds) n (tokens_in l.views) in
    let vs : List RecordedView = views_that stays l.views in
    let portions : List Name = flat_map names_of_portion l.portions in
    let commits : List Name = flat_map names_of_commit l.commits in
    let making : List Name = names_of_merging l.merging in
    let past : Four P portions (flat_map names_of_view l.views) commits making = All-four P _ _ _ _ ok.fresh in
    let given : List Name = flat_map names_of_view (views_not stays l.views) in
    let balance : (q : Name) → times q (portions ++ (flat_map names_of_view vs ++ (commits ++ making))) + times q given ≡ times q (names_used l) + times q [] = λ q. omega (
      arith,
      times-parted q names_of_view (λ v. stays v.token) l.views,
      times-four q portions (flat_map names_of_view vs) commits making,
      times-four q portions (flat_map names_of_view l.views) commits making,
    ) in (
      subst IsLedger (sym call.rest) (record {
        portions = ok.portions;
        views = All-kept (IsWholeView l.schema l.count) _ l.views ok.views;
        commits = ok.commits;
        generations = ok.generations;
        rows = ok.rows;
        rising = ok.rising;
        ids = ok.ids;
        sound = record {
          some_view = omega (arith, length-map view_shown vs, some_stays (held_in l.holds) n l.views (omega (arith, ok.sound.some_view, length-map view_shown l.views)));
          held = λ t h. has-shown vs t ∙ held_stay stays l.views l.holds ok.sound (λ u k. or_left _ _ k) t h;
        };
        merging = ok.merging;
        alone = record { portions = ok.alone.portions; views = All-flat_kept (NotOf l.merging) names_of_view (λ v. stays v.token) l.views ok.alone.views; commits = ok.alone.commits };
        users = recounted (names_used l) (portions ++ (flat_map names_of_view vs ++ (commits ++ making))) [] given l.users new.users ok.users call.users balance;
        fresh = All-of_four P portions (flat_map names_of_view vs) commits making (record { portions = past.portions; views = All-flat_kept P names_of_view (λ v. stays v.token) l.views past.views; commits = past.commits; merging = past.merging });
        numbers = ok.numbers;
        fits = ok.fits;
      }),
      ap state_of call.rest ∙ (λ i. record { table = table_of l; count = l.count; views = pruned_shown (held_in l.holds) n l.views i; holds = l.holds; commits = map commit_shown l.commits; taken = l.taken }),
    )
