-- What the beginning, the steps and the refusals of a merge leave, and what a sweep does.
use Rattle.std.proofs.Common.{◌≡◌, ◌≢◌, ℕ, ◌+◌, ◌<◌, List, [], ◌∷◌, ◌++◌, length, take, drop, Some, refl, sym, ◌∙◌, ap, subst, arith}
use Rattle.std.specs.List.{flat_map, AllByRecursion}
use Rattle.std.proofs.lemmas.List.{length-drop, length-take-le}
use Rattle.std.proofs.lemmas.Grind.{flat_map-append}
use Rattle.cat_model.specs.Item.{Record}
use Rattle.cat_model.specs.Files.{Name}
use Rattle.cat_model.proofs.Lists.{All-weaken}
use Rattle.cat_ledger_laws.specs.model.Portions.{Portion, live_records, records_of, Apart, Reduced, Merging, IsMergingOf, IsMerging}
use Rattle.cat_ledger_laws.specs.model.Users.{times, AreUsed}
use Rattle.cat_ledger_laws.specs.model.Ledger.{IsLedger, state_of, names_used, names_of_portion, names_of_view, names_of_commit, names_of_merging, IsPast, IsOther, IsAlone}
use Rattle.cat_ledger_laws.specs.model.Laws.{BegunChangeNoState, CopiesChangeNoState, EndsChangeNoState, RefusalsChangeNoState, HoldsAreApart}
use Rattle.cat_ledger_laws.proofs.model.Users.{All-split, Apart-split, times-four, Four, All-four, All-of_four, recounted}
use Rattle.cat_ledger_laws.proofs.model.Alone.{nobody_alone, past_other}
use Rattle.cat_ledger_laws.proofs.model.Marked.{Full, Reduced-same}
use Rattle.cat_ledger_laws.proofs.model.Merges.{three}
use Rattle.cat_ledger_laws.proofs.model.Flushes.{past_more, four_more, numbers_past}

some_full : (ps : List Portion) (i k : ℕ) → Full ps → Full (take k (drop i ps))
some_full ps i k full =
    let two = All-split (λ p. length p.live ≡ length p.records) (take i ps) (take k (drop i ps) ++ drop (i + k) ps) (subst Full (three ps i k) full) in
    (All-split (λ p. length p.live ≡ length p.records) (take k (drop i ps)) (drop (i + k) ps) two.1).0

-- the ids of the live records of some portions differ, as those of the table do
some_apart : (ps : List Portion) (i k : ℕ) (buffered : List Record) → Apart (λ r s. r.item.id ≢ s.item.id) (records_of ps ++ buffered) → Apart (λ r s. r.item.id ≢ s.item.id) (records_of (take k (drop i ps)))
some_apart ps i k buffered a =
    let R : Record → Record → Type 0 = λ r s. r.item.id ≢ s.item.id in
    let parts : records_of ps ≡ records_of (take i ps) ++ (records_of (take k (drop i ps)) ++ records_of (drop (i + k) ps)) =
    ap records_of (three ps i k) ∙ flat_map-append live_records (take i ps) (take k (drop i ps) ++ drop (i + k) ps) ∙ ap (λ l. records_of (take i ps) ++ l) (flat_map-append live_records (take k (drop i ps)) (drop (i + k) ps)) in
    let one = Apart-split R (records_of ps) buffered a in
    let two = Apart-split R (records_of (take i ps)) (records_of (take k (drop i ps)) ++ records_of (drop (i + k) ps)) (subst (Apart R) parts one.0) in
    (Apart-split R (records_of (take k (drop i ps))) (records_of (drop (i + k) ps)) two.1).0

pub begun_change_no_state : BegunChangeNoState
begun_change_no_state index k l new ok call =
    let n : ℕ = l.next_segment in
    let P : Name → Type 0 = IsPast n l.next_generation in
    let Q : Name → Type 0 = IsPast (n + 1) l.next_generation in
    let inputs : List Portion = take k (drop index l.portions) in
    let m : Merging = record { number = n; index = index; inputs = inputs; passed = 0; kept = [] } in
    let portions : List Name = flat_map names_of_portion l.portions in
    let views : List Name = flat_map names_of_view l.views in
    let commits : List Name = flat_map names_of_commit l.commits in
    let past : Four P portions views commits (names_of_merging l.merging) = All-four P _ _ _ _ ok.fresh in
    let more : Four Q portions views commits (names_of_merging l.merging) = four_more n l.next_generation (n + 1) l.next_generation (omega arith) (omega arith) _ _ _ _ past in
    let long : length inputs ≡ k = length-take-le k (drop index l.portions) (omega (arith, length-drop index l.portions, call.within)) in (
      subst IsLedger (sym call.rest) (record {
        portions = ok.portions;
        views = ok.views;
        commits = ok.commits;
        generations = ok.generations;
        rows = ok.rows;
        rising = ok.rising;
        ids = ok.ids;
        sound = ok.sound;
        merging = record {
          some = omega (arith, long, call.some);
          stand = subst (λ j. Reduced inputs (take j (drop index l.portions))) (sym long) (Reduced-same inputs);
          lengths = some_full l.portions index k ok.portions.lengths;
          within = omega arith;
          kept = refl;
          ids = some_apart l.portions index k l.buffered ok.ids;
          free = All-weaken (λ p. p.number < n) (λ p. p.number ≢ n) (λ p h e. let less : p.number < n = h in omega arith) l.portions (numbers_past n l.next_generation l.portions past.portions);
        };
        alone = record {
          portions = All-weaken P (IsOther n) (past_other n l.next_generation) portions past.portions;
          views = All-weaken P (IsOther n) (past_other n l.next_generation) views past.views;
          commits = All-weaken P (IsOther n) (past_other n l.next_generation) commits past.commits;
        };
        users = recounted (names_used l) (portions ++ (views ++ (commits ++ (Name.source n ∷ [])))) (Name.source n ∷ []) [] l.users new.users ok.users call.users (λ q. omega (
          arith,
          ap (λ o. times q (names_of_merging o)) call.idle,
          times-four q portions views commits (Name.source n ∷ []),
          times-four q portions views commits (names_of_merging l.merging),
        ));
        fresh = All-of_four Q portions views commits (Name.source n ∷ []) (record { portions = more.portions; views = more.views; commits = more.commits; merging = ((ok.numbers.0, omega arith), tt) });
        numbers = (omega arith, ok.numbers.1);
        fits = (ok.fits.0, omega (arith, call.left), ok.fits.2);
      }),
      ap state_of call.rest,
    )

pub copies_change_no_state : CopiesChangeNoState
copies_change_no_state m l new ok call =
    let making : IsMergingOf l.portions m = subst (λ o. IsMerging l.portions o) call.making ok.merging in
    let rest : List Name = flat_map names_of_commit l.commits in
    let used : AreUsed l.users (flat_map names_of_portion l.portions ++ (flat_map names_of_view l.views ++ (rest ++ names_of_merging (Some m)))) = subst (λ o. AreUsed l.users (flat_map names_of_portion l.portions ++ (flat_map names_of_view l.views ++ (rest ++ names_of_merging o)))) call.making ok.users in
    let fresh : AllByRecursion (IsPast l.next_segment l.next_generation) (flat_map names_of_portion l.portions ++ (flat_map names_of_view l.views ++ (rest ++ names_of_merging (Some m)))) =
    subst (λ o. AllByRecursion (IsPast l.next_segment l.next_generation) (flat_map names_of_portion l.portions ++ (flat_map names_of_view l.views ++ (rest ++ names_of_merging o)))) call.making ok.fresh in (
      subst IsLedger (sym call.rest) (record {
        portions = ok.portions;
        views = ok.views;
        commits = ok.commits;
        generations = ok.generations;
        rows = ok.rows;
        rising = ok.rising;
        ids = ok.ids;
        sound = ok.sound;
        merging = record { some = making.some; stand = making.stand; lengths = making.lengths; within = omega (arith, making.within); kept = refl; free = making.free; ids = making.ids };
        alone = (let a : IsAlone (Some m) l.portions l.views l.commits = subst (λ o. IsAlone o l.portions l.views l.commits) call.making ok.alone in record { portions = a.portions; views = a.views; commits = a.commits });
        users = used;
        fresh = fresh;
        numbers = ok.numbers;
        fits = ok.fits;
      }),
      ap state_of call.rest,
    )

pub ends_change_no_state : EndsChangeNoState
ends_change_no_state m l new ok call =
    let P : Name → Type 0 = IsPast l.next_segment l.next_generation in
    let portions : List Name = flat_map names_of_portion l.portions in
    let views : List Name = flat_map names_of_view l.views in
    let commits : List Name = flat_map names_of_commit l.commits in
    let past : Four P portions views commits (names_of_merging l.merging) = All-four P _ _ _ _ ok.fresh in (
      subst IsLedger (sym call.rest) (record {
        portions = ok.portions;
        views = ok.views;
        commits = ok.commits;
        generations = ok.generations;
        rows = ok.rows;
        rising = ok.rising;
        ids = ok.ids;
        sound = ok.sound;
        merging = tt;
        alone = nobody_alone l.portions l.views l.commits;
        users = recounted (names_used l) (portions ++ (views ++ (commits ++ []))) [] (Name.source m.number ∷ []) l.users new.users ok.users call.users (λ q. omega (
          arith,
          ap (λ o. times q (names_of_merging o)) call.making,
          times-four q portions views commits [],
          times-four q portions views commits (names_of_merging l.merging),
        ));
        fresh = All-of_four P portions views commits [] (record { portions = past.portions; views = past.views; commits = past.commits; merging = tt });
        numbers = ok.numbers;
        fits = ok.fits;
      }),
      ap state_of call.rest,
    )

pub refusals_change_no_state : RefusalsChangeNoState
refusals_change_no_state begun l new ok call =
    let P : Name → Type 0 = IsPast l.next_segment l.next_generation in (
      subst IsLedger (sym call.rest) (record {
        portions = ok.portions;
        views = ok.views;
        commits = ok.commits;
        generations = ok.generations;
        rows = ok.rows;
        rising = ok.rising;
        ids = ok.ids;
        sound = ok.sound;
        merging = ok.merging;
        alone = ok.alone;
        users = λ q. call.users q ∙ ok.users q;
        fresh = All-weaken P (IsPast new.next_segment new.next_generation) (past_more l.next_segment l.next_generation new.next_segment new.next_generation call.segments call.generations) (names_used l) ok.fresh;
        numbers = (omega (arith, ok.numbers.0, call.segments), omega (arith, ok.numbers.1, call.generations));
        fits = (ok.fits.0, call.left.0, call.left.1);
      }),
      ap state_of call.rest,
    )

pub holds_are_apart : HoldsAreApart
holds_are_apart l hs ok sound = (
  record {
    portions = ok.portions;
    views = ok.views;
    commits = ok.commits;
    generations = ok.generations;
    rows = ok.rows;
    rising = ok.rising;
    ids = ok.ids;
    sound = sound;
    merging = ok.merging;
    alone = ok.alone;
    users = ok.users;
    fresh = ok.fresh;
    numbers = ok.numbers;
    fits = ok.fits;
  },
  refl,
)
