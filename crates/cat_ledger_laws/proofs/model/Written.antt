-- A commit of now can be said in a file; and what is installed is the merged leaf of its inputs.
use Rattle.std.proofs.Common.{◌≡◌, ◌≢◌, ℕ, ◌+◌, ◌<◌, ◌≤◌, List, [], ◌∷◌, ◌++◌, map, Bool, None, refl, ◌∙◌, ap, ap₂, subst, arith}
use Rattle.std.specs.List.{flat_map, AllByRecursion}
use Rattle.std.proofs.lemmas.List.{length-map}
use Rattle.std.proofs.lemmas.List.Elements.{All-from_recursion}
use Rattle.cat_model.specs.Item.{Schema}
use Rattle.cat_model.specs.View.{row_of, selected, live_rows}
use Rattle.cat_model.specs.Files.{Name, IsFileName}
use Rattle.cat_model.specs.CommitFile.{ListedSegment, IsListed, listed_names}
use Rattle.cat_model.specs.Limits.{last_number}
use Rattle.cat_model.specs.Merged.{AreDeletedFrom, live_of_all}
use Rattle.cat_model.proofs.Lists.{All-weaken}
use Rattle.cat_ledger_laws.specs.model.Portions.{Portion, lives_of, leaf_of, Reduced, IsMergingOf, IsMerging, portion_window_now}
use Rattle.cat_ledger_laws.specs.model.Ledger.{Listed, IsPast, listed_segment, names_of_portion, names_of_view, names_of_listed, names_of_commit, names_of_merging, names_used}
use Rattle.cat_ledger_laws.specs.model.Calls.{portion_file_for, newest_listed}
use Rattle.cat_ledger_laws.specs.model.Laws.{CommitsNeedTheirNames, UsedMayBeNamed, CommitsMayBeWritten, SettledAreMerged}
use Rattle.cat_ledger_laws.proofs.model.Users.{Four, All-four}
use Rattle.cat_ledger_laws.proofs.model.Marked.{records-marked}
use Rattle.cat_ledger_laws.proofs.model.Merges.{kept_all}
use Rattle.cat_ledger_laws.proofs.model.Shown.{rows-shown, Apart-map}
use Rattle.cat_ledger_laws.proofs.model.Commits.{AllPairs-from_Apart, file_for_past, newest_all}

-- ---- names

pub commits_need_their_names : CommitsNeedTheirNames
commits_need_their_names schema c = ap (λ l. Name.commit c.generation ∷ l) (of_listed c.listed)
  where
    of_listed : (xs : List Listed) → flat_map names_of_listed xs ≡ flat_map listed_names (map listed_segment xs)
    of_listed [] = refl
    of_listed (x ∷ xs) = ap (λ l. names_of_listed x ++ l) (of_listed xs)

named : (n g : ℕ) → n ≤ last_number + 1 → g ≤ last_number + 1 → (q : Name) → IsPast n g q → IsFileName q
named n g h k (Name.segment m) p = (p.0, omega (arith, p.1, h))
named n g h k (Name.source m) p = (p.0, omega (arith, p.1, h))
named n g h k (Name.live m d) p = ((p.0.0, omega (arith, p.0.1, h)), (p.1.0, omega (arith, p.1.1, k)))
named n g h k (Name.commit d) p = (p.0, omega (arith, p.1, k))

pub used_may_be_named : UsedMayBeNamed
used_may_be_named l ok = All-weaken (IsPast l.next_segment l.next_generation) IsFileName (named l.next_segment l.next_generation ok.fits.1 ok.fits.2) (names_used l) ok.fresh

-- ---- the commit of now

abbrev listed_now : List Listed → ℕ → Portion → Listed
listed_now xs g p = record { portion = p; file = portion_file_for xs g p }

listed_fit : (n g : ℕ) (xs : List Listed) (ps : List Portion) → AllByRecursion (IsPast n g) (flat_map names_of_portion ps)
    → AllByRecursion (IsPast n g) (flat_map names_of_listed xs) → AllByRecursion (IsListed g n) (map listed_segment (map (listed_now xs g) ps))
listed_fit n g xs [] h k = tt
listed_fit n g xs (p ∷ ps) h k =
    let low : portion_file_for xs g p < g + 1 = file_for_past n g xs p k in
    (record { positive = omega (arith, h.0.0); past = h.0.1; file = omega (arith, low) }, listed_fit n g xs ps h.1.1 k)

pub commits_may_be_written : CommitsMayBeWritten
commits_may_be_written text l ok schema form few left =
    let n : ℕ = l.next_segment in
    let g : ℕ = l.next_generation in
    let xs : List Listed = newest_listed l.commits in
    let P : Name → Type 0 = IsPast n g in
    let past : Four P (flat_map names_of_portion l.portions) (flat_map names_of_view l.views) (flat_map names_of_commit l.commits) (names_of_merging l.merging) = All-four P _ _ _ _ ok.fresh in
    let newest : AllByRecursion P (flat_map names_of_listed xs) = newest_all P None l.commits tt past.commits in
    let listed : List ListedSegment = map listed_segment (map (listed_now xs g) l.portions) in
    record {
      generation = (ok.numbers.1, omega (arith, left));
      token = ok.fits.0;
      next_low = omega (arith, ok.numbers.0);
      next_high = ok.fits.1;
      text = form;
      schema = schema;
      few = omega (arith, few, length-map (map (listed_now xs g) l.portions) listed_segment, length-map l.portions (listed_now xs g));
      listed = All-from_recursion (IsListed g n) listed (listed_fit n g xs l.portions past.portions newest);
      distinct = AllPairs-from_Apart (λ (a b : ListedSegment). a.number ≢ b.number) listed
          (Apart-map (λ (a b : ListedSegment). a.number ≢ b.number) listed_segment (map (listed_now xs g) l.portions)
          (Apart-map (λ (x y : Listed). x.portion.number ≢ y.portion.number) (listed_now xs g) l.portions ok.portions.numbers));
    }

-- ---- what is installed

lives_shown : (schema : Schema) (ps : List Portion) → lives_of ps ≡ live_of_all (map (leaf_of schema) ps)
lives_shown schema [] = refl
lives_shown schema (p ∷ ps) = ap (λ l. p.live ++ l) (lives_shown schema ps)

deleted_shown : (schema : Schema) (ps qs : List Portion) → Reduced ps qs → AreDeletedFrom (map (leaf_of schema) ps) (map (leaf_of schema) qs)
deleted_shown schema [] [] h = tt
deleted_shown schema [] (q ∷ qs) h = absurd h
deleted_shown schema (p ∷ ps) [] h = absurd h
deleted_shown schema (p ∷ ps) (q ∷ qs) h = (λ i. record { number = h.0 i; schema = schema; rows = map row_of (h.1 i) }, h.2, deleted_shown schema ps qs h.3)

pub settled_are_merged : SettledAreMerged
settled_are_merged m l ok making done =
    let making_of : IsMergingOf l.portions m = subst (IsMerging l.portions) making ok.merging in
    let kept = kept_all m l.portions making_of ok.portions.lengths done in
    let rows : map row_of m.kept ≡ flat_map live_rows (map (leaf_of l.schema) m.inputs) = ap (map row_of) (kept ∙ records-marked m.inputs making_of.lengths) ∙ rows-shown l.schema m.inputs in
    let live = ap₂ (λ (a b : List Bool). selected a b) (lives_shown l.schema m.inputs) (lives_shown l.schema (portion_window_now m l.portions)) in
    (λ i. record { segment = record { number = m.number; schema = l.schema; rows = rows i }; live = live i }, deleted_shown l.schema m.inputs (portion_window_now m l.portions) making_of.stand)
