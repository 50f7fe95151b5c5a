-- What a COMMIT that is refused behind its sync has tried, and what it promises.
use Rattle.std.proofs.Common.{◌≡◌, ◌⊎◌, ℕ, ◌<◌, ◌≤◌, ◌+◌, Bool, true, false, ◌||◌, cond, List, [], ◌∷◌, ◌++◌, map, Some, None, refl, sym, ◌∙◌, ap, subst, arith, inl, inr}
use Rattle.std.specs.Prelude.{◌≢◌, ◌==◌}
use Rattle.std.specs.List.{flat_map, AllByRecursion}
use Rattle.std.proofs.lemmas.Bool.Decides.{eqb_tells}
use Rattle.std.proofs.lemmas.List.Elements.{recursion_from_All}
use Rattle.cat_model.specs.CommitFile.{IsCommitFile, IsListed, listed_names, spelled_commit}
use Rattle.cat_model.specs.Files.{Name}
use Rattle.cat_model.specs.Limits.{last_number}
use Rattle.cat_model.specs.Text.{Text}
use Rattle.cat_model.specs.View.{Leaf}
use Rattle.cat_directory.specs.Devices.{FileContent, IsSettled, IsTorn, NoMore, Told}
use Rattle.cat_directory.specs.Names.{name_of}
use Rattle.cat_directory.specs.declared.name.FileName.{FileName}
use Rattle.cat_directory.specs.declared.name.FileName.TheVariants as file
use Rattle.cat_ledger_laws.specs.model.Calls.{Flushes}
use Rattle.cat_ledger_laws.specs.model.Ledger.{IsNew}
use Rattle.cat_ledger_laws.specs.model.Users.{has_name, same_file_name}
use Rattle.cat_ledger_laws.proofs.model.Counted.{same_name_is}
use Rattle.cat_ledger_laws.specs.shape.CommitLaws.{HasNewLive, names_begun, shape_files_begun}
use Rattle.cat_ledger_laws.specs.shape.Shapes.{IsShape, ListedLive, Shape}
use Rattle.cat_ledger_laws.specs.shape.Steps.{commit_file_now, file_for, listed_now}
use Rattle.cat_ledger_laws.specs.shape.Ties.{Makes, ToldFiles, TouchesOnly}
use Rattle.cat_ledger_laws.specs.shape.Tried.{TriedCommit, TriesCommit, tried_lists}
use Rattle.cat_ledger_laws.proofs.shape.Listed.{names_are_begun}
use Rattle.cat_ledger_laws.proofs.shape.Tried.{making_is_apart, no_commit_listed, tried_begin}
use Rattle.cat_ledger_laws.specs.lines.TriedLaws.{IsPromisedBy}
use Rattle.cat_ledger_laws.proofs.lines.Refused.{flushed_are_promised}
use Rattle.cat_ledger_state.specs.cat_commits.writing.Drafts.{HasNewFile, OwnComesBehind}
use Rattle.cat_ledger_state.specs.cat_commits.writing.NewFiles.{AreSettled, ComesLast, OnlyTorn}
use Rattle.cat_ledger_state.specs.cat_commits.writing.Laws.{NeededAreSynced}
use Rattle.cat_ledger_state.specs.Commits.{names_synced}
use Rattle.cat_ledger_state.specs.Cores.{HasFlushed, HasGivenUp, is_begun}
use Rattle.cat_ledger.specs.Histories.{MayHaveTried, SparesOtherCommits}
use Rattle.cat_ledger.specs.Lasting.{newest_needs}
use Rattle.cat_ledger.specs.upkeep.Spared.{SparesCommits}
use Rattle.cat_ledger.proofs.Histories.{same_or}
use Rattle.cat_ledger.proofs.Lasting.{call_keeps, lets_flush, newest_old, now_needs}
use Rattle.cat_ledger.proofs.Made.{flush_made, flushed_count, flushed_empty, flushed_generation, flushed_schema, none_is}

-- ---- files that are told

content_of : Told → FileContent
content_of None = None
content_of (Some content) = content

content_told : (t : Told) → t ≢ None → t ≡ Some (content_of t)
unfolding content_of
content_told None tells = absurd (tells refl)
content_told (Some content) tells = refl

-- a commit of now, with the files as they are told
pub tried_now : Text → Shape → ToldFiles → TriedCommit
tried_now text s told = record { commit = commit_file_now text s; files = λ q. content_of (told q) }

-- ---- names

in_second : (a b : Bool) → b ≡ true → (a || b) ≡ true
in_second true b e = refl
in_second false b e = e

neither : (a b : Bool) → (a || b) ≡ false → (a ≡ false) × (b ≡ false)
neither true b e = absurd (let no : true ≡ false = e in cc)
neither false b e = (refl, e)

either : (a b : Bool) → (a || b) ≡ true → (a ≡ true) ⊎ (b ≡ true)
either true b e = inl refl
either false b e = inr e

-- the live files of a generation, those that a commit begins and those of all segments
abbrev new_of : ℕ → List ListedLive → List Name
new_of g xs = flat_map (λ (x : ListedLive). cond (x.file == g) (Name.live x.number x.file ∷ []) []) xs

abbrev entry : List ListedLive → ℕ → Leaf → ListedLive
entry old g leaf = record { number = leaf.segment.number; live = leaf.live; file = file_for old g leaf }

abbrev all_of : ℕ → List Leaf → List Name
all_of g leaves = map (λ (leaf : Leaf). Name.live leaf.segment.number g) leaves

-- a name that is none of all is none of those that are begun
none_new : (old : List ListedLive) (g : ℕ) (q : Name) (leaves : List Leaf) → has_name q (all_of g leaves) ≡ false → has_name q (new_of g (map (entry old g) leaves)) ≡ false
none_new old g q [] e = refl
none_new old g q (leaf ∷ leaves) e =
    let parts = neither (same_file_name q (Name.live leaf.segment.number g)) (has_name q (all_of g leaves)) e in
    let rest = none_new old g q leaves parts.1 in
    by (file_for old g leaf) (eqb_tells (file_for old g leaf) g) parts.0 rest
  where
    by : (n : ℕ) → (((n == g) ≡ true) × (n ≡ g)) ⊎ (((n == g) ≡ false) × (n ≢ g)) → same_file_name q (Name.live leaf.segment.number g) ≡ false
        → has_name q (new_of g (map (entry old g) leaves)) ≡ false
        → has_name q (cond (n == g) (Name.live leaf.segment.number n ∷ []) [] ++ new_of g (map (entry old g) leaves)) ≡ false
    by n (inl is) other rest =
        subst (λ (b : Bool). has_name q (cond b (Name.live leaf.segment.number n ∷ []) [] ++ new_of g (map (entry old g) leaves)) ≡ false) (sym is.0)
        (subst (λ m. (same_file_name q (Name.live leaf.segment.number m) || has_name q (new_of g (map (entry old g) leaves))) ≡ false) (sym is.1)
        (ap (λ b. b || has_name q (new_of g (map (entry old g) leaves))) other ∙ rest))
    by n (inr k) other rest =
        subst (λ (b : Bool). has_name q (cond b (Name.live leaf.segment.number n ∷ []) [] ++ new_of g (map (entry old g) leaves)) ≡ false) (sym k.0) rest

-- so what touches only these touches only those
touches_all : (s : Shape) (told told' : ToldFiles) → TouchesOnly (names_begun s) told told' → TouchesOnly (shape_files_begun s) told told'
touches_all s told told' only q e =
    let parts = neither (same_file_name (name_of q) (Name.commit s.next_generation)) (has_name (name_of q) (all_of s.next_generation s.leaves)) e in
    only q (ap (λ b. b || has_name (name_of q) (new_of s.next_generation (listed_now s))) parts.0
    ∙ none_new s.listed s.next_generation (name_of q) s.leaves parts.1)

-- the live files that are told of entries are told of their leaves
live_of : (told : ToldFiles) (s : Shape) (leaves : List Leaf) → AllByRecursion (HasNewFile told s.next_generation) (map (entry s.listed s.next_generation) leaves)
    → AllByRecursion (HasNewLive told s) leaves
live_of told s [] a = tt
live_of told s (leaf ∷ leaves) a = (a.0, live_of told s leaves a.1)

-- ---- what the call leaves

given_touches : (begun : List Name) (told told' : ToldFiles) (s new : Shape) → HasGivenUp begun told s told' new → TouchesOnly begun told told'
given_touches begun told told' s new (inl k) q e = k.1 q
given_touches begun told told' s new (inr k) q e = k.1 q e

given_merging : (begun : List Name) (told told' : ToldFiles) (s new : Shape) → HasGivenUp begun told s told' new → new.merging ≡ s.merging
given_merging begun told told' s new (inl k) = ap (λ (x : Shape). x.merging) k.0
given_merging begun told told' s new (inr k) = ap (λ (x : Shape). x.merging) k.0.rest

given_segments : (begun : List Name) (told told' : ToldFiles) (s new : Shape) → HasGivenUp begun told s told' new → s.next_segment ≤ new.next_segment
given_segments begun told told' s new (inl k) = omega (arith, ap (λ (x : Shape). x.next_segment) k.0)
given_segments begun told told' s new (inr k) = k.0.segments

-- ---- what was tried

module _ (law : NeededAreSynced) (text : Text) (told told' told'' : ToldFiles) (left left' left'' : FileName → FileContent → Type 0) (s mid new : Shape) (its : IsShape mid)
    (tells : (q : FileName) → told'' q ≢ None) (generation : mid.next_generation ≡ s.next_generation) (form : IsCommitFile (commit_file_now text mid))
    (given : HasGivenUp (names_begun mid) told' mid told'' new) where
  abbrev pub tried : TriedCommit
  tried = tried_now text mid told''

  module _ (spared : (q : FileName) → is_begun (names_begun mid) q ≡ false → NoMore (left' q) (left'' q))
      (newest : (q : FileName) → has_name (name_of q) (newest_needs mid.commits) ≡ true → IsSettled (told' q) (left' q))
      (synced : (q : FileName) → has_name (name_of q) (names_synced mid) ≡ true → IsSettled (told'' q) (left'' q)) where
    is_told : (q : FileName) → told'' q ≡ Some (content_of (told'' q))
    is_told q = content_told (told'' q) (tells q)

    -- a file that the newest commit needs too
    of_newest : (q : FileName) → has_name (name_of q) (newest_needs mid.commits) ≡ true → (e : FileContent) → left'' q e → e ≡ content_of (told'' q)
    of_newest q needed e after =
        let apart : is_begun (names_begun mid) q ≡ false =
        none_is mid.next_segment mid.next_generation (names_begun mid) (name_of q) (names_are_begun text mid its).new (newest_old mid its q needed) in
        newest q needed (content_of (told'' q)) e (sym (given_touches (names_begun mid) told' told'' mid new given q apart) ∙ is_told q) (spared q apart e after)

    -- each file that it lists would outlast a loss of power
    listed_settled : (q : FileName) → has_name (name_of q) (tried_lists tried) ≡ true → (e : FileContent) → left'' q e → e ≡ tried.files q
    unfolding tried_now
    listed_settled q listed e after =
        elim (now_needs law text mid its (name_of q) (in_second (same_file_name (name_of q) (Name.commit mid.next_generation)) (has_name (name_of q) (flat_map listed_names (commit_file_now text mid).segments)) listed)) [
          | inl before ↦ elim (either (same_file_name (name_of q) (Name.commit mid.next_generation)) (has_name (name_of q) (names_synced mid)) before) [
            | inl own ↦
                absurd (no_commit_listed (commit_file_now text mid).segments (commit_file_now text mid).generation (commit_file_now text mid).next mid.next_generation
                (recursion_from_All (IsListed (commit_file_now text mid).generation (commit_file_now text mid).next) (commit_file_now text mid).segments form.listed)
                (subst (λ n. has_name n (flat_map listed_names (commit_file_now text mid).segments) ≡ true) (same_name_is (name_of q) (Name.commit mid.next_generation) own) listed))
            | inr some ↦ synced q some (content_of (told'' q)) e (is_told q) after
          ]
          | inr needed ↦ of_newest q needed e after
        ]

    pub tries : SparesCommits left left' → s.next_generation < new.next_generation → ((e : FileContent) → left (file.Commit s.next_generation) e → e ≡ None)
        → ((e : FileContent) → left'' (file.Commit mid.next_generation) e → left' (file.Commit mid.next_generation) e ⊎ IsTorn (spelled_commit (commit_file_now text mid)) e)
        → TriesCommit left left'' s new tried
    unfolding tried_now
    tries flush taken fresh torn = record {
      form = form;
      generation = generation;
      next = given_segments (names_begun mid) told' told'' mid new given;
      taken = taken;
      fresh = fresh;
      torn = λ e after. elim (torn e (subst (λ n. left'' (file.Commit n) e) (sym generation) after)) [
        | inl before ↦ inl (flush s.next_generation e (subst (λ n. left' (file.Commit n) e) generation before))
        | inr t ↦ inr t
      ];
      order = inr listed_settled;
      apart = λ m making. making_is_apart text mid m its (sym (given_merging (names_begun mid) told' told'' mid new given) ∙ making);
    }

  -- and what it promises
  pub promises : Makes Flushes told s told' mid → (s.count ≡ mid.count) × (s.schema ≡ mid.schema) → mid.buffered ≡ [] → mid.next_generation ≤ last_number
      → AllByRecursion (HasNewFile told'' mid.next_generation) (listed_now mid) → IsPromisedBy told s tried
  unfolding tried_now
  promises flushes same empty room live =
      flushed_are_promised text told told' told'' s mid tried flushes same empty form room
      (touches_all mid told' told'' (given_touches (names_begun mid) told' told'' mid new given)) (live_of told'' mid mid.leaves live) refl
      (λ q. content_told (told'' q) (tells q))

-- ---- a COMMIT that is refused

-- what is tried has the text
tried_text : (text : Text) (s : Shape) (told : ToldFiles) → (tried_now text s told).commit.text ≡ text
unfolding tried_now
tried_text text s told = refl

-- and the generation
tried_generation : (text : Text) (s : Shape) (told : ToldFiles) → (tried_now text s told).commit.generation ≡ s.next_generation
unfolding tried_now
tried_generation text s told = refl

module _ {D : Type 0} (bytes : D → ToldFiles) (left : D → FileName → FileContent → Type 0)
    (stay : (d : D) (q : FileName) (e : FileContent) → bytes d q ≡ Some e → left d q e) (law : NeededAreSynced) (text : Text)
    (d d' d'' : D) (s mid new : Shape) (its : IsShape mid) (flush : HasFlushed (bytes d) s (bytes d') mid)
    (crash : (q : FileName) → (IsNew s.next_segment s.next_generation (name_of q) → ⊥) → NoMore (left d q) (left d' q))
    (commits : SparesCommits (left d) (left d')) (others : SparesOtherCommits s.next_generation (left d) (left d'')) where
  next_same : mid.next_generation ≡ s.next_generation
  next_same = flushed_generation (bytes d) (bytes d') s mid flush

  -- where its own file is untouched, no file of a commit is touched
  none_touched : NoMore (left d' (file.Commit mid.next_generation)) (left d'' (file.Commit mid.next_generation)) → SparesCommits (left d) (left d'')
  none_touched same g = by (same_or g s.next_generation)
    where
      by : (g ≡ s.next_generation) ⊎ (g ≢ s.next_generation) → NoMore (left d (file.Commit g)) (left d'' (file.Commit g))
      by (inl is) e after = commits g e (subst (λ n. NoMore (left d' (file.Commit n)) (left d'' (file.Commit n))) (next_same ∙ sym is) same e after)
      by (inr other) e after = others g other e after

  module _ (form : IsCommitFile (commit_file_now text mid)) (room : mid.next_generation ≤ last_number)
      (given : HasGivenUp (names_begun mid) (bytes d') mid (bytes d'') new)
      (spared : (q : FileName) → is_begun (names_begun mid) q ≡ false → NoMore (left d' q) (left d'' q))
      (torn : OnlyTorn (file.Commit mid.next_generation) (spelled_commit (commit_file_now text mid)) (bytes d') (left d') (left d'')) where
    its_tried : s.next_generation < new.next_generation → AreSettled (names_synced mid) (bytes d'') (left d'')
        → AllByRecursion (HasNewFile (bytes d'') mid.next_generation) (listed_now mid) → MayHaveTried bytes left text d s d'' new
    its_tried next settled live = inr (
      tried_now text mid (bytes d''),
      tried_text text mid (bytes d''),
      tried_generation text mid (bytes d'') ∙ next_same,
      next,
      λ lasts always.
          let makes = flush_made (bytes d) (bytes d') s mid flush in
          let kept = call_keeps bytes left stay Flushes lets_flush d d' s mid makes (λ q old apart. crash q old) lasts in (
            λ fresh.
                tried_begin left d d'' s new (tried_now text mid (bytes d''))
                (tries law text (bytes d) (bytes d') (bytes d'') (left d) (left d') (left d'') s mid new its (always d'') next_same form given spared
                (kept.lasts always) settled commits next (λ e before. fresh s.next_generation (omega arith) e before)
                (λ e after. torn (content_of (bytes d' (file.Commit mid.next_generation))) (content_told (bytes d' (file.Commit mid.next_generation)) (always d' (file.Commit mid.next_generation))) e after)),
            promises law text (bytes d) (bytes d') (bytes d'') (left d) (left d') (left d'') s mid new its (always d'') next_same form given makes
                (sym (flushed_count (bytes d) (bytes d') s mid flush), sym (flushed_schema (bytes d) (bytes d') s mid flush))
                (flushed_empty (bytes d) (bytes d') s mid flush) room live,
          ),
    )

    -- It has tried one only where both that its own file comes behind the sync and behind the new live files leave it touched.
    pub may_have_tried : (new.next_generation ≡ mid.next_generation + 1) ⊎ (◌≡◌ {A = D} d'' d')
        → ComesLast (file.Commit mid.next_generation) (names_synced mid) (bytes d') (bytes d'') (left d') (left d'')
        → OwnComesBehind mid.next_generation (listed_now mid) (bytes d') (bytes d'') (left d') (left d'') → MayHaveTried bytes left text d s d'' new
    may_have_tried (inr same) order behind = inl (subst (λ (x : D). SparesCommits (left d) (left x)) (sym same) commits)
    may_have_tried (inl next) (inl same) behind = inl (none_touched same.left_same)
    may_have_tried (inl next) (inr settled) (inl same) = inl (none_touched same.left_same)
    may_have_tried (inl next) (inr settled) (inr live) = its_tried (omega (arith, next, next_same)) settled live
