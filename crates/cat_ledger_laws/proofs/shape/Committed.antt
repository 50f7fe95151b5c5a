-- Commits and snapshots over shapes.
use Rattle.std.proofs.Common.{◌≡◌, ◌≢◌, ℕ, suc, ◌+◌, ◌<◌, ◌≤◌, ◌^◌, List, [], ◌∷◌, ◌++◌, map, filter, length, Bool, true, false, ◌||◌, ◌&&◌, not, cond, Option, Some, None, refl, sym, ◌∙◌, ap, ap₂, subst, arith, inl, inr}
use Rattle.std.specs.Prelude.{◌==◌, ltb}
use Rattle.std.specs.List.{flat_map, last_or, AllByRecursion}
use Rattle.std.proofs.lemmas.Bool.Decides.{eqb_tells}
use Rattle.std.proofs.lemmas.List.{map_push, length-append}
use Rattle.std.proofs.lemmas.List.Sums.{count_by-le-length}
use Rattle.cat_model.specs.Text.{Text}
use Rattle.cat_model.specs.Item.{Schema, IsSchema}
use Rattle.cat_model.specs.Forms.{IsCommitText}
use Rattle.cat_model.specs.Limits.{last_number, segment_limit, view_limit}
use Rattle.cat_model.specs.Files.{Name}
use Rattle.cat_model.specs.LiveFile.{SpellsLive}
use Rattle.cat_model.specs.CommitFile.{ListedSegment, CommitFile, IsCommitFile, SpellsCommit, commit_needs}
use Rattle.cat_model.specs.State.{Taken, Commit, snapshots_in, stays_kept}
use Rattle.cat_model.specs.View.{Leaf, needs}
use Rattle.cat_model.proofs.Lists.{All-weaken, All-each}
use Rattle.cat_model.proofs.Commits.{is_newest-self}
use Rattle.cat_model.proofs.Runs.{last_or-append}
use Rattle.cat_directory.specs.declared.name.FileName.TheVariants as file
use Rattle.cat_ledger_laws.specs.model.Portions.{Portion, Apart, ArePortions, leaf_of}
use Rattle.cat_ledger_laws.specs.model.Users.{Changes, same_file_name, has_name, users_of, times}
use Rattle.cat_ledger_laws.specs.model.Ledger.{Listed, LedgerCommit, Ledger, IsLedger, IsPast, commit_file, commit_shown, names_of_portion, names_of_view, names_of_commit, names_of_merging, users}
use Rattle.cat_ledger_laws.specs.model.Stored.{FileBytes, AreStored, ChangesOnly, IsLiveStored}
use Rattle.cat_ledger_laws.specs.model.Calls.{Committed, Snaps, Unsnapped, same_live, all_alive, listed_in, newest_listed, commit_of, commits_that, commits_not, newest_in}
use Rattle.cat_ledger_laws.specs.model.Calls as model
use Rattle.cat_ledger_laws.proofs.model.Users.{All-split, times-four, Four, All-four}
use Rattle.cat_ledger_laws.proofs.model.Commits.{commits_are_kept, snapshots_are_taken, snapshots_are_given, portions_listed}
use Rattle.cat_ledger_laws.proofs.model.Counted.{users_are_counted, portions_once, commit_once}
use Rattle.cat_ledger_laws.proofs.model.Stored.{commits_store, unsnaps_store}
use Rattle.cat_ledger_laws.proofs.model.Written.{commits_need_their_names, commits_may_be_written}
use Rattle.cat_ledger_laws.specs.shape.Shapes.{ListedLive, Shape, shape_of, recorded_view, listed_live, names_of_commits, view_now}
use Rattle.cat_ledger_laws.specs.shape.Steps.{file_in, file_for, listed_now, commit_file_now, IsCommitted, newest_generation, IsSnapped, IsUnsnapped}
use Rattle.cat_ledger_laws.specs.shape.Ties.{ToldFiles, IsTold, Carries, TouchesOnly, TellsBytes}
use Rattle.cat_ledger_laws.specs.shape.CommitLaws.{shape_files_begun, HasNewLive, WritesCommit, CommitsMake, CommitsKeep, SnapsMake, SnapsKeep, UnsnapsMake, UnsnapsKeep, CommitsMayBeSaid, CommitsAreCounted, UsersFit, NamesComeOnce}
use Rattle.cat_ledger_laws.proofs.shape.Told.{same_again, as_told, with_files, with_files_in, with_files_out, changes_as_told, there_as_told, Lifts, KeepsSound, keeps, makes, makes_untouched}
use Rattle.cat_ledger_laws.proofs.shape.Leaves.{leaves_named, map_filter, map_twice, length_map}

-- ---- what commits say

pub commits_named : (schema : Schema) (cs : List LedgerCommit) → names_of_commits (map (commit_file schema) cs) ≡ flat_map names_of_commit cs
commits_named schema [] = refl
commits_named schema (c ∷ cs) = ap₂ (λ (a b : List Name). a ++ b) (sym (commits_need_their_names schema c)) (commits_named schema cs)

file_in_shown : (schema : Schema) (p : Portion) (xs : List Listed) → file_in (map listed_live xs) (leaf_of schema p) ≡ model.portion_file_in xs p
file_in_shown schema p [] = refl
file_in_shown schema p (x ∷ xs) = ap (cond ((x.portion.number == p.number) && same_live x.portion.live p.live) x.file) (file_in_shown schema p xs)

file_for_shown : (schema : Schema) (g : ℕ) (p : Portion) (xs : List Listed) → file_for (map listed_live xs) g (leaf_of schema p) ≡ model.portion_file_for xs g p
file_for_shown schema g p xs = ap (λ n. cond (all_alive p.live) 0 (cond (n == 0) g n)) (file_in_shown schema p xs)

-- a portion as a commit of the generation lists it
abbrev listed_as : List Listed → ℕ → Portion → Listed
listed_as xs g p = record { portion = p; file = model.portion_file_for xs g p }

-- a leaf, likewise
abbrev listed_leaf : List ListedLive → ℕ → Leaf → ListedLive
listed_leaf xs g leaf = record { number = leaf.segment.number; live = leaf.live; file = file_for xs g leaf }

listed_shown : (schema : Schema) (g : ℕ) (xs : List Listed) (ps : List Portion) → map (listed_leaf (map listed_live xs) g) (map (leaf_of schema) ps) ≡ map listed_live (map (listed_as xs g) ps)
listed_shown schema g xs [] = refl
listed_shown schema g xs (p ∷ ps) = ap₂ (λ (n : ℕ) (rest : List ListedLive). record { number = p.number; live = p.live; file = n } ∷ rest) (file_for_shown schema g p xs) (listed_shown schema g xs ps)

-- what a commit of now lists, as the shape has it
pub now_listed : (text : Text) (l : Ledger) → listed_now (shape_of l) ≡ map listed_live (commit_of text l).listed
now_listed text l = listed_shown l.schema l.next_generation (newest_listed l.commits) l.portions

abbrev segment_listed : ListedLive → ListedSegment
segment_listed x = record { number = x.number; file = x.file }

-- and what its file says
pub now_said : (text : Text) (l : Ledger) → commit_file_now text (shape_of l) ≡ commit_file l.schema (commit_of text l)
now_said text l = λ i. record (commit_file l.schema (commit_of text l)) { segments = (ap (map segment_listed) (now_listed text l) ∙ map_twice listed_live segment_listed (commit_of text l).listed) i }

newest_pushed : (cs : List LedgerCommit) (c : LedgerCommit) → newest_listed (cs ++ c ∷ []) ≡ c.listed
newest_pushed cs c = ap listed_in (last_or-append None cs c)

-- ---- COMMIT

-- the commits that go have the names that the shape gives
given_named : (schema : Schema) (stays : ℕ → Bool) (cs : List LedgerCommit) → names_of_commits (filter (λ c. not (stays c.generation)) (map (commit_file schema) cs)) ≡ flat_map names_of_commit (commits_not stays cs)
given_named schema stays cs = ap names_of_commits (sym (map_filter (commit_file schema) (λ c. not (stays c.generation)) cs)) ∙ commits_named schema (commits_not stays cs)

commit_lifts : (text : Text) (s new : Shape) → IsCommitted text s new → Lifts (Committed text) s new
commit_lifts text s new call l ok e = lifted (subst (λ s. IsCommitted text s new) (sym e) call)
  where
    lifted : IsCommitted text (shape_of l) new → (l' : Ledger) × (shape_of l' ≡ new) × Committed text l l'
    lifted k =
        let g : ℕ = l.next_generation in
        let stays : ℕ → Bool = stays_kept l.taken (Some g) in
        let c : LedgerCommit = commit_of text l in
        let kept : List LedgerCommit = commits_that stays l.commits in
        let l' : Ledger = record l { commits = kept ++ c ∷ []; users = new.users; next_generation = g + 1 } in
        let commits : map (commit_file l.schema) (kept ++ c ∷ []) ≡ filter (λ c. stays c.generation) (map (commit_file l.schema) l.commits) ++ commit_file_now text (shape_of l) ∷ [] =
        map_push (commit_file l.schema) kept c ∙ ap₂ (λ (cs : List CommitFile) (c : CommitFile). cs ++ c ∷ []) (map_filter (commit_file l.schema) (λ c. stays c.generation) l.commits) (sym (now_said text l)) in
        let listed : map listed_live (newest_listed (kept ++ c ∷ [])) ≡ listed_now (shape_of l) = ap (map listed_live) (newest_pushed kept c) ∙ sym (now_listed text l) in
        let named : commit_needs (commit_file_now text (shape_of l)) ≡ names_of_commit c = ap commit_needs (now_said text l) ∙ sym (commits_need_their_names l.schema c) in (
          l',
          (λ i. record (shape_of l') { commits = commits i; listed = listed i }) ∙ sym k.rest,
          record {
            left = k.left;
            users = subst (λ ns. Changes ns (flat_map names_of_commit (commits_not stays l.commits)) l.users new.users) named
                (subst (λ ns. Changes (commit_needs (commit_file_now text (shape_of l))) ns l.users new.users) (given_named l.schema stays l.commits) k.users);
            rest = refl;
          },
        )

commit_sound : (text : Text) (s : Shape) → s.buffered ≡ [] → (l : Ledger) → shape_of l ≡ s → KeepsSound (Committed text) l
commit_sound text s empty l e l' ok call = (commits_are_kept text l l' ok (ap (λ (s : Shape). s.buffered) e ∙ empty) call).0

pub commits_keep : CommitsKeep
commits_keep text s new empty call its = keeps (Committed text) s new (commit_lifts text s new call) (commit_sound text s empty) its

-- ---- the files of a commit

abbrev live_name : ℕ → Portion → Name
live_name g p = Name.live p.number g

-- where a portion gets a new live file, it is thought of, and told
abbrev IsThought : ToldFiles → FileBytes → List Listed → ℕ → Portion → Type 0
IsThought told' thought xs g p = model.portion_file_for xs g p ≡ g
    → (bytes : Text) × IsTold (told' (file.Live p.number g)) (Some bytes) × (thought (Name.live p.number g) ≡ Some bytes) × SpellsLive bytes (record { number = p.number; generation = g; live = p.live })

or_false : (a b : Bool) → (a || b) ≡ false → (a ≡ false) × (b ≡ false)
or_false true b e = absurd (let no : true ≡ false = e in cc)
or_false false b e = (refl, e)

live_differs : (m n g : ℕ) → m ≢ n → same_file_name (Name.live m g) (Name.live n g) ≡ false
live_differs m n g d = elim (eqb_tells m n) [ inl e ↦ absurd (d e.1) | inr e ↦ ap (λ b. b && (g == g)) e.0 ]

module _ (told' : ToldFiles) (xs : List Listed) (g : ℕ) where
  -- what is thought of other portions' files stays thought
  still_thought : (n : ℕ) (bytes : Text) (thought : FileBytes) (ps : List Portion) → AllByRecursion (λ p. n ≢ p.number) ps → AllByRecursion (IsThought told' thought xs g) ps
      → AllByRecursion (IsThought told' (with_files (Name.live n g ∷ []) (λ q. Some bytes) thought) xs g) ps
  still_thought n bytes thought [] d a = tt
  still_thought n bytes thought (p ∷ ps) d a = (
    (λ e.
        let t = a.0 e in
        let apart : has_name (Name.live p.number g) (Name.live n g ∷ []) ≡ false = ap (λ b. b || false) (live_differs p.number n g (λ same. d.0 (sym same))) in
        (t.0, t.1, with_files_out (Name.live n g ∷ []) (λ q. Some bytes) thought (Name.live p.number g) apart ∙ t.2, t.3)),
    still_thought n bytes thought ps d.1 a.1,
  )

  -- there are files with all that is told of new live files, and none but these are others
  live_thought : (files : FileBytes) (ps : List Portion) → Apart (λ p q. p.number ≢ q.number) ps
      → AllByRecursion (λ p. model.portion_file_for xs g p ≡ g → TellsBytes told' (file.Live p.number g) (λ bytes. SpellsLive bytes (record { number = p.number; generation = g; live = p.live }))) ps
      → (thought : FileBytes) × ChangesOnly (map (live_name g) ps) files thought × AllByRecursion (IsThought told' thought xs g) ps
  live_thought files [] d a = (files, (λ q h. refl), tt)
  live_thought files (p ∷ ps) d a =
      let rest = live_thought files ps d.1 a.1 in
      elim (eqb_tells (model.portion_file_for xs g p) g) [
        | inl e ↦
            let own = a.0 e.1 in (
              with_files (Name.live p.number g ∷ []) (λ q. Some own.0) rest.0,
              (λ q h. let k = or_false (same_file_name q (Name.live p.number g)) (has_name q (map (live_name g) ps)) h in
                  with_files_out (Name.live p.number g ∷ []) (λ q. Some own.0) rest.0 q (ap (λ b. b || false) k.0) ∙ rest.1 q k.1),
              ((λ same. (own.0, own.1, with_files_in (Name.live p.number g ∷ []) (λ q. Some own.0) rest.0 (Name.live p.number g) (ap (λ b. b || false) (same_again (Name.live p.number g))), own.2)), still_thought p.number own.0 rest.0 ps d.0 rest.2),
            )
        | inr e ↦ (
          rest.0,
          (λ q h. rest.1 q (or_false (same_file_name q (Name.live p.number g)) (has_name q (map (live_name g) ps)) h).1),
          ((λ same. absurd (e.1 same)), rest.2),
        )
      ]

new_live : (told' : ToldFiles) (l : Ledger) (ps : List Portion) → AllByRecursion (HasNewLive told' (shape_of l)) (map (leaf_of l.schema) ps)
    → AllByRecursion (λ p. model.portion_file_for (newest_listed l.commits) l.next_generation p ≡ l.next_generation → TellsBytes told' (file.Live p.number l.next_generation) (λ bytes. SpellsLive bytes (record { number = p.number; generation = l.next_generation; live = p.live }))) ps
new_live told' l [] a = tt
new_live told' l (p ∷ ps) a = ((λ e. a.0 (file_for_shown l.schema l.next_generation p (newest_listed l.commits) ∙ e)), new_live told' l ps a.1)

begun_shown : (l : Ledger) → shape_files_begun (shape_of l) ≡ model.files_begun l
begun_shown l = ap (λ ns. Name.commit l.next_generation ∷ ns) (map_twice (leaf_of l.schema) (λ (leaf : Leaf). Name.live leaf.segment.number l.next_generation) l.portions)

commit_stores : (text : Text) (told told' : ToldFiles) (l l' : Ledger) (files : FileBytes) → WritesCommit text (shape_of l) told told' → Carries told (shape_of l) l files → Committed text l l' → (thought : FileBytes) × AreStored (as_told told' thought) l'
commit_stores text told told' l l' files w c call =
    let g : ℕ = l.next_generation in
    let own : List Name = Name.commit g ∷ [] in
    let xs : List Listed = newest_listed l.commits in
    let lives = live_thought told' xs g files l.portions c.sound.portions.numbers (new_live told' l l.portions w.live) in
    let thought : FileBytes = with_files own (λ q. Some w.commit.0) lives.0 in
    let changes : ChangesOnly (model.files_begun l) files thought = λ q h.
    let k = or_false (same_file_name q (Name.commit g)) (has_name q (map (live_name g) l.portions)) h in
    with_files_out own (λ q. Some w.commit.0) lives.0 q (ap (λ b. b || false) k.0) ∙ lives.1 q k.1 in (
      thought,
      commits_store text l l' files (as_told told' thought) c.sound c.stored call
          (changes_as_told (model.files_begun l) told told' files thought c.agrees (subst (λ ns. TouchesOnly ns told told') (begun_shown l) w.others) changes)
          (record {
            bytes = w.commit.0;
            there = there_as_told told' thought (Name.commit g) (Some w.commit.0) w.commit.1 (with_files_in own (λ q. Some w.commit.0) lives.0 (Name.commit g) (ap (λ b. b || false) (same_again (Name.commit g))));
            spelled = subst (SpellsCommit w.commit.0) (now_said text l) w.commit.2;
          })
          (stored thought l.portions lives.2),
    )
  where
    stored : (thought : FileBytes) (ps : List Portion) → AllByRecursion (IsThought told' thought (newest_listed l.commits) l.next_generation) ps
        → AllByRecursion (λ p. model.portion_file_for (newest_listed l.commits) l.next_generation p ≡ l.next_generation → IsLiveStored (as_told told' thought) (record { portion = p; file = l.next_generation })) ps
    stored thought [] a = tt
    stored thought (p ∷ ps) a = ((λ e. let t = a.0 e in record { bytes = t.0; there = there_as_told told' thought (Name.live p.number l.next_generation) (Some t.0) t.1 t.2; spelled = t.3 }), stored thought ps a.1)

pub commits_make : CommitsMake
commits_make text s new told told' empty call w = makes (Committed text) told told' s new (commit_lifts text s new call) (commit_sound text s empty) (λ l l' files c k.
    commit_stores text told told' l l' files (subst (λ s. WritesCommit text s told told') (sym c.shape) w) (record { shape = refl; sound = c.sound; stored = c.stored; agrees = c.agrees }) k)

-- ---- SNAP and UNSNAP

newest_shown : (schema : Schema) (cs : List LedgerCommit) → newest_generation (map (commit_file schema) cs) ≡ newest_in cs
newest_shown schema cs = ap (last_or None) (map_twice (commit_file schema) (λ (c : CommitFile). c.generation) cs ∙ sym (map_twice commit_shown (λ (c : Commit). c.generation) cs))

snap_lifts : (g : ℕ) (s new : Shape) → IsSnapped g s new → Lifts (Snaps g) s new
snap_lifts g s new call l ok e = lifted (subst (λ s. IsSnapped g s new) (sym e) call)
  where
    lifted : IsSnapped g (shape_of l) new → (l' : Ledger) × (shape_of l' ≡ new) × Snaps g l l'
    lifted k = (record l { taken = new.taken }, sym k.rest, record { newest = sym (newest_shown l.schema l.commits) ∙ k.newest; taken = k.taken; rest = refl })

snap_sound : (g : ℕ) (l : Ledger) → KeepsSound (Snaps g) l
snap_sound g l l' ok call = (snapshots_are_taken g l l' ok call).0

pub snaps_make : SnapsMake
snaps_make g s new told told' call same = makes_untouched (Snaps g) told told' s new same (snap_lifts g s new call) (λ l e. snap_sound g l)
    (λ l l' files c k. subst (AreStored files) (sym k.rest) (record { portions = c.stored.portions; views = c.stored.views; commits = c.stored.commits; merging = c.stored.merging }))

pub snaps_keep : SnapsKeep
snaps_keep g s new call its = keeps (Snaps g) s new (snap_lifts g s new call) (λ l e. snap_sound g l) its

-- the newest commit stays, whatever goes
module _ (taken : List Taken) where
  newest_stays : (newest : Option ℕ) (o p : Option LedgerCommit) (c : LedgerCommit) (cs : List LedgerCommit) → newest ≡ last_or (Some c.generation) (map (λ (d : LedgerCommit). d.generation) cs)
      → last_or p (commits_that (stays_kept taken newest) (c ∷ cs)) ≡ last_or o (c ∷ cs)
  newest_stays newest o p c [] e =
      let yes : stays_kept taken newest c.generation ≡ true = ap (λ n. stays_kept taken n c.generation) e ∙ ap (λ b. b || ltb 0 (snapshots_in taken c.generation)) (is_newest-self c.generation) in
      ap (λ b. last_or p (cond b (c ∷ []) [])) yes
  newest_stays newest o p c (d ∷ cs) e = by (stays_kept taken newest c.generation) (newest_stays newest (Some c) (Some c) d cs e) (newest_stays newest (Some c) p d cs e)
    where
      by : (b : Bool) → last_or (Some c) (commits_that (stays_kept taken newest) (d ∷ cs)) ≡ last_or (Some c) (d ∷ cs) → last_or p (commits_that (stays_kept taken newest) (d ∷ cs)) ≡ last_or (Some c) (d ∷ cs)
          → last_or p (cond b (c ∷ commits_that (stays_kept taken newest) (d ∷ cs)) (commits_that (stays_kept taken newest) (d ∷ cs))) ≡ last_or (Some c) (d ∷ cs)
      by true h k = h
      by false h k = k

  newest_listed_stays : (cs : List LedgerCommit) → newest_listed (commits_that (stays_kept taken (newest_in cs)) cs) ≡ newest_listed cs
  newest_listed_stays [] = refl
  newest_listed_stays (c ∷ cs) = ap listed_in (newest_stays (newest_in (c ∷ cs)) None None c cs (ap (last_or (Some c.generation)) (map_twice commit_shown (λ (d : Commit). d.generation) cs)))

unsnap_lifts : (g : ℕ) (s new : Shape) → IsUnsnapped g s new → Lifts (Unsnapped g) s new
unsnap_lifts g s new call l ok e = lifted (subst (λ s. IsUnsnapped g s new) (sym e) call)
  where
    lifted : IsUnsnapped g (shape_of l) new → (l' : Ledger) × (shape_of l' ≡ new) × Unsnapped g l l'
    lifted k =
        let same : newest_generation (map (commit_file l.schema) l.commits) ≡ newest_in l.commits = newest_shown l.schema l.commits in
        let stays : ℕ → Bool = stays_kept new.taken (newest_in l.commits) in
        let kept : List LedgerCommit = commits_that stays l.commits in
        let l' : Ledger = record l { taken = new.taken; commits = kept; users = new.users } in
        let commits : map (commit_file l.schema) kept ≡ filter (λ c. stays_kept new.taken (newest_generation (map (commit_file l.schema) l.commits)) c.generation) (map (commit_file l.schema) l.commits) =
        map_filter (commit_file l.schema) (λ c. stays c.generation) l.commits ∙ ap (λ n. filter (λ c. stays_kept new.taken n c.generation) (map (commit_file l.schema) l.commits)) (sym same) in (
          l',
          (λ i. record (shape_of l') { commits = commits i; listed = map listed_live (newest_listed_stays new.taken l.commits i) }) ∙ sym k.rest,
          record {
            some = k.some;
            taken = k.taken;
            users = subst (λ ns. Changes [] ns l.users new.users)
                (ap (λ n. names_of_commits (filter (λ c. not (stays_kept new.taken n c.generation)) (map (commit_file l.schema) l.commits))) same ∙ given_named l.schema stays l.commits) k.users;
            rest = refl;
          },
        )

unsnap_sound : (g : ℕ) (l : Ledger) → KeepsSound (Unsnapped g) l
unsnap_sound g l l' ok call = (snapshots_are_given g l l' ok call).0

pub unsnaps_make : UnsnapsMake
unsnaps_make g s new told told' call same = makes_untouched (Unsnapped g) told told' s new same (unsnap_lifts g s new call) (λ l e. unsnap_sound g l) (λ l l' files c k. unsnaps_store g l l' files c.stored k)

pub unsnaps_keep : UnsnapsKeep
unsnaps_keep g s new call its = keeps (Unsnapped g) s new (unsnap_lifts g s new call) (λ l e. unsnap_sound g l) its

-- ---- what a shape gives

pub commits_may_be_said : CommitsMayBeSaid
commits_may_be_said text s its = subst (λ s. IsSchema s.schema → IsCommitText text → length s.leaves ≤ segment_limit → s.next_generation ≤ last_number → IsCommitFile (commit_file_now text s)) its.1 (λ schema form few left.
    subst IsCommitFile (sym (now_said text its.0)) (commits_may_be_written text its.0 its.2 schema form (omega (arith, few, length_map (leaf_of its.0.schema) its.0.portions)) left))

pub commits_are_counted : CommitsAreCounted
commits_are_counted s its q =
    let l : Ledger = its.0 in
    subst (λ s. times q (names_of_commits s.commits) ≤ users_of s.users q) its.1 (omega (
      arith,
      its.2.users q,
      times-four q (flat_map names_of_portion l.portions) (flat_map names_of_view l.views) (flat_map names_of_commit l.commits) (names_of_merging l.merging),
      ap (times q) (commits_named l.schema l.commits),
    ))

-- rising generations from a lower to an upper number are at most as many as the numbers between
few_commits : (n g low : ℕ) (cs : List LedgerCommit) → low ≤ g → AllByRecursion (λ c. low ≤ c.generation) cs → AllByRecursion (IsPast n g) (flat_map names_of_commit cs) → Apart (λ c d. c.generation < d.generation) cs → length cs + low ≤ g
few_commits n g low [] h a p r = omega (arith, h)
few_commits n g low (c ∷ cs) h a p r =
    let k = All-split (IsPast n g) (names_of_commit c) (flat_map names_of_commit cs) p in
    let past : c.generation < g = k.0.0.1 in
    let from : low ≤ c.generation = a.0 in
    let rest : length cs + (c.generation + 1) ≤ g = few_commits n g (c.generation + 1) cs (omega (arith, past)) (All-weaken (λ d. c.generation < d.generation) (λ d. c.generation + 1 ≤ d.generation) (λ d e. omega (arith, e)) cs r.0) k.1 r.1 in
    omega (arith, rest, from)

pub users_fit : UsersFit
users_fit s q its few =
    let l : Ledger = its.0 in
    let ok : IsLedger l = its.2 in
    let past : Four (IsPast l.next_segment l.next_generation) (flat_map names_of_portion l.portions) (flat_map names_of_view l.views) (flat_map names_of_commit l.commits) (names_of_merging l.merging) = All-four (IsPast l.next_segment l.next_generation) _ _ _ _ ok.fresh in
    let all_low : AllByRecursion (λ c. 0 ≤ c.generation) l.commits = All-each (λ c. 0 ≤ c.generation) (λ c. omega arith) l.commits in
    let commits : length l.commits + 0 ≤ l.next_generation = few_commits l.next_segment l.next_generation 0 l.commits (omega arith) all_low past.commits ok.generations in
    let views : length l.views ≤ view_limit = subst (λ n. n ≤ view_limit) (length_map (recorded_view l.schema) l.views) (subst (λ (s : Shape). length s.views ≤ view_limit) (sym its.1) few) in
    let many : length (users l) ≡ suc (length l.views + (length l.commits + 1)) =
    ap suc (length-append (map names_of_view l.views) (map names_of_commit l.commits ++ names_of_merging l.merging ∷ []) ∙ ap₂ (λ a b. a + b) (length_map names_of_view l.views)
    (length-append (map names_of_commit l.commits) (names_of_merging l.merging ∷ []) ∙ ap (λ n. n + 1) (length_map names_of_commit l.commits))) in
    subst (λ (s : Shape). users_of s.users q + 2 < 2 ^ 64) its.1 (omega (arith, users_are_counted l ok q, count_by-le-length (has_name q) (users l), many, views, commits, ok.fits.2))

pub names_come_once : NamesComeOnce
names_come_once text s q its =
    let l : Ledger = its.0 in
    subst (λ s. (times q (commit_needs (commit_file_now text s)) ≤ 1) × (times q (needs (view_now s)) ≤ 1)) its.1 (
      omega (
        arith,
        ap (λ c. times q (commit_needs c)) (now_said text l),
        ap (times q) (commits_need_their_names l.schema (commit_of text l)),
        commit_once q (commit_of text l) (subst ArePortions (sym (portions_listed (newest_listed l.commits) l.next_generation l.portions)) its.2.portions),
      ),
      omega (arith, ap (times q) (leaves_named l.schema l.portions), portions_once q l.portions its.2.portions),
    )
