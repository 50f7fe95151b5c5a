-- A commit that is ready to be written.
use Rattle.std.specs.Prelude.{◌≡◌, ◌⊎◌, ℕ, ◌==◌, true, false, cond, List, [], ◌∷◌, ◌++◌, map, filter}
use Rattle.std.specs.List.{AllByRecursion}
use Rattle.cat_model.specs.Files.{Name}
use Rattle.cat_model.specs.LiveFile.{SpellsLive}
use Rattle.cat_model.specs.CommitFile.{Version, CommitFile, SpellsCommit, commit_needs}
use Rattle.cat_model.specs.View.{Leaf}
use Rattle.cat_directory.specs.declared.name.FileName.TheVariants as file
use Rattle.cat_ledger_laws.specs.model.Users.{has_name}
use Rattle.cat_ledger_laws.specs.shape.Shapes.{ListedLive}
use Rattle.cat_ledger_laws.specs.shape.Ties.{ToldFiles, TellsBytes}
use Rattle.cat_commits.specs.declared.writing.heading.Heading.{Heading}
use Rattle.cat_commits.specs.writing.Entries.{listing_after}
use Rattle.cat_commits.specs.writing.NewFiles.{CrashLeaves, IsUntouched, NewBytes}
use Rattle.cat_commits.specs.writing.Unsynced.{new_live, unsynced_in}

-- the commit under the heading that lists this
abbrev pub commit_listing : Heading → List ListedLive → CommitFile
commit_listing h xs = record {
  version = Version.second;
  generation = h.generation;
  token = h.token;
  next = h.next_segment;
  text = h.text;
  schema = h.schema;
  segments = map (λ (x : ListedLive). record { number = x.number; file = x.file }) xs;
}

-- a commit that is ready to be written: what it lists, what its own file says, and the files that are synced before that is begun
pub record Drafted : Type 0 where
  pub listing : List ListedLive
  pub commit : CommitFile
  pub unsynced : List Name

-- the draft of the commit under the heading that lists these leaves, after the one that lists these
abbrev pub drafted : List ListedLive → List Leaf → Heading → Drafted
drafted old leaves h = record {
  listing = listing_after old h.generation leaves;
  commit = commit_listing h (listing_after old h.generation leaves);
  unsynced = unsynced_in old h.generation (listing_after old h.generation leaves);
}

-- ---- its files

-- the file is the entry's new live file
pub record IsSpelled (g : ℕ) (x : ListedLive) (f : NewBytes) : Type 0 where
  pub named : f.name ≡ file.Live x.number g
  pub spelled : SpellsLive f.bytes (record { number = x.number; generation = g; live = x.live })

-- the files are those of the entries, in order
abbrev pub AreSpelled : ℕ → List ListedLive → List NewBytes → Type 0
AreSpelled g [] [] = Unit {0}
AreSpelled g [] (f ∷ fs) = ⊥
AreSpelled g (x ∷ xs) [] = ⊥
AreSpelled g (x ∷ xs) (f ∷ fs) = IsSpelled g x f × AreSpelled g xs fs

-- the entries whose live file the commit of the generation writes
abbrev pub new_entries : ℕ → List ListedLive → List ListedLive
new_entries g xs = filter (λ (x : ListedLive). x.file == g) xs

-- the files are those that there were, and behind them the entry's, where it is new
abbrev pub AppendsSpelled : ℕ → ListedLive → List NewBytes → List NewBytes → Type 0
AppendsSpelled g x old new = (fs : List NewBytes) × (new ≡ old ++ fs) × AreSpelled g (cond (x.file == g) (x ∷ []) []) fs

-- what the draft holds: the commit's own file, the new live files, and the names of all files that it needs
pub record IsDrafted (d : Drafted) (own : NewBytes) (files : List NewBytes) (names : List Name) : Type 0 where
  pub named : own.name ≡ file.Commit d.commit.generation
  pub spelled : SpellsCommit own.bytes d.commit
  pub live : AreSpelled d.commit.generation (new_entries d.commit.generation d.listing) files
  pub needed : names ≡ commit_needs d.commit
  pub listed : d.commit.segments ≡ map (λ (x : ListedLive). record { number = x.number; file = x.file }) d.listing
  pub synced : (q : Name) → has_name q (new_live d.commit.generation d.listing) ≡ true → has_name q d.unsynced ≡ true
  pub own_last : has_name (Name.commit d.commit.generation) d.unsynced ≡ false

-- ---- what is told of them once they are written

-- where the entry has a new live file, it is told with the bytes that say its live set
abbrev pub HasNewFile : ToldFiles → ℕ → ListedLive → Type 0
HasNewFile told g x = x.file ≡ g
    → TellsBytes told (file.Live x.number g) (λ bytes. SpellsLive bytes (record { number = x.number; generation = g; live = x.live }))

-- the own file of the commit of the generation is untouched until each new live file is told with the bytes that say its live set
abbrev pub OwnComesBehind : ℕ → List ListedLive → ToldFiles → ToldFiles → CrashLeaves → CrashLeaves → Type 0
OwnComesBehind g xs told told' left left' = IsUntouched (file.Commit g) told told' left left' ⊎ AllByRecursion (HasNewFile told' g) xs
