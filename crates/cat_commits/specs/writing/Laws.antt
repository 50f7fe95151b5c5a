-- What a draft that is written makes of a ledger's files.
use Rattle.std.specs.Prelude.{◌≡◌, ◌⊎◌, true, List, ◌∷◌}
use Rattle.std.specs.List.{AllByRecursion}
use Rattle.cat_model.specs.Text.{Text}
use Rattle.cat_model.specs.Files.{Name}
use Rattle.cat_model.specs.CommitFile.{SpellsCommit, commit_needs}
use Rattle.cat_model.specs.View.{Leaf}
use Rattle.cat_ledger_laws.specs.model.Users.{has_name}
use Rattle.cat_directory.specs.declared.name.FileName.TheVariants as file
use Rattle.cat_ledger_laws.specs.shape.Shapes.{ListedLive, Shape}
use Rattle.cat_ledger_laws.specs.shape.Steps.{listed_now, commit_file_now}
use Rattle.cat_ledger_laws.specs.shape.Ties.{ToldFiles, TouchesOnly, TellsBytes}
use Rattle.cat_ledger_laws.specs.shape.CommitLaws.{WritesCommit, names_begun}
use Rattle.cat_commits.specs.declared.writing.heading.Heading.{Heading}
use Rattle.cat_commits.specs.writing.Unsynced.{needed_by}
use Rattle.cat_commits.specs.writing.Drafts.{drafted, HasNewFile}

-- What is told once a draft of the commit of now is written is what a commit writes.
abbrev pub DraftsWriteCommits : Type 0
DraftsWriteCommits = (text : Text) (s : Shape) (told told' : ToldFiles) → TouchesOnly (names_begun s) told told'
    → TellsBytes told' (file.Commit s.next_generation) (λ bytes. SpellsCommit bytes (commit_file_now text s))
    → AllByRecursion (HasNewFile told' s.next_generation) (listed_now s)
    → WritesCommit text s told told'

-- A file that the commit of a draft needs is its own, is synced before that, or is one that the commit before needs too.
abbrev pub NeededAreSynced : Type 0
NeededAreSynced = (old : List ListedLive) (leaves : List Leaf) (h : Heading) (q : Name) → has_name q (commit_needs (drafted old leaves h).commit) ≡ true
    → (has_name q (Name.commit h.generation ∷ (drafted old leaves h).unsynced) ≡ true) ⊎ (has_name q (needed_by old) ≡ true)
