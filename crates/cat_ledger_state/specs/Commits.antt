-- What a commit is made of, and what it makes; and which commits stay.
use Rattle.std.specs.Prelude.{ℕ, ◌+◌, ◌-◌, ◌==◌, ◌||◌, ltb, cond, Bool, not, filter, List, Option, Some, None}
use Rattle.cat_model.specs.Text.{Text}
use Rattle.cat_model.specs.Files.{Name}
use Rattle.cat_model.specs.CommitFile.{CommitFile, commit_needs}
use Rattle.cat_model.specs.State.{Taken, snapshots_in, stays_kept, is_newest}
use Rattle.cat_model.specs.View.{View, needs}
use Rattle.cat_ledger_laws.specs.model.Users.{times}
use Rattle.cat_ledger_laws.specs.shape.Shapes.{Shape, names_of_commits}
use Rattle.cat_ledger_laws.specs.shape.Steps.{IsCommitted, listed_now, commit_file_now}
use Rattle.cat_ledger_laws.specs.shape.Ties.{ToldFiles}
use Rattle.cat_ledger_laws.specs.shape.CommitLaws.{WritesCommit}
use Rattle.cat_commits.specs.writing.Drafts.{Drafted}
use Rattle.cat_commits.specs.writing.Unsynced.{unsynced_in}

-- the snapshots of the commit, once one of the released commit, if there is one, is given back
abbrev pub left_of : List Taken → Option ℕ → ℕ → ℕ
left_of taken None h = snapshots_in taken h
left_of taken (Some g) h = snapshots_in taken h - cond (h == g) 1 0

-- the commit stays then: it is the newest, or has a snapshot left
abbrev pub stays_with : List Taken → Option ℕ → Option ℕ → ℕ → Bool
stays_with taken released newest h = is_newest newest h || ltb 0 (left_of taken released h)

-- the names of the files that are synced with a commit of now, before its own file is begun
abbrev pub names_synced : Shape → List Name
names_synced s = unsynced_in s.listed s.next_generation (listed_now s)

-- the names of the files of the commits that go for a commit of now
abbrev pub names_given : Shape → List Name
names_given s = names_of_commits (filter (λ c. not (stays_kept s.taken (Some s.next_generation) c.generation)) s.commits)

-- a commit of now with this text, ready to be written
abbrev pub draft_now : Text → Shape → Drafted
draft_now text s = record { listing = listed_now s; commit = commit_file_now text s; unsynced = names_synced s }

-- what a commit makes: it is kept in memory, and its files are written
abbrev pub HasCommitted : Text → ToldFiles → Shape → ToldFiles → Shape → Type 0
HasCommitted text told s told' new = IsCommitted text s new × WritesCommit text s told told'

-- how often the segments that stand, the view of them and the commit have the name
abbrev pub users_at : View → CommitFile → Name → ℕ
users_at v c q = times q (needs v) + (times q (needs v) + times q (commit_needs c))
