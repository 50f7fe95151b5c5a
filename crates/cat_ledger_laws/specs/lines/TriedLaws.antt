-- The law by which the files of a commit that was tried hold it, with the table of then, once its own file is whole.
use Rattle.std.specs.Prelude.{◌≡◌, ◌⊎◌, ◌≤◌, ◌==◌, List, [], ◌++◌, cond, Some}
use Rattle.std.specs.List.{AllByRecursion}
use Rattle.cat_model.specs.CommitFile.{CommitFile, IsCommitFile, spelled_commit}
use Rattle.cat_model.specs.Item.{Record, Schema}
use Rattle.cat_model.specs.Layout.{SpellsSegment}
use Rattle.cat_model.specs.LiveFile.{LiveRows, SpellsLive}
use Rattle.cat_model.specs.View.{Segment}
use Rattle.cat_model.specs.Limits.{last_number}
use Rattle.cat_model.specs.Run.{Line, Reply, Run, now, writes}
use Rattle.cat_model.specs.Table.{Opened, table}
use Rattle.cat_model.specs.Opens.{HoldsCommit}
use Rattle.cat_model.specs.Text.{Text}
use Rattle.cat_model.specs.Told.{FileContent}
use Rattle.cat_directory.specs.Devices.{OrGone}
use Rattle.cat_directory.specs.Names.{name_of}
use Rattle.cat_directory.specs.declared.name.FileName.{FileName}
use Rattle.cat_directory.specs.declared.name.FileName.TheVariants as file
use Rattle.cat_ledger_laws.specs.model.Ledger.{IsNew, Ledger, table_of}
use Rattle.cat_ledger_laws.specs.model.Plans.{MergePolicy}
use Rattle.cat_ledger_laws.specs.model.Stored.{FileBytes}
use Rattle.cat_ledger_laws.specs.shape.CommitLaws.{HasNewLive, shape_files_begun}
use Rattle.cat_ledger_laws.specs.shape.Shapes.{MergingShape, Shape}
use Rattle.cat_ledger_laws.specs.shape.Steps.{commit_file_now}
use Rattle.cat_ledger_laws.specs.shape.Ties.{Carries, Makes, ToldFiles, TouchesOnly}
use Rattle.cat_ledger_laws.specs.model.Calls.{Flushes}
use Rattle.cat_ledger_laws.specs.shape.Tried.{IsOfMaking, LeavesTried, SparesTaken, TriedCommit, tells_image}
use Rattle.cat_ledger_laws.specs.lines.RunLaws.{AnswersCarried, Stands}

-- its files, with its own one whole
abbrev pub whole_files : TriedCommit → FileName → FileContent
whole_files t (file.Commit g) = cond (g == t.commit.generation) (Some (spelled_commit t.commit)) (t.files (file.Commit g))
whole_files t (file.Segment n) = t.files (file.Segment n)
whole_files t (file.Source n) = t.files (file.Source n)
whole_files t (file.Live n d) = t.files (file.Live n d)

-- Where a commit of now was tried, and each new live file that it lists is told, its files hold it, with the table of now.
abbrev pub TriedHold : Type 0
TriedHold = (text : Text) (told told' : ToldFiles) (s : Shape) (l : Ledger) (files : FileBytes) (t : TriedCommit)
    → Carries told s l files → s.buffered ≡ [] → IsCommitFile (commit_file_now text s) → s.next_generation ≤ last_number
    → TouchesOnly (shape_files_begun s) told told' → AllByRecursion (HasNewLive told' s) s.leaves
    → t.commit ≡ commit_file_now text s → ((q : FileName) → told' q ≡ Some (t.files q))
    → HoldsCommit (tells_image (whole_files t)) s.schema s.next_generation t.commit (table_of l)

-- ---- the table that is found

-- bytes are the file of one segment at most
abbrev pub SegmentsAreTold : Type 0
SegmentsAreTold = (bytes : Text) (s t : Segment) → SpellsSegment bytes s → SpellsSegment bytes t → s ≡ t

-- and of one live set
abbrev pub LiveAreTold : Type 0
LiveAreTold = (bytes : Text) (r s : LiveRows) → SpellsLive bytes r → SpellsLive bytes s → r ≡ s

-- Whatever a crash leaves, the commit and the table that are held under the generation of one that was tried are that commit and the table that
-- its files held. The argument says what a crash may leave of a device's files.
abbrev pub TriedTablesAreFound : {D : Type 0} → (D → FileName → FileContent → Type 0) → Type 0
TriedTablesAreFound {D} left = SegmentsAreTold → LiveAreTold → (d : D) (t : TriedCommit) (schema : Schema) (records : List Record)
    → LeavesTried (left d) t → HoldsCommit (tells_image (whole_files t)) schema t.commit.generation t.commit records
    → (image : FileName → FileContent) → ((q : FileName) → left d q (image q)) → (other : Schema) (c : CommitFile) (found : List Record)
    → HoldsCommit (tells_image image) other t.commit.generation c found → (c ≡ t.commit) × (found ≡ records)

-- ---- lines

-- A line, whatever it is answered, spares what was tried, where a crash leaves of a file whose number was taken, but for those of the merge in the
-- making, what it could have left, or nothing.
abbrev pub LinesSpareTaken : {D : Type 0} → (D → FileName → FileContent → Type 0) → Type 0
LinesSpareTaken {D} left = (d d' : D) (policy : MergePolicy) (told told' : ToldFiles) (s new : Shape) (line : Line) (reply : Reply) (l : Ledger) (files : FileBytes)
    → AnswersCarried policy told s line reply told' new → Carries told s l files
    → ((q : FileName) → (IsNew s.next_segment s.next_generation (name_of q) → ⊥)
    → ((m : MergingShape) → s.merging ≡ Some m → IsOfMaking m q → ⊥) → OrGone (left d q) (left d' q))
    → SparesTaken (left d) (left d') s new

-- ---- the run

-- What memory stands for behind the past of a run is the run's: so many writes, and the table at them, whatever comes later.
abbrev pub StandsAreOfRuns : Type 0
StandsAreOfRuns = (told : ToldFiles) (s : Shape) (from : Opened) (past later : Run) → (st : Stands told s from past)
    → (s.count ≡ now from.start past) × (table_of st.ledger ≡ table from.start (writes (past ++ later)) s.count)

-- ---- the whole

-- What a commit that was tried promises of every ledger that was carried before its COMMIT: its token is the number of writes, and its files hold
-- it with the table, once its own is whole.
pub record IsPromisedBy (told : ToldFiles) (s : Shape) (t : TriedCommit) : Type 0 where
  pub token : t.commit.token ≡ s.count
  pub held : (l : Ledger) (files : FileBytes) → Carries told s l files
      → HoldsCommit (tells_image (whole_files t)) s.schema t.commit.generation t.commit (table_of l)

-- So it is where what waits is flushed, and then a commit of now is tried, of which each new live file is told.
abbrev pub FlushedArePromised : Type 0
FlushedArePromised = (text : Text) (told told' told'' : ToldFiles) (s mid : Shape) (t : TriedCommit) → Makes Flushes told s told' mid
    → (s.count ≡ mid.count) × (s.schema ≡ mid.schema) → mid.buffered ≡ [] → IsCommitFile (commit_file_now text mid) → mid.next_generation ≤ last_number
    → TouchesOnly (shape_files_begun mid) told' told'' → AllByRecursion (HasNewLive told'' mid) mid.leaves
    → t.commit ≡ commit_file_now text mid → ((q : FileName) → told'' q ≡ Some (t.files q)) → IsPromisedBy told s t

-- Whatever a crash leaves of a commit that a COMMIT behind the past of a run tried: the commit that is found is the one that was tried; its token is
-- the number of writes of the past; and its table is the run's at it.
abbrev pub RefusedAreFound : {D : Type 0} → (D → FileName → FileContent → Type 0) → Type 0
RefusedAreFound {D} left = SegmentsAreTold → LiveAreTold → (told : ToldFiles) (s : Shape) (from : Opened) (past later : Run) (t : TriedCommit)
    → Stands told s from past → IsPromisedBy told s t → (last : D) → LeavesTried (left last) t
    → (image : FileName → FileContent) → ((q : FileName) → left last q (image q)) → (schema : Schema) (c : CommitFile) (found : List Record)
    → HoldsCommit (tells_image image) schema t.commit.generation c found
    → (c ≡ t.commit) × (c.token ≡ now from.start past) × (found ≡ table from.start (writes (past ++ later)) c.token)
