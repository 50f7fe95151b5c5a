-- The laws of the replies to reads, of what FILES tells, and of the texts of commits.
use Rattle.std.specs.Prelude.{◌≡◌, ℕ, ◌==◌, true, false, List, length, find, Option, Some, None, option_map, Result, Ok, Err, All}
use Rattle.cat_model.specs.cat_base.declared.refusal.Refusal.{Refusal}
use Rattle.cat_model.specs.cat_base.declared.refusal.Refusal.TheVariants.{NotHeld, NoCommit}
use Rattle.cat_model.specs.Answer.{Read, Found, answer, stored, query_refusal}
use Rattle.cat_model.specs.CommitFile.{CommitFile}
use Rattle.cat_model.specs.Item.{Record}
use Rattle.cat_model.specs.Run.{Command, Answer, found_reply, or_not_held}
use Rattle.cat_model.specs.State.{has_hold}
use Rattle.cat_model.specs.Text.{Text, same_text}
use Rattle.cat_model.specs.View.{View, Shows, rows_in, records_in}
use Rattle.cat_directory.specs.declared.name.FileName.TheVariants as file
use Rattle.cat_ledger_laws.specs.model.Ledger.{Ledger}
use Rattle.cat_ledger_laws.specs.model.Plans.{MergePolicy}
use Rattle.cat_ledger_laws.specs.model.Stored.{FileBytes}
use Rattle.cat_ledger_laws.specs.shape.Shapes.{Shape}
use Rattle.cat_ledger_laws.specs.shape.Ties.{ToldFiles, Carries}
use Rattle.cat_ledger_laws.specs.lines.RunLaws.{AnswersCarried}
use Rattle.cat_ledger_laws.specs.lines.LineLaws.{line_of, NothingChanges}

-- ---- reads under a token

-- the view is the one that is recorded under the token
abbrev pub IsRecordedAs : List View → ℕ → View → Type 0
IsRecordedAs views t view = find (λ v. v.token == t) views ≡ Some view

-- the read finds this in the view, whatever records the view shows
abbrev pub ReadFinds : View → Read → Result Found Refusal → Type 0
ReadFinds view asked found = (rs : List Record) → Shows view rs → answer view.schema rs asked ≡ found

-- what a read finds in the view of a token that the session holds answers it
abbrev pub ReadsAnswer : Type 0
ReadsAnswer =
    (policy : MergePolicy) (told told' : ToldFiles) (s new : Shape) (session t : ℕ) (asked : Read) (view : View) (found : Result Found Refusal)
    → has_hold s.holds session t ≡ true → IsRecordedAs s.views t view → ReadFinds view asked found → NothingChanges told s told' new
    → AnswersCarried policy told s (line_of session (Command.read t asked)) (found_reply found) told' new

-- else the fault of its text is told, or that it is not held
abbrev pub UnheldReadsAnswer : Type 0
UnheldReadsAnswer =
    (policy : MergePolicy) (told told' : ToldFiles) (s new : Shape) (session t : ℕ) (asked : Read)
    → has_hold s.holds session t ≡ false → NothingChanges told s told' new
    → AnswersCarried policy told s (line_of session (Command.read t asked)) (or_not_held (query_refusal asked)) told' new

-- ---- the text of an item

-- the device tells the bytes of the files with the sources of the view's segments, by their numbers
abbrev pub TellsSources : ToldFiles → (ℕ → Text) → View → Type 0
TellsSources told sources view = All (λ leaf. told (file.Source leaf.segment.number) ≡ Some (Some (sources leaf.segment.number))) view.leaves

-- the length of the text of the item of this id, by its row
abbrev pub length_shown : View → Text → Option ℕ
length_shown view id = option_map (λ row. row.length) (find (λ row. same_text row.id id) (rows_in view))

-- The text of the item of this id is as long as its row says; and where the device tells the files of sources, it is the one that they
-- have.
pub record IsTextOf (told : ToldFiles) (view : View) (id : Text) (found : Option Text) : Type 0 where
  pub long : option_map (λ text. length text) found ≡ length_shown view id
  pub read : (sources : ℕ → Text) → TellsSources told sources view → found ≡ stored (records_in sources view) id

-- what is read of it answers a GET, also on a device that tells nothing
abbrev pub GetsAnswer : Type 0
GetsAnswer =
    (policy : MergePolicy) (told told' : ToldFiles) (s new : Shape) (session t : ℕ) (id : Text) (view : View) (found : Option Text)
    → has_hold s.holds session t ≡ true → IsRecordedAs s.views t view → IsTextOf told view id found → NothingChanges told s told' new
    → AnswersCarried policy told s (line_of session (Command.read t (Read.get (Ok id)))) (Ok (Answer.found (Found.source found))) told' new

-- Where the device tells the sources of a recorded view, each is as long as its row says: so no GET finds a file that is too short.
abbrev pub SourcesAreWhole : Type 0
SourcesAreWhole =
    (told : ToldFiles) (s : Shape) (l : Ledger) (files : FileBytes) → Carries told s l files
    → (t : ℕ) (view : View) (sources : ℕ → Text) → IsRecordedAs s.views t view → TellsSources told sources view
    → (id : Text) → option_map (λ text. length text) (stored (records_in sources view) id) ≡ length_shown view id

-- ---- names of files, and texts of commits

-- FILES tells names of a token that is held,
abbrev pub FilesAnswer : Type 0
FilesAnswer =
    (policy : MergePolicy) (told told' : ToldFiles) (s new : Shape) (session t : ℕ) (names : List Text)
    → has_hold s.holds session t ≡ true → NothingChanges told s told' new
    → AnswersCarried policy told s (line_of session (Command.files_of_token t)) (Ok (Answer.names names)) told' new

-- and is refused for one that isn't;
abbrev pub UnheldFilesAnswer : Type 0
UnheldFilesAnswer = (policy : MergePolicy) (told told' : ToldFiles) (s new : Shape) (session t : ℕ)
    → has_hold s.holds session t ≡ false → NothingChanges told s told' new
    → AnswersCarried policy told s (line_of session (Command.files_of_token t)) (Err NotHeld) told' new

-- the kept commit of the generation, if there is one
abbrev pub kept_under : List CommitFile → ℕ → Option CommitFile
kept_under commits g = find (λ c. c.generation == g) commits

-- it tells names of a commit that is kept,
abbrev pub CommitFilesAnswer : Type 0
CommitFilesAnswer =
    (policy : MergePolicy) (told told' : ToldFiles) (s new : Shape) (session g : ℕ) (c : CommitFile) (names : List Text)
    → kept_under s.commits g ≡ Some c → NothingChanges told s told' new
    → AnswersCarried policy told s (line_of session (Command.files_of_commit g)) (Ok (Answer.names names)) told' new

-- and is refused for one that isn't;
abbrev pub UnkeptFilesAnswer : Type 0
UnkeptFilesAnswer = (policy : MergePolicy) (told told' : ToldFiles) (s new : Shape) (session g : ℕ)
    → kept_under s.commits g ≡ None → NothingChanges told s told' new
    → AnswersCarried policy told s (line_of session (Command.files_of_commit g)) (Err NoCommit) told' new

-- NOTE tells the text of a commit that is kept,
abbrev pub TextsAnswer : Type 0
TextsAnswer = (policy : MergePolicy) (told told' : ToldFiles) (s new : Shape) (session g : ℕ) (c : CommitFile)
    → kept_under s.commits g ≡ Some c → NothingChanges told s told' new
    → AnswersCarried policy told s (line_of session (Command.text_of_commit g)) (Ok (Answer.commit_text c.text)) told' new

-- and is refused for one that isn't.
abbrev pub UnkeptTextsAnswer : Type 0
UnkeptTextsAnswer = (policy : MergePolicy) (told told' : ToldFiles) (s new : Shape) (session g : ℕ)
    → kept_under s.commits g ≡ None → NothingChanges told s told' new
    → AnswersCarried policy told s (line_of session (Command.text_of_commit g)) (Err NoCommit) told' new
