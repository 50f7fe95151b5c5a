-- Which names of files are told, and which texts of items.
use Rattle.std.specs.Prelude.{◌≡◌, Option, Some, Ok, Err}
use Rattle.cat_model.specs.Answer.{Found, HasNoLineFeed}
use Rattle.cat_model.specs.CommitFile.{CommitFile, commit_needs}
use Rattle.cat_model.specs.Lines.{Said}
use Rattle.cat_model.specs.Run.{Answer, Reply}
use Rattle.cat_model.specs.Text.{Text}
use Rattle.cat_model.specs.View.{View, needs}
use Rattle.cat_commands.specs.cat_ledger.Answering.{TellsNames}
use Rattle.cat_ledger_laws.specs.lines.ReadLaws.{IsRecordedAs, kept_under}
use Rattle.cat_ledger_laws.specs.shape.Shapes.{Shape}

-- no names are told, and no source of an item
abbrev pub TellsNone : Reply → Type 0
TellsNone (Ok (Answer.names texts)) = ⊥
TellsNone (Ok (Answer.found (Found.source stored))) = ⊥
TellsNone reply = Unit {0}

-- the source of an item is told, without a line feed, or that there is none
abbrev pub IsToldSource : Answer → Type 0
IsToldSource a = (stored : Option Text) × (a ≡ Answer.found (Found.source stored)) × HasNoLineFeed stored

-- A FILES of a token tells the names of just the files that the view needs which is recorded under it, and one of a commit those that
-- the kept commit needs, in byte order. A GET tells a source of one line, or none. To nothing else are names or sources told.
abbrev pub TellsNeeded : Shape → Option Said → Reply → Type 0
TellsNeeded s (Some (Said.files_of_token t)) (Ok a) =
    (view : View) × IsRecordedAs s.views t view × TellsNames (needs view) a
TellsNeeded s (Some (Said.files_of_token t)) (Err e) = Unit {0}
TellsNeeded s (Some (Said.files_of_commit g)) (Ok a) =
    (commit : CommitFile) × (kept_under s.commits g ≡ Some commit) × TellsNames (commit_needs commit) a
TellsNeeded s (Some (Said.files_of_commit g)) (Err e) = Unit {0}
TellsNeeded s (Some (Said.get t id)) (Ok a) = IsToldSource a
TellsNeeded s (Some (Said.get t id)) (Err e) = Unit {0}
TellsNeeded s said reply = TellsNone reply
