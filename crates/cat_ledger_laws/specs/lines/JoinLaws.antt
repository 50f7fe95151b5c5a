-- The laws by which parts of a command, one after another, are what the command makes.
use Rattle.std.specs.Prelude.{◌≡◌, ◌<◌, ◌≤◌, ◌==◌, true, [], length}
use Rattle.std.specs.List.{list_any}
use Rattle.cat_model.specs.Item.{Item}
use Rattle.cat_model.specs.Limits.{buffer_limit}
use Rattle.cat_model.specs.Text.{Text}
use Rattle.cat_model.specs.Write.{Write}
use Rattle.cat_ledger_laws.specs.model.Calls.{wrote, Flushes, Flushed, RecordsView, Committed}
use Rattle.cat_ledger_laws.specs.model.Replies.{MakesRoom}
use Rattle.cat_ledger_laws.specs.shape.Shapes.{Shape}
use Rattle.cat_ledger_laws.specs.shape.Ties.{ToldFiles, Makes}
use Rattle.cat_ledger_laws.specs.lines.LineLaws.{NothingChanges, Puts, Refreshes, Commits}

-- ---- flushes

-- a flush of nothing,
abbrev pub FlushesRest : Type 0
FlushesRest = (told told' : ToldFiles) (s new : Shape) → s.buffered ≡ [] → NothingChanges told s told' new → Makes Flushes told s told' new

-- and one of what waits
abbrev pub FlushesFlush : Type 0
FlushesFlush = (told told' : ToldFiles) (s new : Shape) → Makes Flushed told s told' new → Makes Flushes told s told' new

-- ---- a PUT

-- there is room,
abbrev pub RoomIsThere : Type 0
RoomIsThere = (told told' : ToldFiles) (s new : Shape) → length s.buffered < buffer_limit → NothingChanges told s told' new
    → Makes MakesRoom told s told' new

-- or a flush makes it;
abbrev pub RoomIsMade : Type 0
RoomIsMade = (told told' : ToldFiles) (s new : Shape) → buffer_limit ≤ length s.buffered → Makes Flushed told s told' new
    → Makes MakesRoom told s told' new

-- then the item is put
abbrev pub PutsMake : Type 0
PutsMake = (told told' told'' : ToldFiles) (s mid new : Shape) (i : Item) → Makes MakesRoom told s told' mid
    → Makes (λ l l'. l' ≡ wrote l (Write.put i)) told' mid told'' new → Makes (Puts i) told s told'' new

-- ---- a REFRESH

-- a view of now stands already;
abbrev pub ViewsStand : Type 0
ViewsStand = (told told' : ToldFiles) (s new : Shape) → list_any (λ v. v.token == s.count) s.views ≡ true → NothingChanges told s told' new
    → Makes RecordsView told s told' new

-- what waits is flushed, and then a view of now stands or is recorded
abbrev pub RefreshesMake : Type 0
RefreshesMake = (told told' told'' : ToldFiles) (s mid new : Shape) → Makes Flushes told s told' mid → Makes RecordsView told' mid told'' new
    → Makes Refreshes told s told'' new

-- ---- a COMMIT

-- what waits is flushed, and then a commit of now is kept
abbrev pub FlushedCommitsMake : Type 0
FlushedCommitsMake = (told told' told'' : ToldFiles) (s mid new : Shape) (text : Text) → Makes Flushes told s told' mid
    → Makes (Committed text) told' mid told'' new → Makes (Commits text) told s told'' new
