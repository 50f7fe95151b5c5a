-- The laws of maintenance, of lines that are stopped, and of what these leave.
use Rattle.std.specs.Prelude.{◌≡◌, ℕ, ◌≤◌, true, List, [], Ok, Err, IsTrue, false}
use Rattle.cat_model.specs.cat_base.declared.refusal.Refusal.{Refusal}
use Rattle.cat_model.specs.Answer.{Read}
use Rattle.cat_model.specs.Files.{Name}
use Rattle.cat_model.specs.Limits.{last_number}
use Rattle.cat_model.specs.Run.{Chore, News, Command, Answer, Stat, may_tell, may_refuse}
use Rattle.cat_model.specs.State.{has_hold}
use Rattle.cat_model.specs.Text.{Text}
use Rattle.cat_ledger_laws.specs.model.Calls.{Flushes, MayLeave, Ended}
use Rattle.cat_ledger_laws.specs.model.Plans.{MergePolicy}
use Rattle.cat_ledger_laws.specs.model.Replies.{MakesRoom, Maintains, IsLeft}
use Rattle.cat_ledger_laws.specs.shape.MergeLaws.{OfMerge}
use Rattle.cat_ledger_laws.specs.shape.Shapes.{MergingShape, Shape}
use Rattle.cat_ledger_laws.specs.shape.Ties.{ToldFiles, Makes}
use Rattle.cat_ledger_laws.specs.lines.RunLaws.{AnswersCarried}
use Rattle.cat_ledger_laws.specs.lines.LineLaws.{line_of, NothingChanges}
use Rattle.cat_ledger_laws.specs.model.Users.{has_name}

-- ---- maintenance

-- What maintenance makes for session 0, and tells, answers its line.
abbrev pub ChoresAnswer : Type 0
ChoresAnswer = (policy : MergePolicy) (told told' : ToldFiles) (s new : Shape) (c : Chore) (n : News)
    → Makes (Maintains policy c n) told s told' new → AnswersCarried policy told s (line_of 0 (Command.chore c)) (Ok (Answer.news n)) told' new

-- SWEEP tells how many files went,
abbrev pub SweepsTell : Type 0
SweepsTell = (policy : MergePolicy) (told told' : ToldFiles) (s new : Shape) (n : ℕ)
    → Makes (MayLeave []) told s told' new → Makes (Maintains policy Chore.sweep (News.swept n)) told s told' new

-- WARM any of its news, and changes nothing of the ledger,
abbrev pub WarmsTell : Type 0
WarmsTell = (policy : MergePolicy) (told told' : ToldFiles) (s new : Shape) (n : News) → may_tell Chore.warm n ≡ true
    → NothingChanges told s told' new → Makes (Maintains policy Chore.warm n) told s told' new

-- and STAT its numbers.
abbrev pub StatsTell : Type 0
StatsTell = (policy : MergePolicy) (told told' : ToldFiles) (s new : Shape) (stat : Stat)
    → NothingChanges told s told' new → Makes (Maintains policy Chore.stat (News.state stat)) told s told' new

-- ---- what is stopped

-- A COMMIT may be stopped where a generation is left for it,
abbrev pub StoppedCommitsAnswer : Type 0
StoppedCommitsAnswer = (policy : MergePolicy) (told told' : ToldFiles) (s new : Shape) (session : ℕ) (text : Text) (e : Refusal)
    → s.next_generation ≤ last_number → IsTrue (may_refuse (Command.commit (Ok text)) e)
    → Makes IsLeft told s told' new → AnswersCarried policy told s (line_of session (Command.commit (Ok text))) (Err e) told' new

-- maintenance of session 0 in each case,
abbrev pub StoppedChoresAnswer : Type 0
StoppedChoresAnswer = (policy : MergePolicy) (told told' : ToldFiles) (s new : Shape) (c : Chore) (e : Refusal)
    → IsTrue (may_refuse (Command.chore c) e)
    → Makes IsLeft told s told' new → AnswersCarried policy told s (line_of 0 (Command.chore c)) (Err e) told' new

-- and a GET where its token is held.
abbrev pub StoppedGetsAnswer : Type 0
StoppedGetsAnswer = (policy : MergePolicy) (told told' : ToldFiles) (s new : Shape) (session t : ℕ) (id : Text) (e : Refusal)
    → has_hold s.holds session t ≡ true → IsTrue (may_refuse (Command.read t (Read.get (Ok id))) e)
    → Makes IsLeft told s told' new → AnswersCarried policy told s (line_of session (Command.read t (Read.get (Ok id)))) (Err e) told' new

-- ---- what a stopped line leaves

-- It may leave all as it was,
abbrev pub NothingIsLeft : Type 0
NothingIsLeft = (told told' : ToldFiles) (s new : Shape) → NothingChanges told s told' new → Makes IsLeft told s told' new

-- files that were begun,
abbrev pub BegunAreLeft : Type 0
BegunAreLeft = (begun : List Name) (told told' : ToldFiles) (s new : Shape) → Makes (MayLeave begun) told s told' new → Makes IsLeft told s told' new

-- a flush that ended,
abbrev pub FlushesAreLeft : Type 0
FlushesAreLeft = (told told' : ToldFiles) (s new : Shape) → Makes Flushes told s told' new → Makes IsLeft told s told' new

-- also one that made room for a PUT,
abbrev pub RoomIsLeft : Type 0
RoomIsLeft = (told told' : ToldFiles) (s new : Shape) → Makes MakesRoom told s told' new → Makes IsLeft told s told' new

-- a flush, and files that were begun after it, none of them of sources,
abbrev pub FlushedAreLeft : Type 0
FlushedAreLeft = (begun : List Name) (told told' told'' : ToldFiles) (s mid new : Shape)
    → has_name (Name.source mid.next_segment) begun ≡ false → Makes Flushes told s told' mid → Makes (MayLeave begun) told' mid told'' new → Makes IsLeft told s told'' new

-- or the end of the merge in the making.
abbrev pub EndedAreLeft : Type 0
EndedAreLeft = (m : MergingShape) (told told' : ToldFiles) (s new : Shape) → Makes (OfMerge m Ended) told s told' new → Makes IsLeft told s told' new
