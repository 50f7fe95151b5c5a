-- The laws of what is kept of lists of segments beside a ledger.
use Rattle.std.specs.Prelude.{◌↔◌, ℕ, List, [], All, Contains}
use Rattle.cat_model.specs.Run.{Line, Reply}
use Rattle.cat_model.specs.View.{Segment, View, segments_of}
use Rattle.cat_ledger_laws.specs.model.Ledger.{Ledger}
use Rattle.cat_ledger_laws.specs.model.Plans.{MergePolicy}
use Rattle.cat_ledger_laws.specs.model.Stored.{FileBytes}
use Rattle.cat_ledger_laws.specs.shape.Shapes.{Shape}
use Rattle.cat_ledger_laws.specs.shape.Ties.{ToldFiles, Carries}
use Rattle.cat_ledger_laws.specs.lines.ReadLaws.{IsRecordedAs}
use Rattle.cat_ledger_laws.specs.lines.RunLaws.{AnswersCarried}
use Rattle.cat_commands.specs.sets.Segments.{SegmentsAgree, SegmentsGo, segments_in}
use Rattle.cat_commands.specs.sets.Beside.{AnyIsKnown}
use Rattle.cat_commands.specs.sets.Kept.{HasKept, HaveNoneOf, ListsKnow, RemembersIn, RemembersInBelow}

-- ---- how they are right

-- Where nothing is kept, that is right beside any ledger.
abbrev pub NoneAreKept : Type 0
NoneAreKept = (s : Shape) → HasKept [] s

-- What is kept stays right where segments go on,
abbrev pub KeptGoOn : Type 0
KeptGoOn = (lists : List (List Segment)) (s new : Shape) → SegmentsGo s new → HasKept lists s → HasKept lists new

-- and so under whatever line is answered.
abbrev pub KeptStay : Type 0
KeptStay =
    (policy : MergePolicy) (told told' : ToldFiles) (s new : Shape) (line : Line) (reply : Reply) (l : Ledger) (files : FileBytes) (lists : List (List Segment))
    → Carries told s l files → AnswersCarried policy told s line reply told' new → HasKept lists s → HasKept lists new

-- Any segment of the number is known exactly where no list has one of it.
abbrev pub UnkeptAreKnown : Type 0
UnkeptAreKnown = (lists : List (List Segment)) (n : ℕ) → AnyIsKnown (ListsKnow lists) n ↔ HaveNoneOf lists n

-- ---- what is done with them

-- What is kept stays right as something of segments that the ledger has is put to it, and as some of it goes.
abbrev pub AddedAreRight : Type 0
AddedAreRight =
    (s : Shape) (segments : List Segment) (lists after : List (List Segment)) → SegmentsAgree s → All (Contains (segments_in s)) segments
    → RemembersIn segments lists after → RemembersInBelow segments lists after → HasKept lists s → HasKept after s

-- ---- what they are good for

-- Each segment of a recorded view is known,
abbrev pub RecordedAgree : Type 0
RecordedAgree =
    (lists : List (List Segment)) (s : Shape) (t : ℕ) (view : View)
    → HasKept lists s → IsRecordedAs s.views t view → All (ListsKnow lists) (segments_of view.leaves)

-- and is among those that the ledger has.
abbrev pub RecordedAreAmong : Type 0
RecordedAreAmong = (s : Shape) (t : ℕ) (view : View) → IsRecordedAs s.views t view → All (Contains (segments_in s)) (segments_of view.leaves)
