-- The laws of the segments that memory has of a ledger.
use Rattle.std.specs.Prelude.{All, Contains}
use Rattle.cat_model.specs.Run.{Line, Reply}
use Rattle.cat_ledger_laws.specs.model.Ledger.{Ledger}
use Rattle.cat_ledger_laws.specs.model.Plans.{MergePolicy}
use Rattle.cat_ledger_laws.specs.model.Stored.{FileBytes}
use Rattle.cat_ledger_laws.specs.shape.Shapes.{Shape}
use Rattle.cat_ledger_laws.specs.shape.Ties.{ToldFiles, Carries}
use Rattle.cat_ledger_laws.specs.lines.RunLaws.{AnswersCarried}
use Rattle.cat_model.specs.View.{segments_of}
use Rattle.cat_commands.specs.sets.Segments.{SegmentsAgree, SegmentsGo, segments_in}

-- Whatever line is answered, a segment is new only under a number that none has had.
abbrev pub SegmentsStay : Type 0
SegmentsStay =
    (policy : MergePolicy) (told told' : ToldFiles) (s new : Shape) (line : Line) (reply : Reply) (l : Ledger) (files : FileBytes)
    → Carries told s l files → AnswersCarried policy told s line reply told' new → SegmentsGo s new

-- Where a ledger is carried, a number is one segment's.
abbrev pub SegmentsAreOne : Type 0
SegmentsAreOne = (told : ToldFiles) (s : Shape) (l : Ledger) (files : FileBytes) → Carries told s l files → SegmentsAgree s

-- Those of the current list are among all of them.
abbrev pub CurrentAreAmong : Type 0
CurrentAreAmong = (s : Shape) → All (Contains (segments_in s)) (segments_of s.leaves)
