-- The laws of the sets that are kept beside a ledger.
use Rattle.std.specs.Prelude.{◌↔◌, ℕ, List, [], None, All, Contains}
use Rattle.cat_model.specs.Run.{Line, Reply}
use Rattle.cat_model.specs.View.{Segment, View, segments_of}
use Rattle.cat_cached_sets.specs.filters.Filters.{Filters}
use Rattle.cat_cached_sets.specs.filters.Known.{Knows, Remembers, RemembersBelow, FiltersRemember, FiltersRememberBelow}
use Rattle.cat_ledger_laws.specs.model.Ledger.{Ledger}
use Rattle.cat_ledger_laws.specs.model.Plans.{MergePolicy}
use Rattle.cat_ledger_laws.specs.model.Stored.{FileBytes}
use Rattle.cat_ledger_laws.specs.shape.Shapes.{Shape}
use Rattle.cat_ledger_laws.specs.shape.Ties.{ToldFiles, Carries}
use Rattle.cat_ledger_laws.specs.lines.ReadLaws.{IsRecordedAs}
use Rattle.cat_ledger_laws.specs.lines.RunLaws.{AnswersCarried}
use Rattle.cat_commands.specs.sets.Segments.{SegmentsAgree, SegmentsGo, segments_in}
use Rattle.cat_commands.specs.sets.Sets.{HasNoneOf, HasSets, KnowsAny}

-- ---- how they are right

-- No sets at all are right beside any ledger.
abbrev pub EmptyAreRight : Type 0
EmptyAreRight = (s : Shape) → HasSets (record { cached = []; noted = []; warming = None }) s

-- They stay right where segments go on,
abbrev pub SetsGoOn : Type 0
SetsGoOn = (f : Filters) (s new : Shape) → SegmentsGo s new → HasSets f s → HasSets f new

-- and so under whatever line is answered.
abbrev pub SetsStay : Type 0
SetsStay =
    (policy : MergePolicy) (told told' : ToldFiles) (s new : Shape) (line : Line) (reply : Reply) (l : Ledger) (files : FileBytes) (f : Filters)
    → Carries told s l files → AnswersCarried policy told s line reply told' new → HasSets f s → HasSets f new

-- Any segment of the number is known exactly where the number has no set.
abbrev pub UnsetAreKnown : Type 0
UnsetAreKnown = (f : Filters) (n : ℕ) → KnowsAny f n ↔ HasNoneOf f n

-- ---- what is done with them

-- They stay right where what was known is, and numbers stay below what they were below,
abbrev pub RememberedAreRight : Type 0
RememberedAreRight = (s : Shape) (f after : Filters) → Remembers f after → RemembersBelow f after → HasSets f s → HasSets after s

-- also by a step of warming over segments that the ledger has.
abbrev pub WarmedAreRight : Type 0
WarmedAreRight =
    (s : Shape) (segments : List Segment) (f after : Filters) → SegmentsAgree s → All (Contains (segments_in s)) segments
    → FiltersRemember segments f after → FiltersRememberBelow segments f after → HasSets f s → HasSets after s

-- ---- what they are good for

-- Each segment of a recorded view is known.
abbrev pub RecordedAreKnown : Type 0
RecordedAreKnown = (f : Filters) (s : Shape) (t : ℕ) (view : View) → HasSets f s → IsRecordedAs s.views t view → All (Knows f) (segments_of view.leaves)
