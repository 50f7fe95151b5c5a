-- What openings keep, stated once.
use Rattle.std.specs.Prelude.{◌≡◌, List}
use Rattle.cat_model.specs.Item.{Schema}
use Rattle.cat_model.specs.CommitFile.{ListedSegment}
use Rattle.cat_model.specs.View.{Leaf}
use Rattle.cat_ledger_laws.specs.model.Opening.{AreLeavesOf}
use Rattle.cat_ledger_laws.specs.shape.Ties.{ToldFiles}
use Rattle.cat_ledger_laws.specs.shape.OpeningLaws.{MayHold}
use Rattle.cat_commits.specs.reading.Told.{Tells}

-- a list of segments has one list of leaves: what may be held agrees with what is told
abbrev pub LeavesAreOne : Type 0
LeavesAreOne =
    (told : ToldFiles) (schema : Schema) (xs : List ListedSegment) (read leaves : List Leaf)
    → AreLeavesOf (MayHold told) schema xs read → AreLeavesOf (Tells told) schema xs leaves → leaves ≡ read
