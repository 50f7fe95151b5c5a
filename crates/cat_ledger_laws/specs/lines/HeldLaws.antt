-- The law by which what memory and its device carry is what the model says of directories.
use Rattle.std.specs.Prelude.{◌≡◌}
use Rattle.cat_model.specs.Run.{Run}
use Rattle.cat_model.specs.Table.{Opened}
use Rattle.cat_model.specs.Promised.{HoldsPromised}
use Rattle.cat_ledger_laws.specs.shape.Shapes.{Shape}
use Rattle.cat_ledger_laws.specs.shape.Ties.{ToldFiles, file_of}
use Rattle.cat_ledger_laws.specs.lines.RunLaws.{Stands}

-- Whatever run led here, the directory holds what it promises.
abbrev pub PromisedAreHeld : Type 0
PromisedAreHeld =
    (told : ToldFiles) (s : Shape) (from : Opened) (run : Run) → s.schema ≡ from.start.schema → Stands told s from run
    → HoldsPromised (λ q. told (file_of q)) from run
