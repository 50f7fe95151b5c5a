-- What a world promises of files: those stand that a token or a commit needs.
use Rattle.cat_model.specs.Run.{Run}
use Rattle.cat_model.specs.Table.{Opened}
use Rattle.cat_directory.specs.Devices.{FileContent}
use Rattle.cat_directory.specs.declared.name.FileName.{FileName}
use Rattle.cat_commands.specs.cat_ledger.Lasting.{AlwaysTells, NewestLasts}
use Rattle.cat_ledger_laws.specs.shape.Ties.{ToldFiles}
use Rattle.cat_ledger_laws.specs.lines.NeededLaws.{PromisedStand}
use Rattle.cat_ledger_laws.specs.lines.RunLaws.{Stands}
use Rattle.cat_service.specs.Worlds.{Service, device_of, shape_of_service}

-- Whatever run led here, the files stand of each token that is recorded, also by a session's hold, and of each commit that is kept, also
-- by a snapshot; and the run's table is in them. The first argument says what a device tells of its files.
abbrev pub KeepsPromises : {D : Type 0} → (D → ToldFiles) → Service D → Type 0
KeepsPromises bytes w =
    (from : Opened) (run : Run) → Stands (bytes (device_of w)) (shape_of_service w) from run
    → PromisedStand (bytes (device_of w)) (shape_of_service w).users from run

-- A crash leaves the files of the newest commit that memory keeps, on devices that always tell of their files.
abbrev pub WorldLasts : {D : Type 0} → (D → ToldFiles) → (D → FileName → FileContent → Type 0) → Service D → Type 0
WorldLasts bytes may_leave w = AlwaysTells bytes → NewestLasts (bytes (device_of w)) (may_leave (device_of w)) (shape_of_service w)
