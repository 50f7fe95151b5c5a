-- What a device tells of a name's file, for the definitions of openings, which speak of the model's names.
use Rattle.std.specs.Prelude.{◌≡◌, Some}
use Rattle.cat_model.specs.Text.{Text}
use Rattle.cat_model.specs.Files.{Name}
use Rattle.cat_ledger_laws.specs.shape.Ties.{ToldFiles, file_of}

-- the device tells that the file of the name has these bytes
abbrev pub Tells : ToldFiles → Name → Text → Type 0
Tells told q bytes = told (file_of q) ≡ Some (Some bytes)
