-- Directories that open in one way.
use Rattle.std.specs.Prelude.{◌≡◌, ◌≢◌, None, Ok}
use Rattle.cat_model.specs.Files.{Name}
use Rattle.cat_model.specs.Opens.{BeginsFrom}
use Rattle.cat_model.specs.Table.{Opened}
use Rattle.cat_model.specs.Text.{Text}
use Rattle.cat_model.specs.Told.{ToldByName}
use Rattle.cat_items.specs.Laws.{HaveOneSchema}
use Rattle.cat_items.specs.Reading.{json}

-- Directories that tell of each of their files, and tell the same, open in one way by lines with one schema.
abbrev pub DirectoriesOpenOneWay : Type 0
DirectoriesOpenOneWay =
    (told₁ told₂ : ToldByName) → ((q : Name) → told₁ q ≢ None) → ((q : Name) → told₁ q ≡ told₂ q)
    → (first₁ first₂ : Text) (one two : Opened) → HaveOneSchema first₁ first₂
    → BeginsFrom json told₁ first₁ (Ok one) → BeginsFrom json told₂ first₂ (Ok two) → one ≡ two
