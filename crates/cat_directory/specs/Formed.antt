-- That files in memory stand only under names that files can have.
use Rattle.std.specs.Prelude.{◌≡◌, ℕ, true, is_some}
use Rattle.std.specs.BTreeMap.{BTreeMap, get}
use Rattle.std.specs.Global.{Vec}
use Rattle.cat_directory.specs.declared.name.FileName.{FileName}
use Rattle.cat_directory.specs.Names.{name_cmp, is_formed}

abbrev pub AreFormed : BTreeMap FileName (Vec ℕ) → Type 0
AreFormed files = (q : FileName) → is_some (get name_cmp files q) ≡ true → is_formed q ≡ true
