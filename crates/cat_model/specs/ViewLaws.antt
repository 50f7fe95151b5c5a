-- The laws of views. Nothing to believe: each is the contract of a public function, and so proved.
use Rattle.std.specs.Prelude.{ℕ, List}
use Rattle.cat_model.specs.View.{View, Shows, HoldSources, records_in}

-- Where the files hold the sources, the view shows the records that are read from them.
abbrev pub SourcesAreShown : Type 0
SourcesAreShown = (files : ℕ → List ℕ) (view : View) → HoldSources files view → Shows view (records_in files view)
