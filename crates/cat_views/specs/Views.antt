-- The names of the files of a leaf.
use Rattle.std.specs.Prelude.{List, [], ◌∷◌}
use Rattle.cat_model.specs.Files.{Name}
use Rattle.cat_model.specs.View.{Leaf}

-- the names of the files of a leaf's segment
abbrev pub leaf_names : Leaf → List Name
leaf_names leaf = Name.segment leaf.segment.number ∷ Name.source leaf.segment.number ∷ []
