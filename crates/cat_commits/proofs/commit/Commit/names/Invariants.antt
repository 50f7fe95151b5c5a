use Rattle.std.proofs.Common.{◌≡◌, ◌∷◌, map, take}
use Rattle.std.specs.List.{flat_map}
use Rattle.cat_model.specs.Files.{Name}
use Rattle.cat_model.specs.CommitFile.{listed_names}
use Rattle.cat_directory.specs.Names.{name_of}
use Rattle.cat_commits.proofs.commit.Commit.names.Given as goal

abbrev pub invariant-loop-segment : goal.invariant-loop-segment
invariant-loop-segment l = map name_of l.names.items ≡ Name.commit l.self.generation ∷ flat_map listed_names (take l.segment-index l.self.segments)
