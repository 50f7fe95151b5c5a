use Rattle.std.proofs.Common.{◌≡◌, map, take}
use Rattle.cat_directory.specs.Names.{name_of}
use Rattle.cat_commits.specs.writing.Unsynced.{unsynced_in}
use Rattle.cat_commits.proofs.writing.listing.unsynced_names.Given as goal

abbrev pub invariant-loop-entry : goal.invariant-loop-entry
invariant-loop-entry l = map name_of l.names.items ≡ unsynced_in l.earlier l.generation (take l.entry-index l.entries)
