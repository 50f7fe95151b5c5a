use Rattle.std.proofs.Common.{◌≡◌, map, take}
use Rattle.cat_directory.specs.Names.{name_of}
use Rattle.cat_lifetimes.specs.records.Counts.{files_dropped}
use Rattle.cat_lifetimes.proofs.records.recorded.files_below.Given as goal

abbrev pub invariant-loop-each : goal.invariant-loop-each
invariant-loop-each l = map name_of l.names.items ≡ files_dropped l.token (take l.each-index l.recorded)
