use Rattle.cat_directory.specs.Folders.{AllFormed}
use Rattle.cat_directory.proofs.system_folder.SystemFolder.name_set.Given as goal

abbrev pub invariant-loop-entry : goal.invariant-loop-entry
invariant-loop-entry g l = AllFormed l.names.keys
