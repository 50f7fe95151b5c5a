use Rattle.cat_directory.proofs.system_folder.SystemFolder.name_set.Goals as goal

pub loop-entry-preserved : goal.loop-entry-preserved
loop-entry-preserved g c = c.in_ok-keep_entry.ensures c.loop-entry.invariant
