use Rattle.cat_threads.specs.history.Entries.{entry}
use Rattle.cat_threads.specs.service.Writes.{write_of}
use Rattle.cat_threads.proofs.service.desk.Desk.write.Given as goal

-- the write that is noted
abbrev pub ghosts-write_as : goal.ghosts-write_as
ghosts-write_as g a = record { entry = entry a.me.now.session (write_of a.write) }
