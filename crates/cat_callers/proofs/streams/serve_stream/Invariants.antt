use Rattle.std.proofs.Common.{[]}
use Rattle.cat_threads.specs.cat_commands.cat_ledger.Ledgers.{shape_in}
use Rattle.cat_threads.specs.sharing.Grounds.{ground_of}
use Rattle.cat_threads.specs.service.Passes.{seated_by}
use Rattle.cat_callers.proofs.streams.serve_stream.Given as goal

-- the service that was just opened
abbrev pub ghosts-serve_opened : goal.ghosts-serve_opened
ghosts-serve_opened g a = record { table = a.opened.begun.table; from = ground_of (shape_in a.opened.begun.ledger); sessions = seated_by [] a.stream.now.numbers.items }
