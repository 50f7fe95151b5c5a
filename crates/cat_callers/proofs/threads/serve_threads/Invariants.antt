use Rattle.std.proofs.Common.{[]}
use Rattle.cat_threads.specs.cat_commands.cat_ledger.Ledgers.{shape_in}
use Rattle.cat_threads.specs.sharing.Grounds.{ground_of}
use Rattle.cat_threads.specs.service.Passes.{seated_by}
use Rattle.cat_callers.proofs.threads.serve_threads.Given as goal

-- the service that was just opened
abbrev pub ghosts-run_sessions : goal.ghosts-run_sessions
ghosts-run_sessions g a = record { table = a.opened.begun.table; from = ground_of (shape_in a.opened.begun.ledger); sessions = seated_by [] a.running.now.numbers.items }
