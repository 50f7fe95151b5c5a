use Rattle.std.proofs.Common.{◌≡◌, [], map, take}
use Rattle.crossbeam_utils.specs.Seq.{cell_view}
use Rattle.cat_threads.specs.history.Rules.{scribe}
use Rattle.cat_threads.specs.service.Passes.{newcomer, seated_by}
use Rattle.cat_threads.proofs.service.service.seats.Given as goal

abbrev pub invariant-loop-session : goal.invariant-loop-session
invariant-loop-session g l =
    (l.scribe.table_id ≡ g.J.Naming.table)
    × (cell_view l.scribe ≡ scribe [] 0 (seated_by [] (take l.session-index l.sessions)) [])
    × (l.passes.items ≡ map (newcomer g.J.Naming.from.start.token) (take l.session-index l.sessions))
