use Rattle.std.proofs.Common.{◌≡◌, ◌++◌, List}
use Rattle.std.specs.Vec.Iter.{into_iter_items}
use Rattle.crossbeam_utils.specs.Seq.{cell_view}
use Rattle.cat_threads.specs.history.Rules.{Each}
use Rattle.cat_threads.specs.service.Passes.{Ends, Seen}
use Rattle.cat_threads.proofs.service.desk.check_all.Given as goal

abbrev pub invariant-loop-pass : goal.invariant-loop-pass
invariant-loop-pass g l =
    (l.scribe.table_id ≡ l.initial.scribe.table_id)
    × (cell_view l.scribe ≡ cell_view l.initial.scribe)
    × ((gone : List Seen) × (gone ++ into_iter_items l.pass-iterator ≡ into_iter_items l.initial.pass-iterator) × Each (Ends (cell_view l.scribe).list) gone)
