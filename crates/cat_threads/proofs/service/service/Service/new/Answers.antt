use Rattle.std.proofs.Common.{◌∙◌}
use Rattle.cat_threads.proofs.service.service.Service.new.Goals as goal

pub seats-requires-clause-cell : goal.seats-requires-clause-cell
seats-requires-clause-cell g c =
    let e = c.into_parts-cell.ensures in
    (e.cell ∙ c.requires.names.0, e.scribe.0 ∙ c.requires.names.0, e.scribe.1)

pub seats-requires-clause-different : goal.seats-requires-clause-different
seats-requires-clause-different g c = c.requires.different
