use Rattle.std.proofs.Common.{None, subst}
use Rattle.std.specs.Prelude.{slice_index_or}
use Rattle.cat_model.specs.Page.{Key}
use Rattle.cat_search.specs.Bars.{IsLeftOut}
use Rattle.cat_search.specs.Candidates.{mark_standing}
use Rattle.cat_search.proofs.Bars.{key-of_row}
use Rattle.cat_search.proofs.number_bar.NumberRowsBar.renew.Goals as goal

pub returns-clause-bar : goal.returns-clause-bar
returns-clause-bar c = λ row out.
    let rows = c.args.self.now in
    subst (IsLeftOut rows.order (mark_standing c.args.mark.now) c.args.best.now) (key-of_row Key.number rows.column.now row) (c.of-self.ensures (slice_index_or rows.column.now row None) out)
