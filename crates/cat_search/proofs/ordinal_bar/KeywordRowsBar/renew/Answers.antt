use Rattle.std.proofs.Common.{◌∙◌, option_map, ap, subst}
use Rattle.cat_model.specs.Page.{Key}
use Rattle.cat_search.specs.Bars.{IsLeftOut}
use Rattle.cat_search.specs.Candidates.{mark_standing}
use Rattle.cat_search.specs.OrdinalBars.{IsOrdinalBarOf}
use Rattle.cat_search.proofs.Bars.{key-of_row}
use Rattle.cat_search.proofs.ordinal_bar.KeywordRowsBar.renew.Goals as goal

pub returns-clause-bar : goal.returns-clause-bar
returns-clause-bar c = λ row out.
    let rows = c.args.self.now in
    let mark = mark_standing c.args.mark.now in
    let is = subst (λ texts. IsOrdinalBarOf rows.order mark c.args.best.now texts c.renewed-self.result) c.dictionary.ensures c.renewed-self.ensures.bar in
    subst (IsLeftOut rows.order mark c.args.best.now) (ap (option_map Key.keyword) out.3 ∙ key-of_row Key.keyword rows.column.now row) (is out.0 out.1 out.2)
