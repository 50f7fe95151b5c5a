use Rattle.std.proofs.Common.{◌∙◌, sym, ap, map}
use Rattle.cat_model.specs.Page.{key}
use Rattle.cat_search.specs.Rows.{bare_record}
use Rattle.cat_search.specs.Sorts.{sort_in}
use Rattle.cat_search.proofs.Ranks.{column_keys, no_keys}
use Rattle.cat_search.proofs.leaf_ranks.column_by.Goals as goal

pub returns-in-Added : goal.returns-in-Added
returns-in-Added c =
    let rows = c.args.segment.now.rows in
    no_keys rows ∙ ap (λ o. map (λ r. key (sort_in o) (bare_record r)) rows) (sym c.in-Added.is)

pub returns-in-Rising : goal.returns-in-Rising
returns-in-Rising c =
    let rows = c.args.segment.now.rows in
    column_keys c.in-Rising.field.name.now rows c.column_of.result c.column_of.ensures ∙ ap (λ o. map (λ r. key (sort_in o) (bare_record r)) rows) (sym c.in-Rising.is)

pub returns-in-Falling : goal.returns-in-Falling
returns-in-Falling c =
    let rows = c.args.segment.now.rows in
    column_keys c.in-Falling.field.name.now rows c.column_of-in-Falling.result c.column_of-in-Falling.ensures ∙ ap (λ o. map (λ r. key (sort_in o) (bare_record r)) rows) (sym c.in-Falling.is)
