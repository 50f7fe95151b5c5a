use Rattle.std.proofs.Common.{◌∙◌}
use Rattle.cat_search.proofs.ListedRows.{lists_row}
use Rattle.cat_search.proofs.listed.lists.Goals as goal

pub returns : goal.returns
returns c = λ set is. c.is_ok.ensures.value ∙ lists_row c.args.rows.now c.args.row c.binary_search.result c.binary_search.ensures.position set is
