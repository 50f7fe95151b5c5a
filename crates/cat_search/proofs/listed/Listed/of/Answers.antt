use Rattle.std.proofs.Common.{◌∙◌, length, map, sym, ap}
use Rattle.std.proofs.lemmas.List.{length-map}
use Rattle.cat_model.specs.RowSets.{both, indices}
use Rattle.cat_model.specs.View.{row_matches}
use Rattle.cat_query.specs.View.{query_of}
use Rattle.cat_views.proofs.Selected.{length-joined, selected-joined}
use Rattle.cat_search.proofs.listed.Listed.of.Goals as goal

pub returns-clause-ok : goal.returns-clause-ok
returns-clause-ok c =
    let q = query_of c.args.query.now in
    let leaf = c.args.leaf.now in
    selected-joined (row_matches q) leaf.live leaf.segment.rows

pub returns-clause-long : goal.returns-clause-long
returns-clause-long c =
    let q = query_of c.args.query.now in
    let leaf = c.args.leaf.now in
    let many = length-map leaf.segment.rows (row_matches q) in
    length-joined both (map (row_matches q) leaf.segment.rows) leaf.live (many ∙ sym c.live-live.ensures.long) ∙ c.live-live.ensures.long
