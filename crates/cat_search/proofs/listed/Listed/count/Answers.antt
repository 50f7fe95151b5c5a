use Rattle.std.proofs.Common.{◌∙◌, count_by, ap}
use Rattle.cat_model.specs.View.{row_matches}
use Rattle.cat_query.specs.View.{query_of}
use Rattle.cat_search.proofs.ListedRows.{hits_counted, hits_within}
use Rattle.cat_search.proofs.listed.Listed.count.Goals as goal

pub count_live-requires : goal.count_live-requires
count_live-requires c =
    let listed = c.self.inside in
    hits_within (row_matches (query_of listed.query.now)) listed.leaf.now.segment.rows listed.leaf.now.live listed.rows.now c.self.invariant.0 c.self.invariant.1

pub returns : goal.returns
returns c =
    let listed = c.self.inside in
    c.count_live.ensures
    ∙ hits_counted (row_matches (query_of listed.query.now)) listed.leaf.now.segment.rows listed.leaf.now.live listed.rows.now c.self.invariant.0 c.self.invariant.1
    ∙ ap (count_by (λ b. b)) c.self.view_is
