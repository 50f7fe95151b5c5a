use Rattle.std.proofs.Common.{◌∙◌, length, map, ap, sym}
use Rattle.std.proofs.lemmas.List.{length-map}
use Rattle.cat_model.specs.RowSets.{both, joined}
use Rattle.cat_model.specs.View.{row_matches}
use Rattle.cat_query.specs.View.{query_of}
use Rattle.cat_search.proofs.listed.Listed.to_set.Goals as goal

pub returns : goal.returns
returns c =
    let listed = c.self.inside in
    let test = row_matches (query_of listed.query.now) in
    let found = c.into_rows-rows.ensures ∙ c.in_ok-matches.ensures.ok ∙ ap (λ s. map test s.rows) c.segment.ensures in
    record {
      ok = c.and_with.ensures ∙ ap (λ s. joined both s c.rows.result.now) found
          ∙ ap (joined both (map test listed.leaf.now.segment.rows)) (c.rows.ensures ∙ c.live.ensures.value) ∙ c.self.view_is;
    }

pub and_with-requires : goal.and_with-requires
and_with-requires c =
    let listed = c.self.inside in
    let test = row_matches (query_of listed.query.now) in
    let found = c.into_rows-rows.ensures ∙ c.in_ok-matches.ensures.ok ∙ ap (λ s. map test s.rows) c.segment.ensures in
    ap length found ∙ length-map listed.leaf.now.segment.rows test ∙ sym c.live.ensures.long ∙ sym (ap length (c.rows.ensures ∙ c.live.ensures.value))
