use Rattle.std.proofs.Common.{◌∙◌, length, map, ap, sym}
use Rattle.std.proofs.lemmas.List.{length-map}
use Rattle.cat_model.specs.RowSets.{both, joined}
use Rattle.cat_views.specs.cat_segment.Ranges.{lies_between}
use Rattle.cat_search.proofs.in_range.InRange.into_rows.Goals as goal

pub returns : goal.returns
returns c =
    let range = c.self.inside in
    record {
      ok = c.and_with.ensures ∙ ap (λ s. joined both s c.rows.result.now) c.in_ok-rows.ensures.ok
          ∙ ap (joined both (map (lies_between range.low range.high) range.numbers.now)) (c.rows.ensures ∙ c.live.ensures.value) ∙ c.self.view_is;
    }

pub and_with-requires : goal.and_with-requires
and_with-requires c =
    let range = c.self.inside in
    ap length c.in_ok-rows.ensures.ok ∙ length-map range.numbers.now (lies_between range.low range.high) ∙ c.self.invariant ∙ sym (ap length (c.rows.ensures ∙ c.live.ensures.value))
