use Rattle.std.proofs.Common.{◌∙◌, length, sym, ap}
use Rattle.cat_model.specs.RowSets.{both, joined}
use Rattle.cat_model.specs.View.{row_matches, selected}
use Rattle.cat_query.specs.View.{query_of}
use Rattle.cat_views.specs.cat_segment.Contents.{contents_told, contents_under_name}
use Rattle.cat_views.proofs.Selected.{selected-joined}
use Rattle.cat_search.proofs.Tested.{as_many, between_long, range_matches}
use Rattle.cat_search.proofs.in_range.InRange.of.Goals as goal

pub in_column-requires : goal.in_column-requires
in_column-requires c =
    let range = c.in_ok-range.range in
    let leaf = c.args.leaf.now in
    let is = ap contents_told (sym c.in-Number.is) ∙ c.in_ok-numbers.ensures ∙ ap (λ s. contents_under_name range.field.now s.rows) c.segment.ensures in
    as_many (query_of c.args.query.now) range.field.now range.low range.high c.in_ok-range.ensures c.in-Number.numbers leaf.segment.rows is ∙ sym c.live-live.ensures.long

pub returns-clause-ok : goal.returns-clause-ok
returns-clause-ok c =
    let range = c.in_ok-range.range in
    let q = query_of c.args.query.now in
    let leaf = c.args.leaf.now in
    let is = ap contents_told (sym c.in-Number.is) ∙ c.in_ok-numbers.ensures ∙ ap (λ s. contents_under_name range.field.now s.rows) c.segment.ensures in
    ap (λ s. selected s leaf.segment.rows) (c.in_column.ensures ∙ ap (λ s. joined both s leaf.live) (range_matches q range.field.now range.low range.high c.in_ok-range.ensures c.in-Number.numbers leaf.segment.rows is))
    ∙ selected-joined (row_matches q) leaf.live leaf.segment.rows

pub returns-clause-long : goal.returns-clause-long
returns-clause-long c =
    let range = c.in_ok-range.range in
    let leaf = c.args.leaf.now in
    let is = ap contents_told (sym c.in-Number.is) ∙ c.in_ok-numbers.ensures ∙ ap (λ s. contents_under_name range.field.now s.rows) c.segment.ensures in
    let many = as_many (query_of c.args.query.now) range.field.now range.low range.high c.in_ok-range.ensures c.in-Number.numbers leaf.segment.rows is ∙ sym c.live-live.ensures.long in
    ap length c.in_column.ensures ∙ between_long range.low range.high c.in-Number.numbers leaf.live many ∙ c.live-live.ensures.long
