use Rattle.cat_views.specs.cat_segment.Contents.{contents_of}
use Rattle.cat_views.specs.cat_segment.Laid.{column_kind}
use Rattle.cat_merge.specs.Fields.{field_kind_at}
use Rattle.cat_merge.proofs.Read.{texts_told}
use Rattle.cat_merge.proofs.merged_terms.terms_at.Goals as goal

pub returns : goal.returns
returns c =
    texts_told (column_kind c.column.result.now) (field_kind_at c.args.index c.args.input.now) c.args.index c.args.input.now.segment.rows (contents_of c.column.result.now) c.in-Some.terms.now
    c.in-Some.ensures c.column.ensures.kind c.column.ensures.contents
