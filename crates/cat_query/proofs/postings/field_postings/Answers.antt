use Rattle.cat_segment.specs.Contents.{contents_of}
use Rattle.cat_query.proofs.Listing.{relisted}
use Rattle.cat_query.proofs.RowTests.{column_rows}
use Rattle.cat_query.proofs.postings.field_postings.Goals as goal

pub returns : goal.returns
returns c = relisted c.column_postings.result (column_rows c.args.name.now c.args.test.now c.args.segment.now.rows (contents_of c.in_ok-column.column.now) (rw c.as_str.ensures at c.in_ok-column.ensures)) c.column_postings.ensures
