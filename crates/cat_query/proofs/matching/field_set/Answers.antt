use Rattle.std.proofs.Common.{◌∙◌, ap, replicate, false}
use Rattle.cat_segment.specs.Contents.{contents_of}
use Rattle.cat_query.proofs.RowTests.{retold, column_rows, no_column}
use Rattle.cat_query.proofs.matching.field_set.Goals as goal

pub returns-in-Some : goal.returns-in-Some
returns-in-Some c = retold c.column_set.result (column_rows c.args.name.now c.args.test.now c.args.segment.now.rows (contents_of c.in-Some.column.now) (rw c.as_str.ensures at c.in-Some.ensures)) c.column_set.ensures

pub returns-in-None : goal.returns-in-None
returns-in-None c = retold c.none.result (ap (λ n. replicate n false) c.len.ensures.same ∙ no_column c.args.name.now c.args.test.now c.args.segment.now.rows (rw c.as_str.ensures at c.in-None.ensures)) c.none.ensures.ok
