use Rattle.cat_model.specs.Item.{Content}
use Rattle.cat_query.proofs.RowTests.{retold, content_rows}
use Rattle.cat_query.proofs.matching.column_set.Goals as goal

pub returns-in-Text : goal.returns-in-Text
returns-in-Text c = rw c.in-Text.is (retold c.words_set.result (content_rows Content.words c.args.test.now c.in-Text.terms) c.words_set.ensures)

pub returns-in-Keyword : goal.returns-in-Keyword
returns-in-Keyword c = rw c.in-Keyword.is (retold c.keywords_set.result (content_rows Content.keyword c.args.test.now c.in-Keyword.keywords) c.keywords_set.ensures)

pub returns-in-Number : goal.returns-in-Number
returns-in-Number c = rw c.in-Number.is (retold c.numbers_set.result (content_rows Content.number c.args.test.now c.in-Number.numbers) c.numbers_set.ensures)

pub returns-in-Facet : goal.returns-in-Facet
returns-in-Facet c = rw c.in-Facet.is (retold c.labels_set.result (content_rows Content.labels c.args.test.now c.in-Facet.labels) c.labels_set.ensures)
