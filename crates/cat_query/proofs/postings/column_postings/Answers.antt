use Rattle.cat_model.specs.Item.{Content}
use Rattle.cat_query.proofs.Listing.{relisted}
use Rattle.cat_query.proofs.RowTests.{content_rows}
use Rattle.cat_query.proofs.postings.column_postings.Goals as goal

pub returns-in-Text : goal.returns-in-Text
returns-in-Text c = rw c.in-Text.is (relisted c.word_postings.result (content_rows Content.words c.args.test.now c.in-Text.terms) c.word_postings.ensures)

pub returns-in-Keyword : goal.returns-in-Keyword
returns-in-Keyword c = rw c.in-Keyword.is (relisted c.keyword_postings.result (content_rows Content.keyword c.args.test.now c.in-Keyword.keywords) c.keyword_postings.ensures)

pub returns-in-Facet : goal.returns-in-Facet
returns-in-Facet c = rw c.in-Facet.is (relisted c.label_postings.result (content_rows Content.labels c.args.test.now c.in-Facet.labels) c.label_postings.ensures)
