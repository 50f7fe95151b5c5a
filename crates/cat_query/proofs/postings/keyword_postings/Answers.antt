use Rattle.std.proofs.Common.{◌∙◌, ap}
use Rattle.cat_model.specs.RowSets.{indices}
use Rattle.cat_model.specs.Text.{same_text}
use Rattle.cat_query.proofs.RowTests.{keyword_rows}
use Rattle.cat_query.proofs.postings.keyword_postings.Goals as goal

pub returns-in-Keyword : goal.returns-in-Keyword
returns-in-Keyword c =
    rw c.in-Keyword.is ((rw c.as_str.ensures at c.postings.ensures) ∙ ap indices (keyword_rows (same_text c.in-Keyword.text) c.terms.result.now c.args.keywords.now c.terms.ensures))
