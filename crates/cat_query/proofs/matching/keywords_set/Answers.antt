use Rattle.std.proofs.Common.{◌∙◌, ap, length, false}
use Rattle.std.specs.Prelude.{Some}
use Rattle.std.proofs.lemmas.List.{length-map}
use Rattle.cat_model.specs.Item as model
use Rattle.cat_model.specs.Text.{same_text, has_prefix}
use Rattle.cat_model.specs.Ordinals.{texts_of}
use Rattle.cat_query.specs.Tests.{passes}
use Rattle.cat_query.proofs.RowTests.{retold, all_say, only_keywords, keyword_rows, range_rows}
use Rattle.cat_query.proofs.matching.keywords_set.Goals as goal

pub returns-in-Keyword : goal.returns-in-Keyword
returns-in-Keyword c =
    rw c.in-Keyword.is (retold c.rows_with.result (keyword_rows (same_text c.in-Keyword.text) c.terms.result.now c.args.keywords.now c.terms.ensures) (rw c.as_str.ensures at c.rows_with.ensures.ok))

pub returns-in-KeywordPrefix : goal.returns-in-KeywordPrefix
returns-in-KeywordPrefix c =
    rw c.in-KeywordPrefix.is (retold c.prefix.result (keyword_rows (has_prefix c.in-KeywordPrefix.prefix) c.terms-in-KeywordPrefix.result.now c.args.keywords.now c.terms-in-KeywordPrefix.ensures) (rw c.as_str-in-KeywordPrefix.ensures at c.prefix.ensures.ok))

pub returns-in-KeywordRange : goal.returns-in-KeywordRange
returns-in-KeywordRange c =
    rw c.in-KeywordRange.is (range_rows c.as_ref.result c.as_ref-in-KeywordRange.result c.in-KeywordRange.low c.in-KeywordRange.high c.terms-in-KeywordRange.result.now c.args.keywords.now c.between.result
    c.as_ref.ensures.value c.as_ref-in-KeywordRange.ensures.value c.terms-in-KeywordRange.ensures c.between.ensures.ok)

pub returns-in_default : goal.returns-in_default
returns-in_default c = retold c.none.result (all_say false (λ x. passes c.args.test.now (Some (model.Content.keyword x))) (only_keywords c.args.test.now c.in_default.not-Keyword c.in_default.not-KeywordPrefix c.in_default.not-KeywordRange) c.args.keywords.now c.len.result (c.len.ensures.value ∙ ap length c.terms-in_default.ensures ∙ length-map c.args.keywords.now texts_of)) c.none.ensures.ok
