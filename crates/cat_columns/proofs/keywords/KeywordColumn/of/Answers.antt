use Rattle.cat_columns.proofs.Codes.{keywords_few, keywords_there, IsKeywords-of}
use Rattle.cat_columns.proofs.keywords.KeywordColumn.of.Goals as goal

pub codes_of-requires-clause-few : goal.codes_of-requires-clause-few
codes_of-requires-clause-few c = keywords_few c.args.values.now c.in_ok-keywords_in.field-0.keys _ c.in_ok-dictionary.ensures.ok c.in_ok-keywords_in.ensures.ok c.requires.few

pub codes_of-requires-clause-there : goal.codes_of-requires-clause-there
codes_of-requires-clause-there c = keywords_there c.args.values.now c.in_ok-keywords_in.field-0.keys _ c.in_ok-dictionary.ensures.ok c.in_ok-keywords_in.ensures.ok

pub invariant_of-result : goal.invariant_of-result
invariant_of-result c =
    IsKeywords-of c.args.values.now c.in_ok-keywords_in.field-0.keys _ c.in_ok-dictionary.ensures.ok c.in_ok-keywords_in.ensures.ok
    c.in_ok-codes.codes.items c.requires.few c.in_ok-codes.ensures.values c.in_ok-codes.ensures.bound
