use Rattle.std.proofs.Common.{false}
use Rattle.std.specs.Prelude.{Some}
use Rattle.cat_model.specs.Item as model
use Rattle.cat_query.specs.Tests.{passes}
use Rattle.cat_query.proofs.RowTests.{retold, all_say, only_words}
use Rattle.cat_query.proofs.matching.words_set.Goals as goal

pub returns-in_default : goal.returns-in_default
returns-in_default c = retold c.none.result (all_say false (λ x. passes c.args.test.now (Some (model.Content.words x))) (only_words c.args.test.now c.in_default.not-Word c.in_default.not-WordPrefix) c.args.terms.now c.len.result c.len.ensures.value) c.none.ensures.ok
