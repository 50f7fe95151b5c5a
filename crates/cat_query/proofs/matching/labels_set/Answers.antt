use Rattle.std.proofs.Common.{◌∙◌, ap, length, false}
use Rattle.std.specs.Prelude.{Some}
use Rattle.cat_model.specs.Item as model
use Rattle.cat_query.specs.Tests.{passes}
use Rattle.cat_query.proofs.RowTests.{retold, all_say, only_labels}
use Rattle.cat_query.proofs.matching.labels_set.Goals as goal

pub returns-in_default : goal.returns-in_default
returns-in_default c = retold c.none.result (all_say false (λ x. passes c.args.test.now (Some (model.Content.labels x))) (only_labels c.args.test.now c.in_default.not-Label c.in_default.not-LabelPrefix) c.args.labels.now c.len.result (c.len.ensures.value ∙ ap length c.terms-in_default.ensures)) c.none.ensures.ok
