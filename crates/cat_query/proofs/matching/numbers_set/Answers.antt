use Rattle.std.proofs.Common.{ap, false, length, ◌∙◌}
use Rattle.std.specs.Prelude.{Some}
use Rattle.cat_model.specs.Item as model
use Rattle.cat_query.specs.Tests.{passes}
use Rattle.cat_query.proofs.RowTests.{retold, all_say, only_numbers}
use Rattle.cat_query.proofs.matching.numbers_set.Goals as goal

pub returns-in-NumberRange : goal.returns-in-NumberRange
returns-in-NumberRange c = rw c.in-NumberRange.is c.between-in-NumberRange.ensures.ok

pub returns-in_default : goal.returns-in_default
returns-in_default c = retold c.none.result (all_say false (λ x. passes c.args.test.now (Some (model.Content.number x))) (only_numbers c.args.test.now c.in_default.not-Number c.in_default.not-NumberRange) c.args.numbers.now c.len.result (c.len.ensures.value ∙ ap length c.values.ensures)) c.none.ensures.ok
