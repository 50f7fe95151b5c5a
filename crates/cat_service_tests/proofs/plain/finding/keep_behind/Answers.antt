use Rattle.std.proofs.Common.{rules}
use Rattle.std.proofs.lemmas.Fn.{filter_same}
use Rattle.cat_service_tests.proofs.plain.finding.keep_behind.Goals as goal

pub returns-in-Some : goal.returns-in-Some
returns-in-Some c = rw c.in-Some.is (filter_same _ _ _ (λ x b f' k. search rules) _ _ c.retain.ensures.filtered)
