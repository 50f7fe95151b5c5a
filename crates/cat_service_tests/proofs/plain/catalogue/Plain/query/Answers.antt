use Rattle.std.proofs.Common.{◌∙◌, ap, subst}
use Rattle.std.specs.Prelude.{Err}
use Rattle.cat_model.specs.Grammar.{Spells}
use Rattle.cat_model.specs.Query.{Query}
use Rattle.cat_service_tests.proofs.plain.catalogue.Finds.{judged_query}
use Rattle.cat_service_tests.proofs.plain.catalogue.Plain.query.Goals as goal

pub returns-in-Memory-clause-ok : goal.returns-in-Memory-clause-ok
returns-in-Memory-clause-ok c =
    let parsed = c.parse.ensures in
    subst (λ w. (q : Query) × Spells w.schema c.args.text.now q) c.self.view_is
    (judged_query c.self.inside.schema c.args.text.now parsed.judged.0 parsed.judged.1 c.parse.result parsed.due (c.in-Err.is ∙ ap Err c.in-Memory.is))
