-- What a reply means.
use Rattle.std.specs.Prelude.{option_map, Result, Ok, Err}
use Rattle.cat_base.specs.declared.refusal.Refusal.{Refusal}
use Rattle.cat_model.specs.Answer as model
use Rattle.cat_model.specs.Run as run
use Rattle.cat_service_tests.specs.plain.Counts.{facets_told}
use Rattle.cat_service_tests.specs.declared.plain.reply.Answer.{Answer}
use Rattle.cat_service_tests.specs.declared.plain.reply.Answer.TheVariants.{Number, Found, Counts, Source}

abbrev pub plain_answer : Answer → run.Answer
plain_answer (Number n) = run.Answer.number n
plain_answer (Found page) = run.Answer.found (model.Found.page page)
plain_answer (Counts counts) = run.Answer.found (model.Found.facets (facets_told counts))
plain_answer (Source bytes) = run.Answer.found (model.Found.source (option_map (λ b. b.items) bytes))

abbrev pub plain_reply : Result Answer Refusal → run.Reply
plain_reply (Ok a) = Ok (plain_answer a)
plain_reply (Err e) = Err e
