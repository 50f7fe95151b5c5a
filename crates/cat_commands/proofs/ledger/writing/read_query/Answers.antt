use Rattle.std.proofs.Common.{subst, sym}
use Rattle.cat_model.specs.Faults.{Fault}
use Rattle.cat_commands.proofs.ledger.writing.read_query.Goals as goal

pub returns-clause-due : goal.returns-clause-due
returns-clause-due g c = λ place fault. c.parse.ensures.due place (subst (λ schema. Fault schema c.args.text.now place) (sym c.schema.ensures) fault)
