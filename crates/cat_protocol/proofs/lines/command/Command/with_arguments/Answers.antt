use Rattle.std.proofs.Common.{◌∷◌, ◌++◌, ap}
use Rattle.cat_protocol.proofs.lines.command.Command.with_arguments.Goals as goal

pub not_writing-requires-clause-others : goal.not_writing-requires-clause-others
not_writing-requires-clause-others c = let other = c.in_default in (other.not-PUT, other.not-DEL, other.not-DELW)

pub returns-in_default : goal.returns-in_default
returns-in_default c = c.not_writing.ensures

pub returns-in-PUT : goal.returns-in-PUT
returns-in-PUT c = record { form = tt; spelled = ap (λ l. l ++ 32 ∷ c.args.rest.now) c.in-PUT.is }

pub returns-in-DEL : goal.returns-in-DEL
returns-in-DEL c = record { form = tt; spelled = ap (λ l. l ++ 32 ∷ c.args.rest.now) c.in-DEL.is }

pub returns-in-DELW : goal.returns-in-DELW
returns-in-DELW c = record { form = tt; spelled = ap (λ l. l ++ 32 ∷ c.args.rest.now) c.in-DELW.is }
