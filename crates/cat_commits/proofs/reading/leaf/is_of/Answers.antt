use Rattle.std.proofs.Common.{sym, ◌∙◌, arith}
use Rattle.cat_commits.proofs.reading.leaf.is_of.Goals as goal

pub returns-then-number : goal.returns-then-number
returns-then-number c = (λ yes. (omega arith, sym c.schema.ensures ∙ c.same_schema.ensures.0 yes), λ both. c.same_schema.ensures.1 (c.schema.ensures ∙ both.1))
