use Rattle.std.proofs.Common.{sym, arith}
use Rattle.cat_query.proofs.Everything.{not_one_clause}
use Rattle.cat_query.proofs.query.Query.is_everything.Goals as goal

pub returns-in_default-2-clause-value : goal.returns-in_default-2-clause-value
returns-in_default-2-clause-value c = sym (not_one_clause c.args.self.now.clauses.items (λ e. omega (arith, c.in_default.len_at_least, c.as_slice.ensures.len)))
