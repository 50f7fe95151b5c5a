use Rattle.std.proofs.Common.{sym, arith, ◌∙◌}
use Rattle.std.proofs.lemmas.Bool.{true≢false}
use Rattle.cat_columns.proofs.Laid.{codes_covered, covered_codes}
use Rattle.cat_columns.proofs.keywords.are_codes.Goals as goal

pub returns-then-len-codes : goal.returns-then-len-codes
returns-then-len-codes c = (λ e. absurd (true≢false (sym e)), λ are. let few = are.few in absurd (omega arith))

pub returns-then-not-codes_are_within : goal.returns-then-not-codes_are_within
returns-then-not-codes_are_within c = (λ e. absurd (true≢false (sym e)), λ are. absurd (true≢false (sym (c.codes_are_within.ensures.1 are.within) ∙ c.if-not-codes_are_within.true)))

pub returns : goal.returns
returns c = (
  λ e. covered_codes c.args.len c.args.codes.now (omega arith) (c.codes_are_within.ensures.0 c.if-not-codes_are_within.false) (c.covers.ensures.0 e),
  λ are. c.covers.ensures.1 (codes_covered c.args.len c.args.codes.now are),
)
